-- The first of some places in a row that passes a test. A search by a loop keeps `first_from p k 0 ≡ first_from p (k - i) i`: a turn
-- is `first_on` or `first_here`, the end `first_end`. What the place says that it comes to is below.
use Rattle.std.specs.Prelude.{◌≡◌, refl, Bool, true, false, ℕ, zero, suc, ◌+◌, ◌-◌, ◌<◌, ◌≤◌}
use Rattle.std.proofs.Common.{sym, ap, ◌∙◌, true≢false, arith}
use Rattle.std.proofs.Math.Decide.{dec_lt}
use Rattle.seqs.specs.Choose.{pick}

module _ (p : ℕ → Bool) where
  -- the first of n places from i on that passes; else the place behind them
  abbrev pub first_from : (n i : ℕ) → ℕ
  first_from zero i = i
  first_from (suc n) i = pick (p i) i (first_from n (i + 1))

  -- ── a loop over the first k places ──

  module _ (k : ℕ) where
    pub first_start : first_from k 0 ≡ first_from (k - 0) 0
    first_start = let all : k ≡ k - 0 = omega arith in ap (λ (n : ℕ). first_from n 0) all

    module _ (i : ℕ) where
      one_less : i < k → k - i ≡ suc (k - (i + 1))
      one_less h = omega arith

      pub first_on : i < k → p i ≡ false → first_from (k - i) i ≡ first_from (k - (i + 1)) (i + 1)
      first_on h e = rw (one_less h, e) refl

      pub first_here : i < k → p i ≡ true → first_from (k - i) i ≡ i
      first_here h e = rw (one_less h, e) refl

      pub first_end : i ≤ k → k ≤ i → first_from (k - i) i ≡ k
      first_end g h =
          let none_left : k - i ≡ 0 = omega arith in
          let there : i ≡ k = omega arith in
          rw none_left there

  -- ── what the place says ──

  -- none of the n places from i on passes
  abbrev pub NonePasses : (n i : ℕ) → Type 0
  NonePasses n i = (j : ℕ) → i ≤ j → j < i + n → p j ≡ false

  -- the place passes and none before it does, or none does at all
  pub data Sought (n i : ℕ) : Type 0 where
    there : (j : ℕ) → first_from n i ≡ i + j → j < n → p (i + j) ≡ true → NonePasses j i → Sought n i
    nowhere : first_from n i ≡ i + n → NonePasses n i → Sought n i

  pub sought : (n i : ℕ) → Sought n i
  sought zero i = nowhere (omega arith) (λ j g h. absurd (omega arith))
  sought (suc n) i = by_test (p i) refl (sought n (i + 1))
    where
      -- j behind the next place is one more behind this one
      behind : (j : ℕ) → i + 1 + j ≡ i + suc j
      behind j = omega arith

      here : i ≡ i + 0
      here = omega arith

      nor_later : p i ≡ false → (n : ℕ) → NonePasses n (i + 1) → NonePasses (suc n) i
      nor_later e n f j g h =
          elim (dec_lt i j) [
            | yes l ↦ f j (omega arith) (omega arith)
            | no l ↦ (let same : j ≡ i = omega arith in ap p same ∙ e)
          ]

      by_test : (b : Bool) → p i ≡ b → Sought n (i + 1) → Sought (suc n) i
      by_test true e s = there 0 (rw e here) (omega arith) (ap p (sym here) ∙ e) (λ j g h. absurd (omega arith))
      by_test false e (there j a l t f) =
          there (suc j) (rw e (a ∙ behind j)) (omega arith) (ap p (sym (behind j)) ∙ t) (nor_later e j f)
      by_test false e (nowhere a f) = nowhere (rw e (a ∙ behind n)) (nor_later e n f)

  -- of the first k places
  module _ (k : ℕ) where
    -- it comes to one of them or to k
    pub first_most : first_from k 0 ≤ k
    first_most = elim (sought k 0) [ there j a l t f ↦ omega (arith, a) | nowhere a f ↦ omega (arith, a) ]

    -- where it comes to one, that one passes
    pub first_passes : (i : ℕ) → first_from k 0 ≡ i → i < k → p i ≡ true
    first_passes i e h =
        elim (sought k 0) [
          | there j a l t f ↦ ap p (sym e ∙ a) ∙ t
          | nowhere a f ↦ absurd (omega (arith, a))
        ]

    -- and none before it does
    pub first_none_before : (i : ℕ) → first_from k 0 ≡ i → (j : ℕ) → j < i → p j ≡ false
    first_none_before i e j h =
        elim (sought k 0) [
          | there b a l t f ↦ f j (omega arith) (omega (arith, a))
          | nowhere a f ↦ f j (omega arith) (omega (arith, a))
        ]

    -- where none passes it comes to k
    pub first_nowhere : ((j : ℕ) → j < k → p j ≡ false) → first_from k 0 ≡ k
    first_nowhere f =
        elim (dec_lt (first_from k 0) k) [
          | yes l ↦ absurd (true≢false (sym (first_passes (first_from k 0) refl l) ∙ f (first_from k 0) l))
          | no l ↦ omega (arith, first_most)
        ]

    -- where one passes it comes to none behind that
    pub first_reaches : (i : ℕ) → i < k → p i ≡ true → first_from k 0 ≤ i
    first_reaches i h t =
        elim (dec_lt i (first_from k 0)) [
          | yes l ↦ absurd (true≢false (sym t ∙ first_none_before (first_from k 0) refl i l))
          | no l ↦ omega arith
        ]
