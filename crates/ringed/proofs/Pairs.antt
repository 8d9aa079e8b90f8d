-- Leaves whose items are above 0 are one ascending ring just where no pair of them breaks it, and the first pair that does is the
-- first: none before it does, and there is none only where no pair does.
use mathlib.Core.Path.{◌≡◌, refl, sym, ap, ap₂, ◌∙◌}
use mathlib.Core.Bool.{Bool, true, false, true≢false}
use mathlib.Core.List.Memᴰ
use mathlib.Core.List.{List, [], ◌∷◌, Memᴰ}
use mathlib.Core.Logic.{inl, inr, ◌≢◌}
use Prim.Native.Nat.{ℕ, zero, suc, ◌<◌}
use native.Mathlib.Nat.{not-suc-le-zero}
use native.Mathlib.Omega.{arith}
use native.Mathlib.Decide.{ℕ_discrete}
use borrow.Author.Tests.{eqb-true, eqb-false, ltb-true, ltb-false, eq-eqb, ne_eqb, le-ltb}
use lib.Dec.{eqb, ltb}
use lib.ListN.{length}
use Rattle.seqs.specs.Choose.{pick, either, opposite, either_yes}
use Rattle.seqs.specs.First.{first_passes, first_none_before, first_nowhere}
use Rattle.paper.specs.Strings.{in_gap}
use Rattle.rings.proofs.Gaps.{gap_holds_lem, gap_apart}
use Rattle.rows.specs.declared.Row.{Row}
use Rattle.rows.specs.Rows.{of_item, gap_of}
use Rattle.ringed.specs.Ringed.{Distinct, Closed}
use Rattle.rows.specs.Pairs.{row_of, any_of, breaks, Unbroken, break_of, breaker, break_at, no_break, first_break, BreaksFirst}

-- ── tests ──

neither : (a b : Bool) → either a b ≡ false → (a ≡ false) × (b ≡ false)
neither true b e = absurd (true≢false e)
neither false b e = (refl, e)

no_opposite : (b : Bool) → opposite b ≡ false → b ≡ true
no_opposite true e = refl
no_opposite false e = absurd (true≢false e)

not_true : (b : Bool) → (b ≡ true → ⊥) → b ≡ false
not_true true f = absurd (f refl)
not_true false f = refl

-- of a leaf alone the first test is made, and of two leaves the second
of_one : (i : ℕ) (a b : Bool) → pick (eqb i i) a b ≡ a
of_one i a b = rw (eq-eqb i i refl) refl

of_two_lem : (i j : ℕ) (a b : Bool) → i ≢ j → pick (eqb i j) a b ≡ b
of_two_lem i j a b n = rw (ne_eqb i j n) refl

-- ── leaves by their places ──

row_in_lem : (l : List Row) (i : ℕ) → i < length l → Memᴰ (row_of l i) l
row_in_lem [] i h = absurd (not-suc-le-zero h)
row_in_lem (r ∷ l) zero h = Memᴰ.head refl
row_in_lem (r ∷ l) (suc i) h = Memᴰ.tail (row_in_lem l i (omega arith))

place_of : (r : Row) (l : List Row) → Memᴰ r l → (i : ℕ) × (i < length l) × (row_of l i ≡ r)
place_of r [] m = elim m [ ]
place_of r (s ∷ l) m =
    elim (Memᴰ.cases_cons m) [
      | inl e ↦ (0, omega arith, sym e)
      | inr k ↦ (let p = place_of r l k in (suc p.0, omega (arith, p.1), p.2))
    ]

any_of_lem : (p : Row → Bool) (l : List Row) → any_of p l ≡ true → (s : Row) × Memᴰ s l × (p s ≡ true)
any_of_lem p [] e = absurd (true≢false (sym e))
any_of_lem p (r ∷ l) e = by_test (p r) refl e (any_of_lem p l)
  where
    by_test : (b : Bool) → p r ≡ b → either b (any_of p l) ≡ true → (any_of p l ≡ true → (s : Row) × Memᴰ s l × (p s ≡ true))
        → (s : Row) × Memᴰ s (r ∷ l) × (p s ≡ true)
    by_test true t e f = (r, Memᴰ.head refl, t)
    by_test false t e f = let s = f e in (s.0, Memᴰ.tail s.1, s.2)

of_any : (p : Row → Bool) (s : Row) (l : List Row) → Memᴰ s l → p s ≡ true → any_of p l ≡ true
of_any p s [] m t = elim m [ ]
of_any p s (r ∷ l) m t =
    elim (Memᴰ.cases_cons m) [
      | inl e ↦ rw (ap p (sym e) ∙ t) refl
      | inr k ↦ rw (of_any p s l k t, either_yes) refl
    ]

-- items that differ place by place
apart_distinct : (l : List Row) → ((i j : ℕ) → i < j → j < length l → (row_of l j).item.0 ≢ (row_of l i).item.0) → Distinct l
apart_distinct [] f = tt
apart_distinct (r ∷ l) f = (
  (λ s m e. let p = place_of s l m in f 0 (suc p.0) (omega arith) (omega (arith, p.1)) (ap (λ (x : Row). x.item.0) p.2 ∙ e)),
  apart_distinct l (λ i j g h. f (suc i) (suc j) (omega arith) (omega arith)),
)

distinct_apart : (l : List Row) (i j : ℕ) → Distinct l → i ≢ j → i < length l → j < length l → (row_of l j).item.0 ≢ (row_of l i).item.0
distinct_apart [] i j d n g h = absurd (not-suc-le-zero g)
distinct_apart (r ∷ l) zero zero d n g h = absurd (n refl)
distinct_apart (r ∷ l) zero (suc j) d n g h = d.0 (row_of l j) (row_in_lem l j (omega arith))
distinct_apart (r ∷ l) (suc i) zero d n g h = λ e. d.0 (row_of l i) (row_in_lem l i (omega arith)) (sym e)
distinct_apart (r ∷ l) (suc i) (suc j) d n g h =
    distinct_apart l i j d.1 (λ e. n (ap (λ (k : ℕ). suc k) e)) (omega arith) (omega arith)

-- ── no pair breaks, and the ring is closed ──

module _ (rs : List Row) where
  -- items above 0 and no pair that breaks: one ascending ring
  pub closed_if : ((r : Row) → Memᴰ r rs → 0 < r.item.0) → Unbroken rs → Closed rs
  closed_if above whole =
      record {
        distinct = apart_distinct rs (λ i j g h. eqb-false _ _ (clash i j (λ e. omega arith) (omega arith) h).0);
        positive = above;
        leads = leading;
        clear = clearing;
      }
    where
      -- two leaves: the second's item is neither the first's nor in its gap
      clash : (i j : ℕ) → i ≢ j → i < length rs → j < length rs
          → (of_item (row_of rs j).item.0 (row_of rs i) ≡ false) × (gap_of (row_of rs j).item.0 (row_of rs i) ≡ false)
      clash i j n g h = neither _ _ (sym (of_two_lem i j _ _ n) ∙ whole i j g h)

      leading : (r : Row) → Memᴰ r rs → (s : Row) × Memᴰ s rs × (s.item.0 ≡ r.next.0)
      leading r m =
          let p = place_of r rs m in
          let s = any_of_lem _ rs (no_opposite _ (sym (of_one p.0 _ _) ∙ whole p.0 p.0 p.1 p.1)) in
          (s.0, s.1, sym (eqb-true _ _ s.2) ∙ ap (λ (x : Row). x.next.0) p.2)

      -- the gap behind an item does not hold the item itself
      own : (A A' : ℕ) → in_gap A A A' ≡ false
      own A A' = not_true _ (λ e. gap_apart (gap_holds_lem A A A' e) refl)

      clearing : (r s : Row) → Memᴰ r rs → Memᴰ s rs → in_gap s.item.0 r.item.0 r.next.0 ≡ false
      clearing r s m n =
          let p = place_of r rs m in
          let q = place_of s rs n in
          elim (ℕ_discrete p.0 q.0) [
            | yes e ↦ (
                let same : s ≡ r = sym q.2 ∙ ap (row_of rs) (sym e) ∙ p.2 in
                ap (λ (x : Row). in_gap x.item.0 r.item.0 r.next.0) same ∙ own _ _)
            | no e ↦ (
                ap₂ (λ (x y : Row). in_gap x.item.0 y.item.0 y.next.0) (sym q.2) (sym p.2)
                ∙ (clash p.0 q.0 e p.1 q.1).1)
          ]

  -- and in a ring no pair breaks
  pub closed_unbroken : Closed rs → Unbroken rs
  closed_unbroken k i j g h =
      elim (ℕ_discrete i j) [
        | yes e ↦ (
            let s = k.leads (row_of rs i) (row_in_lem rs i g) in
            ap (breaks rs i) (sym e) ∙ of_one i _ _ ∙ ap opposite (of_any _ s.0 rs s.1 (eq-eqb _ _ (sym s.2))))
        | no e ↦ (
            of_two_lem i j _ _ e
            ∙ ap₂ either (ne_eqb _ _ (distinct_apart rs i j k.distinct e g h))
            (k.clear (row_of rs i) (row_of rs j) (row_in_lem rs i g) (row_in_lem rs j h)))
      ]

  -- ── the first pair that breaks ──

  -- leaf i breaks with any
  abbrev any_broken : (i : ℕ) → Bool
  any_broken i = ltb (break_of rs i) (length rs)

  -- a leaf that breaks with none, as one before the first that breaks with any
  with_none : (i j : ℕ) → any_broken i ≡ false → j < length rs → breaks rs i j ≡ false
  with_none i j e h =
      first_none_before (breaks rs i) (length rs) (break_of rs i) refl j (omega (arith, ltb-false (break_of rs i) (length rs) e))

  before_breaker : (i j : ℕ) → i < breaker rs → j < length rs → breaks rs i j ≡ false
  before_breaker i j g h = with_none i j (first_none_before any_broken (length rs) (breaker rs) refl i g) h

  -- where there is no first pair none breaks, and where none breaks there is no first pair
  pub no_break_lem : first_break rs ≡ no_break → Unbroken rs
  unfolding first_break
  no_break_lem e = by_test (ltb (breaker rs) (length rs)) refl e
    where
      by_test : (b : Bool) → ltb (breaker rs) (length rs) ≡ b → pick b (break_at (breaker rs) (break_of rs (breaker rs))) no_break ≡ no_break
          → Unbroken rs
      by_test true t e = absurd (true≢false (cc))
      by_test false t e = λ i j g h. before_breaker i j (omega (arith, ltb-false (breaker rs) (length rs) t)) h

  pub unbroken_first : Unbroken rs → first_break rs ≡ no_break
  unfolding first_break
  unbroken_first whole =
      let all : breaker rs ≡ length rs =
      first_nowhere any_broken (length rs)
      (λ i g.
      let e = first_nowhere (breaks rs i) (length rs) (λ j h. whole i j g h) in
      le-ltb (break_of rs i) (length rs) (omega (arith, e))) in
      rw (le-ltb (breaker rs) (length rs) (omega (arith, all))) refl

  -- and the first pair is the first
  pub broken_first : (i j : ℕ) → first_break rs ≡ break_at i j → BreaksFirst rs i j
  unfolding first_break
  broken_first i j e = by_test (ltb (breaker rs) (length rs)) refl e
    where
      by_test : (b : Bool) → ltb (breaker rs) (length rs) ≡ b
          → pick b (break_at (breaker rs) (break_of rs (breaker rs))) no_break ≡ break_at i j → BreaksFirst rs i j
      by_test true t e =
          let first : breaker rs ≡ i = cc in
          let second : break_of rs i ≡ j = ap (break_of rs) (sym first) ∙ cc in
          let within : i < length rs = omega (arith, ltb-true (breaker rs) (length rs) t) in
          let within-it : j < length rs =
          omega (arith, ltb-true (break_of rs i) (length rs) (first_passes any_broken (length rs) i first within)) in
          record {
            in_first = within;
            in_second = within-it;
            broken = first_passes (breaks rs i) (length rs) j second within-it;
            none_nearer = first_none_before (breaks rs i) (length rs) j second;
            none_earlier = λ a b g h. before_breaker a b (omega arith) h;
          }
      by_test false t e = absurd (true≢false (cc))
