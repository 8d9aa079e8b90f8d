-- A search of the first k leaves, leaf by leaf: at the first that passes it ends, and past the last of them there is none.
use mathlib.Core.Path.{◌≡◌, refl, sym, ap, ◌∙◌}
use mathlib.Core.Bool.{Bool, true, false, true≢false}
use mathlib.Core.List.{List}
use Prim.Native.Nat.{ℕ, ◌<◌}
use native.Mathlib.Omega.{arith}
use native.Mathlib.Decide.{dec_lt}
use borrow.Author.Tests.{lt-ltb, le-ltb}
use Rattle.std.specs.Prelude.{Some, None, unwrap_or}
use Rattle.seqs.specs.First.{first_from, first_most, first_passes, first_nowhere, first_reaches}
use Rattle.rows.specs.declared.Row.{Row}
use Rattle.rows.specs.Rows.{row_at, seek, found}

-- a place that passes, where none before it does, is the first
pub first_is : (q : ℕ → Bool) (k i : ℕ) → i < k → q i ≡ true → ((j : ℕ) → j < i → q j ≡ false) → first_from q k 0 ≡ i
first_is q k i h t none =
    elim (dec_lt (first_from q k 0) i) [
      | yes l ↦ absurd (true≢false (sym (first_passes q k (first_from q k 0) refl (omega arith)) ∙ none (first_from q k 0) l))
      | no l ↦ omega (arith, first_reaches q k i h t)
    ]

-- none of the first n leaves passes
abbrev pub NonePass : (Row → Bool) → List ℕ → (n : ℕ) → Type 0
NonePass p m n = (j : ℕ) → j < n → p (row_at m j) ≡ false

module _ (p : Row → Bool) (m : List ℕ) (k : ℕ) where
  pub found_here : (i : ℕ) (r : Row) → r ≡ row_at m i → p r ≡ true → i < k → NonePass p m i → found p m k ≡ Some i
  found_here i r e t h none =
      let here : seek p m k 0 ≡ i = first_is (λ j. p (row_at m j)) k i h (ap p (sym e) ∙ t) none in
      rw (here, lt-ltb i k h) refl

  pub found_none : NonePass p m k → found p m k ≡ None
  found_none none = rw (first_nowhere (λ i. p (row_at m i)) k none, le-ltb k k (omega arith)) refl

  -- in place of none, the place behind them
  pub found_or : unwrap_or (found p m k) k ≡ seek p m k 0
  found_or =
      elim (dec_lt (seek p m k 0) k) [
        | yes l ↦ rw (lt-ltb (seek p m k 0) k l) refl
        | no n ↦ rw (le-ltb (seek p m k 0) k (omega arith)) (omega (arith, first_most (λ i. p (row_at m i)) k))
      ]
