-- The test that leaves are one ascending ring, pair by pair: which pairs break it, and the first that does. Places count from 0.
use Rattle.std.specs.Prelude.{◌≡◌, Bool, true, false, List, [], ◌∷◌, ℕ, ◌<◌, eqb, ltb, length, get_or}
use Rattle.seqs.specs.Choose.{pick, either, opposite}
use Rattle.seqs.specs.First.{first_from}
use Rattle.rows.specs.declared.Row.{Row}
use Rattle.rows.specs.Rows.{row_at, of_item, telling}

-- leaf i of some; past the last, one of zeros
abbrev pub row_of : List Row → (i : ℕ) → Row
row_of rs i = get_or rs i (row_at [] 0)

-- one of them passes
abbrev pub any_of : (Row → Bool) → List Row → Bool
any_of p [] = false
any_of p (r ∷ l) = either (p r) (any_of p l)

-- leaf i breaks with leaf j: the item of leaf j is that of leaf i too, or lies in its gap. It breaks with itself where it leads to
-- none of them
abbrev pub breaks : List Row → (i j : ℕ) → Bool
breaks rs i j =
    pick (eqb i j)
    (opposite (any_of (of_item (row_of rs i).next.0) rs))
    (telling (row_of rs j).item.0 (row_of rs i))

-- no leaf breaks with any
abbrev pub Unbroken : List Row → Type 0
Unbroken rs = (i j : ℕ) → i < length rs → j < length rs → breaks rs i j ≡ false

-- ── the first pair ──

-- the first leaf that leaf i breaks with; else how many there are
abbrev pub break_of : List Row → (i : ℕ) → ℕ
break_of rs i = first_from (breaks rs i) (length rs) 0

-- the first leaf that breaks with any; else how many there are
abbrev pub breaker : List Row → ℕ
breaker rs = first_from (λ i. ltb (break_of rs i) (length rs)) (length rs) 0

-- the places of two leaves, of which the first breaks with the second, or no break
pub data Break : Type 0 where
  break_at : (i j : ℕ) → Break
  no_break : Break

-- the first pair that breaks, by its first place and then by its second
unfoldable pub first_break : List Row → Break
first_break rs = pick (ltb (breaker rs) (length rs)) (break_at (breaker rs) (break_of rs (breaker rs))) no_break

-- what that comes to: leaf i breaks with leaf j, with none before that, and no leaf before it breaks with any
pub record BreaksFirst (rs : List Row) (i j : ℕ) : Type 0 where
  pub in_first : i < length rs
  pub in_second : j < length rs
  pub broken : breaks rs i j ≡ true
  pub none_nearer : (b : ℕ) → b < j → breaks rs i b ≡ false
  pub none_earlier : (a b : ℕ) → a < i → b < length rs → breaks rs a b ≡ false
