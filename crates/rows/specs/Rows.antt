-- A tablet's leaves as numbers in memory, each as its item, the next item and the item's record; and the first leaf of some that
-- passes a test.
use Rattle.std.specs.Prelude.{Bool, List, [], ◌∷◌, ℕ, zero, suc, ◌+◌, ◌*◌, eqb, ltb, get_or, Option, Some, None}
use Rattle.seqs.specs.Choose.{pick, either}
use Rattle.seqs.specs.First.{first_from}
use Rattle.seqs.specs.Over.{put_at}
use Rattle.paper.specs.Strings.{Dig, digest_of, numbers, in_gap}
use Rattle.paper.specs.Refusals.{leaf_of}
use Rattle.rows.specs.declared.Row.{Row}
use Rattle.rows.specs.declared.Search.{Search}
use Rattle.rows.specs.declared.Search.TheVariants.{Own, Leading, Gap, Telling}

-- ── leaves in memory ──

-- how many numbers a leaf takes: `numbers_in` below has so many
abbrev pub row_numbers : ℕ
row_numbers = 6

-- leaf i: a number that is not there counts as 0
unfoldable pub row_at : List ℕ → (i : ℕ) → Row
row_at m i =
    let number : ℕ → ℕ = λ j. get_or m (row_numbers * i + j) 0 in
    record {
      item = record { 0 = number 0 };
      next = record { 0 = number 1 };
      entry = record {
        revision = record { 0 = number 2 };
        mass = record { 0 = number 3 };
        offset = record { 0 = number 4 };
        rigging = record { 0 = number 5 };
      };
    }

-- n of them from i on
abbrev pub rows_from : List ℕ → (n i : ℕ) → List Row
rows_from m zero i = []
rows_from m (suc n) i = row_at m i ∷ rows_from m n (i + 1)

-- the numbers of a leaf, and a leaf put at its place where it fits
abbrev pub numbers_in : Row → List ℕ
numbers_in r = r.item.0 ∷ r.next.0 ∷ numbers r.entry

unfoldable pub row_put : List ℕ → (i : ℕ) → Row → List ℕ
row_put m i r = put_at m (row_numbers * i) (numbers_in r)

-- a leaf's digest, for any digest D
abbrev pub row_digest : (D : List ℕ → Dig) → Row → Dig
row_digest D r = digest_of D (leaf_of D r.item.0 r.next.0 r.entry)

-- ── searches ──

-- the place of the first that passes, of n from i on; else the place behind them
abbrev pub seek : (Row → Bool) → List ℕ → (n i : ℕ) → ℕ
seek p m = first_from (λ i. p (row_at m i))

-- that place as a search of the first n answers it: none where none of them passes
abbrev pub found : (Row → Bool) → List ℕ → (n : ℕ) → Option ℕ
found p m n = pick (ltb (seek p m n 0) n) (Some (seek p m n 0)) None

-- the leaf of item A; the leaf that leads to A; the leaf whose gap holds q; the leaf that answers a question on q
abbrev pub of_item : (A : ℕ) → Row → Bool
of_item A r = eqb A r.item.0

abbrev pub leading_to : (A : ℕ) → Row → Bool
leading_to A r = eqb A r.next.0

abbrev pub gap_of : (q : ℕ) → Row → Bool
gap_of q r = in_gap q r.item.0 r.next.0

abbrev pub telling : (q : ℕ) → Row → Bool
telling q r = either (of_item q r) (gap_of q r)

abbrev pub passing : Search → (A : ℕ) → Row → Bool
passing Own A = of_item A
passing Leading A = leading_to A
passing Gap A = gap_of A
passing Telling A = telling A
