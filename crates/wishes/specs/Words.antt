-- The words by which the tablet refuses a wish by itself, and which applies: the first of zero, mass, listed, unlisted, recorded,
-- empty, full and top whose test is true.
use Rattle.std.specs.Prelude.{◌≡◌, Bool, false, List, [], ◌∷◌, ℕ, eqb, ltb, leb, get_or, Option, Some, None, Result, Ok, Err, MatchResult}
use Rattle.seqs.specs.Choose.{pick, opposite}
use Rattle.paper.specs.declared.NotListed.{NotListed}
use Rattle.paper.specs.declared.Record.{Record}
use Rattle.paper.specs.Strings.{blank, silly_mass}
use Rattle.paper.specs.Refusals.{top}
use Rattle.slots.specs.Nodes.{slot_count}
use Rattle.rows.specs.Rows.{row_at, seek, of_item}
use Rattle.wishes.specs.declared.Wish.{Wish}
use Rattle.wishes.specs.declared.Wish.TheVariants.{Insert, Remove, Set, Clear, Ask}
use Rattle.wishes.specs.declared.Refused.{Refused}
use Rattle.wishes.specs.declared.Refused.TheVariants as R

-- of the leaves that memory is said to hold, those that there are slots for
unfoldable pub held_of : ℕ → ℕ
held_of n = pick (ltb slot_count n) slot_count n

-- ── the words ──

-- the words in their order
abbrev pub words : List Refused
words = R.Zero ∷ R.Mass ∷ R.Listed ∷ R.Unlisted ∷ R.Recorded ∷ R.Empty ∷ R.Full ∷ R.Top ∷ []

-- their numbers
abbrev pub refused_number : Refused → ℕ
refused_number R.Zero = 1
refused_number R.Mass = 2
refused_number R.Listed = 3
refused_number R.Unlisted = 4
refused_number R.Recorded = 5
refused_number R.Empty = 6
refused_number R.Full = 7
refused_number R.Top = 8

-- their texts by their numbers: zero, mass, listed, unlisted, recorded, empty, full and top; no other number has a word
abbrev pub word_names : List (List ℕ)
word_names =
    []
    ∷ (122 ∷ 101 ∷ 114 ∷ 111 ∷ [])
    ∷ (109 ∷ 97 ∷ 115 ∷ 115 ∷ [])
    ∷ (108 ∷ 105 ∷ 115 ∷ 116 ∷ 101 ∷ 100 ∷ [])
    ∷ (117 ∷ 110 ∷ 108 ∷ 105 ∷ 115 ∷ 116 ∷ 101 ∷ 100 ∷ [])
    ∷ (114 ∷ 101 ∷ 99 ∷ 111 ∷ 114 ∷ 100 ∷ 101 ∷ 100 ∷ [])
    ∷ (101 ∷ 109 ∷ 112 ∷ 116 ∷ 121 ∷ [])
    ∷ (102 ∷ 117 ∷ 108 ∷ 108 ∷ [])
    ∷ (116 ∷ 111 ∷ 112 ∷ [])
    ∷ []

abbrev pub word_name : ℕ → List ℕ
word_name n = get_or word_names n []

-- the one of that number, or none, where the number is none of theirs
abbrev pub RefusedOf : ℕ → Result Refused NotListed → Type 0
RefusedOf n r = MatchResult r (λ w. refused_number w ≡ n) (λ e. (e.0 ≡ n) × (word_name n ≡ []))

-- ── which applies ──

-- the first of them whose test is true, or none
abbrev pub first_true : List Refused → List Bool → Option Refused
first_true [] ts = None
first_true (w ∷ ws) [] = None
first_true (w ∷ ws) (t ∷ ts) = pick t (Some w) (first_true ws ts)

-- an answer, unless a word refuses it
abbrev pub unless : {A : Type 0} → Option Refused → A → Result A Refused
unless None a = Ok a
unless (Some w) a = Err w

-- by k leaves of memory
module _ (leaves : List ℕ) (k : ℕ) where
  -- the place of A's own leaf; whether A is listed; its record
  abbrev pub own_place : (A : ℕ) → ℕ
  own_place A = seek (of_item A) leaves k 0

  abbrev pub is_listed : (A : ℕ) → Bool
  is_listed A = ltb (own_place A) k

  abbrev pub entry_of : (A : ℕ) → Record
  entry_of A = (row_at leaves (own_place A)).entry

-- and by the counter c
module _ (leaves : List ℕ) (k c : ℕ) where
  abbrev listed : (A : ℕ) → Bool
  listed A = is_listed leaves k A

  abbrev recorded : (A : ℕ) → Bool
  recorded A = opposite (blank (entry_of leaves k A))

  abbrev at_top : Bool
  at_top = eqb c top

  -- one test for each word, in their order; false where the word does not apply to the wish
  abbrev pub tests : Wish → List Bool
  tests (Insert A) = eqb A.0 0 ∷ false ∷ listed A.0 ∷ false ∷ false ∷ false ∷ leb slot_count k ∷ at_top ∷ []
  tests (Remove A) =
      eqb A.0 0 ∷ false ∷ false ∷ opposite (listed A.0) ∷ recorded A.0 ∷ false ∷ false ∷ at_top ∷ []
  tests (Set A v) =
      eqb A.0 0 ∷ silly_mass v.mass.0 ∷ false ∷ opposite (listed A.0) ∷ false ∷ false ∷ false ∷ at_top ∷ []
  tests (Clear A) =
      eqb A.0 0 ∷ false ∷ false ∷ opposite (listed A.0) ∷ false ∷ blank (entry_of leaves k A.0) ∷ false ∷ at_top ∷ []
  tests (Ask q) = eqb q.0 0 ∷ false ∷ false ∷ false ∷ false ∷ false ∷ false ∷ false ∷ []

  unfoldable pub word_for : Wish → Option Refused
  word_for x = first_true words (tests x)
