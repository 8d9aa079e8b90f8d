-- Memory that holds a tablet's leaves and the nodes of their tree: leaves put into it, and a store loaded.
use Rattle.std.specs.Prelude.{◌≡◌, Result, Ok, Err, Bool, List, [], ◌∷◌, ℕ, ◌+◌, ◌*◌, eqb, leb, length, replicate}
use Rattle.seqs.specs.Choose.{pick, both}
use Rattle.paper.specs.Strings.{Dig}
use Rattle.slots.specs.Nodes.{slot_count, leaf_put}
use Rattle.rows.specs.declared.Row.{Row}
use Rattle.rows.specs.Rows.{row_numbers, row_digest, row_put}
use Rattle.store.specs.declared.Fault.{Fault}
use Rattle.store.specs.Judging.{judged}
use Rattle.memory.specs.declared.LoadError.{LoadError}
use Rattle.memory.specs.declared.LoadError.TheVariants as L

-- ── leaves put ──

-- the numbers of leaves put one after the other, the first at place i
abbrev pub leaves_put : List Row → (i : ℕ) → List ℕ → List ℕ
leaves_put [] i m = m
leaves_put (r ∷ l) i m = leaves_put l (i + 1) (row_put m i r)

module _ (D : List ℕ → Dig) where
  -- and their digests, the first into slot i
  abbrev pub digests_put : List Row → (i : ℕ) → List ℕ → List ℕ
  digests_put [] i m = m
  digests_put (r ∷ l) i m = digests_put l (i + 1) (leaf_put D m i (row_digest D r))

-- ── a store loaded ──

-- room for every slot's leaf, and for just the nodes
unfoldable pub has_room : (leaves nodes : List ℕ) → Bool
has_room leaves nodes = both (leb (row_numbers * slot_count) (length leaves)) (eqb (length nodes) (32 * (2 * slot_count)))

-- a fault is an error
abbrev pub IsFault : Fault → LoadError → Type 0
IsFault f e = e ≡ L.Fault f

-- what loading answers: what the text comes to, with a line for each slot at most, and then whether there is room
abbrev pub loaded_by : Result ℕ Fault → (room : Bool) → Result ℕ LoadError
loaded_by (Ok k) room = pick room (Ok k) (Err L.NoRoom)
loaded_by (Err f) room = Err (L.Fault f)

unfoldable pub loaded_as : (text leaves nodes : List ℕ) → Result ℕ LoadError
loaded_as t leaves nodes = loaded_by (judged t slot_count) (has_room leaves nodes)

-- what memory then is: the leaves put into it, with every slot empty before; where they are refused it is as it was
abbrev pub leaves_after : Result ℕ LoadError → List Row → List ℕ → List ℕ
leaves_after (Ok k) rs m = leaves_put rs 0 m
leaves_after (Err e) rs m = m

abbrev pub nodes_after : (List ℕ → Dig) → Result ℕ LoadError → List Row → List ℕ → List ℕ
nodes_after D (Ok k) rs m = digests_put D rs 0 (replicate (length m) 0)
nodes_after D (Err e) rs m = m
