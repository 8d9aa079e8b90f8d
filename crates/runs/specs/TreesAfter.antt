-- The tree that stands for the list after a legal wish, as a function: only the leaves concerned are replaced; the rest of the tree
-- stays where it is.
use Rattle.std.specs.Prelude.{List, [], ◌∷◌, ℕ}
use Rattle.paper.specs.declared.Record.{Record}
use Rattle.paper.specs.declared.Registers.{Registers}
use Rattle.paper.specs.Strings.{Dig, nought, record_hash}
use Rattle.paper.specs.Refusals.{next_record, cleared_record}
use Rattle.rings.specs.Trees.{points, Tree, empty, tip, branch}
use Rattle.runs.specs.Run.{Items}
use Rattle.runs.specs.Wishes.{Wish, insert_item, remove_item, swap_places, set_record, clear_record, ask_about}
use Rattle.runs.specs.Ways.{item_of, next_of, hash_in, is_of, leads_to, gap_holds, found, regrown, replacing, replacing_two}

module _ (D : List ℕ → Dig) where
  -- A's leaf alone; else the leaf whose gap holds A becomes two leaves under one node
  abbrev pub tree_with : (A : ℕ) → Tree → Items → Tree
  tree_with A T [] = tip (points A A nought)
  tree_with A T (i ∷ l) =
      let x = found (gap_holds A) T in
      regrown (replacing x (branch (tip (points (item_of x) A (hash_in x))) (tip (points A (next_of x) nought)))) T

  -- nothing; else the leaf that led to A leads past it, and A's own leaf goes
  abbrev pub tree_without : (A : ℕ) → Tree → Items → Tree
  tree_without A T [] = empty
  tree_without A T (i ∷ []) = empty
  tree_without A T (i ∷ j ∷ l) =
      let x = found (leads_to A) T in
      let z = found (is_of A) T in
      regrown (replacing_two x (tip (points (item_of x) (next_of z) (hash_in x))) z empty) T

  -- exactly those two leaves exchanged
  abbrev pub tree_swapped : (A B : ℕ) → Tree → Tree
  tree_swapped A B T =
      let x = found (is_of A) T in
      let z = found (is_of B) T in
      regrown (replacing_two x (tip z) z (tip x)) T

  -- A's leaf with the hash of another record
  abbrev pub tree_rewritten : (A : ℕ) (new : Record) → Tree → Tree
  tree_rewritten A new T =
      let x = found (is_of A) T in
      regrown (replacing x (tip (points A (next_of x) (record_hash D new)))) T

  abbrev pub tree_after : Registers → Tree → Items → Wish → Tree
  tree_after s T l (insert_item A) = tree_with A T l
  tree_after s T l (remove_item A) = tree_without A T l
  tree_after s T l (swap_places A B) = tree_swapped A B T
  tree_after s T l (set_record A v) = tree_rewritten A (next_record s v) T
  tree_after s T l (clear_record A) = tree_rewritten A cleared_record T
  tree_after s T l (ask_about q) = T
