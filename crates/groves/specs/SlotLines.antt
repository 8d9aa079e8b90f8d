-- Honest lines over slots, for leaves that stand in slots from 0 on without a gap: the same lines as `runs` has, up the ways of a
-- tree in which a leaf keeps its slot. An insert takes the first free slot. A removal leaves no gap: the leaf that goes is first
-- exchanged with the last one, by a swap, and then the last one goes. Each ends in an adopt of its own.
use Rattle.std.specs.Prelude.{List, [], ◌∷◌, ◌++◌, ℕ, ◌+◌, length, get_or, set}
use Rattle.paper.specs.declared.Registers.{Registers}
use Rattle.paper.specs.Strings.{Dig, nought}
use Rattle.paper.specs.Requests.{Request, swap}
use Rattle.rings.specs.Trees.{TreeLeaf, points, tip, hash_of}
use Rattle.runs.specs.Ways.{item_of, next_of, hash_in, Fork, Edit, risen_two}
use Rattle.runs.specs.Honest.{say_u2, turned_round, note, two_places, turn_round, take_over, placed, without}
use Rattle.slots.specs.Nodes.{slot_count}
use Rattle.groves.specs.Grove.{slots_of, fork_at}

abbrev pub leaf_at : List TreeLeaf → (i : ℕ) → TreeLeaf
leaf_at l i = get_or l i (points 0 0 [])

-- the fork of slots i and j, i standing on the left
abbrev pub slot_fork : List TreeLeaf → (i j : ℕ) → Fork
slot_fork l i j = fork_at (slots_of l) (slot_count + i) (slot_count + j)

-- ── the leaves after each ──

-- A behind the leaf of slot j, whose gap holds it: that leaf leads to A, and A's own goes into the first free slot
abbrev pub leaves_with : (A j : ℕ) → List TreeLeaf → List TreeLeaf
leaves_with A j l =
    let b = leaf_at l j in
    set l j (points (item_of b) A (hash_in b)) ++ (points A (next_of b) nought ∷ [])

-- slots i and j exchanged
abbrev pub leaves_swapped : (i j : ℕ) → List TreeLeaf → List TreeLeaf
leaves_swapped i j l = set (set l i (leaf_at l j)) j (leaf_at l i)

-- the last leaf x gone, to which the leaf of slot i leads: that one leads past it
abbrev pub leaves_without : (i : ℕ) → List TreeLeaf → (x : TreeLeaf) → List TreeLeaf
leaves_without i l x = let b = leaf_at l i in set l i (points (item_of b) (next_of x) (hash_in b))

-- ── the lines ──

module _ (D : List ℕ → Dig) (s : Registers) where
  abbrev pub insert_at : (A j : ℕ) → List TreeLeaf → List Request
  insert_at A j l =
      let b = leaf_at l j in
      let f = slot_fork l j (length l) in
      let y = without D s f (item_of b) A (next_of b) (hash_in b) in
      placed D s f (item_of b) A (next_of b) (hash_in b) ++ (turn_round D s y ∷ take_over D s (turned_round y) ∷ [])

  -- i stands on the left
  abbrev pub swap_at : (i j : ℕ) → List TreeLeaf → List Request
  swap_at i j l =
      let e : Edit = record { was = hash_of D (tip (leaf_at l i)); becomes = hash_of D (tip (leaf_at l j)) } in
      let f = slot_fork l i j in
      let y = risen_two D f e (turned_round e) in
      two_places D s f e (turned_round e)
      ++ (swap e.was e.becomes y.was y.becomes (note D s (say_u2 e (turned_round e) y)) ∷ take_over D s y ∷ [])

  -- A's leaf x is the last one, behind the leaves l
  abbrev pub drop_at : (A i : ℕ) → List TreeLeaf → (x : TreeLeaf) → List Request
  drop_at A i l x =
      let b = leaf_at l i in
      let f = slot_fork (l ++ (x ∷ [])) i (length l) in
      placed D s f (item_of b) A (next_of x) (hash_in b) ++ (take_over D s (without D s f (item_of b) A (next_of x) (hash_in b)) ∷ [])
