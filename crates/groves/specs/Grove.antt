-- The tree that slots are, as trees of `rings`: f says what stands in each slot, by the number of its node (slot_count + i for slot
-- i). The way up from a node and the fork of two, as `runs` has them; what it means that memory keeps such a tree; and a list of
-- leaves in slots from 0 on.
use Rattle.std.specs.Prelude.{◌≡◌, false, List, [], ◌∷◌, ℕ, zero, suc, ◌+◌, ◌-◌, ◌*◌, ◌/◌, ◌%◌, ◌<◌, eqb, ltb, length}
use Rattle.seqs.specs.Choose.{pick}
use Rattle.paper.specs.Strings.{Dig}
use Rattle.rings.specs.Trees.{TreeLeaf, Tree, empty, tip, branch, hash_of}
use Rattle.runs.specs.Ways.{Level, on_left, on_right, Way, Fork}
use Rattle.slots.specs.Nodes.{slot_count, level_count, ancestor, meeting, node_at, summed}

-- X in the place of slot node u
abbrev pub with : (ℕ → Tree) → (u : ℕ) (X : Tree) → ℕ → Tree
with f u X w = pick (eqb w u) X (f w)

module _ (f : ℕ → Tree) where
  -- node v with so many levels below it
  abbrev pub tree_at : (levels v : ℕ) → Tree
  tree_at zero v = f v
  tree_at (suc n) v = branch (tree_at n (2 * v)) (tree_at n (2 * v + 1))

  -- the whole of it
  unfoldable pub grove : Tree
  grove = tree_at level_count 1

  -- what stands beside node v, which has h levels below it
  abbrev pub level_at : (h v : ℕ) → Level
  level_at h v = pick (eqb (v % 2) 1) (on_left (tree_at h (v - 1))) (on_right (tree_at h (v + 1)))

  -- so many levels up from it
  abbrev pub way_up : (levels h v : ℕ) → Way
  way_up zero h v = []
  way_up (suc n) h v = level_at h v ∷ way_up n (suc h) (v / 2)

-- the ways of slot nodes u and v up to the halves of the lowest node above both, and the way above that node; u stands on the left
abbrev pub fork_at : (ℕ → Tree) → (u v : ℕ) → Fork
fork_at f u v =
    let k = meeting (level_count - 1) u v in
    record {
      left = way_up f k 0 u;
      right = way_up f k 0 v;
      above = way_up f (level_count - 1 - k) (suc k) (ancestor (suc k) u);
      crossed = false;
    }

-- memory keeps the tree: it has 32 bytes for each of 2 slot_count nodes, every slot has its digest, and every node above what those
-- below it say
pub record Kept (D : List ℕ → Dig) (f : ℕ → Tree) (m : List ℕ) : Type 0 where
  pub long : length m ≡ 32 * (2 * slot_count)
  pub slots : (i : ℕ) → i < slot_count → node_at m (slot_count + i) ≡ hash_of D (f (slot_count + i))
  pub above : (v : ℕ) → 0 < v → v < slot_count → node_at m v ≡ summed D m v

-- ── leaves in the slots, from slot 0 on ──

abbrev pub in_slot : List TreeLeaf → (i : ℕ) → Tree
in_slot [] i = empty
in_slot (x ∷ l) zero = tip x
in_slot (x ∷ l) (suc i) = in_slot l i

abbrev pub slots_of : List TreeLeaf → (w : ℕ) → Tree
slots_of l w = pick (ltb w slot_count) empty (in_slot l (w - slot_count))

-- the tree with those leaves
abbrev pub tree_of : List TreeLeaf → Tree
tree_of l = grove (slots_of l)
