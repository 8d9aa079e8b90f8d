-- What changes in the tree of slots where leaves do: each place's digest as memory has it, and as it will be. For any digest D.
use Rattle.std.specs.Prelude.{List, ℕ, suc, ◌+◌, ◌-◌, ltb}
use Rattle.seqs.specs.Choose.{pick}
use Rattle.paper.specs.Strings.{Dig, nought, H}
use Rattle.slots.specs.Nodes.{slot_count, level_count, ancestor, meeting, node_at, climbed}
use Rattle.edits.specs.declared.Edit.{Edit}
use Rattle.edits.specs.declared.Change.{Change}
use Rattle.edits.specs.declared.Forked.{Forked}

abbrev pub no_edit : Edit
no_edit = record { was = nought; becomes = nought }

-- a change of one slot, by its leaf and the root
abbrev pub at_one : (i : ℕ) (a root : Edit) → Change
at_one i a root =
    record { left = i; right = i; levels = 0; a = a; b = no_edit; y = no_edit; z = no_edit; node = no_edit; root = root }

-- a slot that is not there
abbrev pub no_place : (i : ℕ) → Change
no_place i = at_one i no_edit no_edit

module _ (m : List ℕ) where
  -- slot i's leaf stays
  unfoldable pub still_place : (i : ℕ) → Change
  still_place i =
      let x = node_at m (slot_count + i) in
      pick (ltb i slot_count)
      (at_one i (record { was = x; becomes = x }) (record { was = node_at m 1; becomes = node_at m 1 }))
      (no_place i)

module _ (D : List ℕ → Dig) (m : List ℕ) where
  -- what stands so many levels above node v, and what will where v's own digest becomes x
  unfoldable pub risen_at : (v levels : ℕ) (x : Dig) → Edit
  risen_at v n x = record { was = node_at m (ancestor n v); becomes = climbed D m n v x }

  -- slot i's leaf becomes x
  unfoldable pub one_place : (i : ℕ) (x : Dig) → Change
  one_place i x =
      let u = slot_count + i in
      pick (ltb i slot_count) (at_one i (risen_at u 0 x) (risen_at u level_count x)) (no_place i)

  -- above nodes u and v, k levels standing below the halves of the lowest node above both
  unfoldable pub forked_at : (u v k : ℕ) (x w : Dig) → Forked
  forked_at u v k x w =
      let top = ancestor (suc k) u in
      let n = H D (climbed D m k u x) (climbed D m k v w) in
      record {
        y = risen_at u k x;
        z = risen_at v k w;
        node = risen_at top 0 n;
        root = risen_at top (level_count - 1 - k) n;
      }

  -- slot i's becomes x and slot j's becomes w
  unfoldable pub two_places : (i j : ℕ) (x w : Dig) → Change
  two_places i j x w =
      let u = slot_count + i in
      let v = slot_count + j in
      let k = meeting (level_count - 1) u v in
      let f = forked_at u v k x w in
      pick (ltb i slot_count)
      (pick (ltb j slot_count)
      (record {
        left = i;
        right = j;
        levels = k;
        a = risen_at u 0 x;
        b = risen_at v 0 w;
        y = f.y;
        z = f.z;
        node = f.node;
        root = f.root;
      })
      (no_place i))
      (no_place i)
