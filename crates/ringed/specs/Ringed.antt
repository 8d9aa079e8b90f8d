-- Leaves with their records in full: as leaves of the tree, as the list that they are, and when they are one ascending ring.
use Rattle.std.specs.Prelude.{◌≡◌, false, ◌≢◌, ◌<◌}
use mathlib.Core.List.{List, [], ◌∷◌, Memᴰ}
use Rattle.paper.specs.declared.Record.{Record}
use Rattle.paper.specs.Strings.{Dig, in_gap}
use Rattle.rings.specs.Trees.{TreeLeaf, points}
use Rattle.rings.specs.Lists.{ListItem, insert}
use Rattle.rows.specs.declared.Row.{Row}

-- the leaf of the tree, for a hash of records
abbrev pub leaf_by : (h : Record → Dig) → Row → TreeLeaf
leaf_by h r = points r.item.0 r.next.0 (h r.entry)

abbrev pub leaves_by : (h : Record → Dig) → List Row → List TreeLeaf
leaves_by h [] = []
leaves_by h (r ∷ l) = leaf_by h r ∷ leaves_by h l

-- the list that they are, whatever their order
abbrev pub list_of : List Row → List (ListItem Record)
list_of [] = []
list_of (r ∷ l) = insert r.item.0 r.entry (list_of l)

-- no two have one item
abbrev pub Distinct : List Row → Type 0
Distinct [] = Unit {0}
Distinct (r ∷ l) = ((s : Row) → Memᴰ s l → s.item.0 ≢ r.item.0) × Distinct l

-- no two have one item, no item is 0, each leads to one of them, and no item lies in a gap
pub record Closed (l : List Row) : Type 0 where
  pub distinct : Distinct l
  pub positive : (r : Row) → Memᴰ r l → 0 < r.item.0
  pub leads : (r : Row) → Memᴰ r l → (s : Row) × Memᴰ s l × (s.item.0 ≡ r.next.0)
  pub clear : (r s : Row) → Memᴰ r l → Memᴰ s l → in_gap s.item.0 r.item.0 r.next.0 ≡ false
