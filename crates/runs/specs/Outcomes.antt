-- What a legal wish comes to: the list, the registers, and for a swap where leaves stand.
use Rattle.std.specs.Prelude.{◌≡◌, List, ◌∷◌, ◌++◌, ◌⊎◌, ℕ}
use Rattle.paper.specs.declared.Registers.{Registers}
use Rattle.paper.specs.Strings.{Dig, empty_record}
use Rattle.paper.specs.Refusals.{next_record, cleared_record}
use Rattle.paper.specs.Answers.{rooted, raised}
use Rattle.rings.specs.Trees.{TreeLeaf, points, Tree, empty, tip, branch, leaves}
use Rattle.rings.specs.Lists.{insert, remove, put_record}
use Rattle.runs.specs.Run.{Items}
use Rattle.runs.specs.Wishes.{Wish, insert_item, remove_item, swap_places, set_record, clear_record, ask_about}

-- the list, with a new record by §5.2.10
abbrev pub items_after : Registers → Items → Wish → Items
items_after s l (insert_item A) = insert A empty_record l
items_after s l (remove_item A) = remove A l
items_after s l (swap_places A B) = l
items_after s l (set_record A v) = put_record A (next_record s v) l
items_after s l (clear_record A) = put_record A cleared_record l
items_after s l (ask_about q) = l

-- the registers, y being the root of the tree: nothing but the root changes, or root and counter where a record does
abbrev pub registers_after : Registers → (y : Dig) → Wish → Registers
registers_after s y (insert_item A) = rooted s y
registers_after s y (remove_item A) = rooted s y
registers_after s y (swap_places A B) = rooted s y
registers_after s y (set_record A v) = raised s y
registers_after s y (clear_record A) = raised s y
registers_after s y (ask_about q) = s

-- ── places ──

-- trees that differ in their leaves alone
pub data SameShape : Tree → Tree → Type 0 where
  nothings : SameShape empty empty
  tips : (x y : TreeLeaf) → SameShape (tip x) (tip y)
  branches : {l r l' r' : Tree} → SameShape l l' → SameShape r r' → SameShape (branch l r) (branch l' r')

abbrev pub IsLeafOf : (A : ℕ) → TreeLeaf → Type 0
IsLeafOf A x = (A' : ℕ) × (ω : Dig) × (x ≡ points A A' ω)

-- among the leaves of a tree, from left to right, those of A and B have changed places, whichever stood on the left, and no other
-- leaf has moved
pub record Exchanged (A B : ℕ) (before after : List TreeLeaf) : Type 0 where
  pub left : TreeLeaf
  pub right : TreeLeaf
  pub theirs : (IsLeafOf A left × IsLeafOf B right) ⊎ (IsLeafOf B left × IsLeafOf A right)
  pub in_front : List TreeLeaf
  pub between : List TreeLeaf
  pub back : List TreeLeaf
  pub was : before ≡ in_front ++ (left ∷ (between ++ (right ∷ back)))
  pub becomes : after ≡ in_front ++ (right ∷ (between ++ (left ∷ back)))

-- two items change places (§7.3.3, §7.4.2). Of the other wishes the list says it all: where their leaves stand is free
abbrev pub LeavesMoved : Wish → (before after : Tree) → Type 0
LeavesMoved (insert_item A) T U = Unit {0}
LeavesMoved (remove_item A) T U = Unit {0}
LeavesMoved (swap_places A B) T U = SameShape T U × Exchanged A B (leaves T) (leaves U)
LeavesMoved (set_record A v) T U = Unit {0}
LeavesMoved (clear_record A) T U = Unit {0}
LeavesMoved (ask_about q) T U = Unit {0}
