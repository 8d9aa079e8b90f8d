-- Where leaves stand in a tree: the way from a leaf up to the root, the ways of two leaves and where they meet, what changes
-- above a leaf that changes, and leaves replaced.
use Rattle.std.specs.Prelude.{Bool, true, false, List, [], ◌∷◌, ◌++◌, ℕ, zero, suc, ◌+◌, ◌-◌, ◌*◌, eqb}
use Rattle.seqs.specs.Choose.{pick, either}
use Rattle.paper.specs.Strings.{Dig, in_gap, H}
use Rattle.paper.specs.Requests.{most_siblings}
use Rattle.rings.specs.Trees.{TreeLeaf, points, TreeLeaf-discrete, Tree, empty, tip, branch, hash_of}

-- ── leaves ──

abbrev pub item_of : TreeLeaf → ℕ
item_of (points A A' ω) = A

abbrev pub next_of : TreeLeaf → ℕ
next_of (points A A' ω) = A'

abbrev pub hash_in : TreeLeaf → Dig
hash_in (points A A' ω) = ω

-- the leaf of item A; the leaf that leads to A; the leaf whose gap holds q; the leaf that answers a question on q
abbrev pub is_of : (A : ℕ) → TreeLeaf → Bool
is_of A x = eqb A (item_of x)

abbrev pub leads_to : (A : ℕ) → TreeLeaf → Bool
leads_to A x = eqb A (next_of x)

abbrev pub gap_holds : (q : ℕ) → TreeLeaf → Bool
gap_holds q x = in_gap q (item_of x) (next_of x)

abbrev pub tells_of : (q : ℕ) → TreeLeaf → Bool
tells_of q x = either (is_of q x) (gap_holds q x)

-- ── the way from a leaf up to the root ──

-- a level of a way: the tree beside it, and the side on which that stands
pub data Level : Type 0 where
  on_left : Tree → Level
  on_right : Tree → Level

-- lowest level first
abbrev pub Way : Type 0
Way = List Level

-- a leaf of the tree passes the test
abbrev pub has : (TreeLeaf → Bool) → Tree → Bool
has p empty = false
has p (tip x) = p x
has p (branch l r) = either (has p l) (has p r)

-- the first one from the left that does (of a tree without leaves, any)
abbrev pub found : (TreeLeaf → Bool) → Tree → TreeLeaf
found p empty = points 0 0 []
found p (tip x) = x
found p (branch l r) = pick (has p l) (found p l) (found p r)

-- the way from it up to the root
abbrev pub way_to : (TreeLeaf → Bool) → Tree → Way
way_to p empty = []
way_to p (tip x) = []
way_to p (branch l r) = pick (has p l) (way_to p l ++ (on_right r ∷ [])) (way_to p r ++ (on_left l ∷ []))

-- ── a way as lines carry it ──

-- the sides of a way as a number (§5.2.2)
abbrev pub sides_of : Way → ℕ
sides_of [] = 0
sides_of (on_left S ∷ p) = 1 + 2 * sides_of p
sides_of (on_right S ∷ p) = 2 * sides_of p

abbrev pub siblings_of : (D : List ℕ → Dig) → Way → List Dig
siblings_of D [] = []
siblings_of D (on_left S ∷ p) = hash_of D S ∷ siblings_of D p
siblings_of D (on_right S ∷ p) = hash_of D S ∷ siblings_of D p

-- the digest at the top of the way, where x is that at its foot
abbrev pub rise : (D : List ℕ → Dig) → Way → Dig → Dig
rise D [] x = x
rise D (on_left S ∷ p) x = rise D p (H D (hash_of D S) x)
rise D (on_right S ∷ p) x = rise D p (H D x (hash_of D S))

-- a way of any length as a lowest path and paths above it, each of at most 64 siblings (§5.2.1)
pub record WayInPaths : Type 0 where
  pub lowest : Way
  pub higher : List Way

-- the lowest path having room for so many levels more
abbrev pub in_paths : (room : ℕ) → Way → WayInPaths
in_paths room [] = record { lowest = []; higher = [] }
in_paths zero (v ∷ p) =
    let c = in_paths (most_siblings - 1) p in
    record { lowest = []; higher = (v ∷ c.lowest) ∷ c.higher }
in_paths (suc room) (v ∷ p) = let c = in_paths room p in record { lowest = v ∷ c.lowest; higher = c.higher }

-- ── two leaves ──

-- the ways of two leaves up to the two halves of the lowest node above both, and the way above that node; crossed where the
-- second leaf stands on the left
pub record Fork : Type 0 where
  pub left : Way
  pub right : Way
  pub above : Way
  pub crossed : Bool

-- a fork with one level more above it
abbrev pub under : Level → Fork → Fork
under v f = record { left = f.left; right = f.right; above = f.above ++ (v ∷ []); crossed = f.crossed }

-- of the leaf that p finds and the leaf that q finds (of a tree with no two leaves, any)
abbrev pub fork_of : (p q : TreeLeaf → Bool) → Tree → Fork
fork_of p q empty = record { left = []; right = []; above = []; crossed = false }
fork_of p q (tip x) = record { left = []; right = []; above = []; crossed = false }
fork_of p q (branch l r) =
    pick (has p l)
    (pick (has q l)
    (under (on_right r) (fork_of p q l))
    (record { left = way_to p l; right = way_to q r; above = []; crossed = false }))
    (pick (has q l)
    (record { left = way_to q l; right = way_to p r; above = []; crossed = true })
    (under (on_left l) (fork_of p q r)))

-- the fork of a place that becomes a node with two halves
abbrev pub halves : Way → Fork
halves p = record { left = []; right = []; above = p; crossed = false }

-- of two things, one for each leaf, that of the leaf on the left, and that of the leaf on the right
abbrev pub left_one : {A : Type 0} → Fork → A → A → A
left_one f a b = pick f.crossed b a

abbrev pub right_one : {A : Type 0} → Fork → A → A → A
right_one f a b = pick f.crossed a b

-- ── a digest that changes, and what changes above it ──

-- a digest in the tree, and the one that takes its place
pub record Edit : Type 0 where
  pub was : Dig
  pub becomes : Dig

module _ (D : List ℕ → Dig) where
  -- the change at the top of a way, where e is that at its foot
  abbrev pub risen : Way → Edit → Edit
  risen p e = record { was = rise D p e.was; becomes = rise D p e.becomes }

  -- at a node, where a and b are those of its left and its right half
  abbrev pub parents : (a b : Edit) → Edit
  parents a b = record { was = H D a.was b.was; becomes = H D a.becomes b.becomes }

  -- at the root, where a and b are those at the left and the right foot of a fork
  abbrev pub risen_two : Fork → (a b : Edit) → Edit
  risen_two f a b = risen f.above (parents (risen f.left a) (risen f.right b))

-- ── leaves replaced ──

-- a tree in the place of each leaf
abbrev pub regrown : (TreeLeaf → Tree) → Tree → Tree
regrown g empty = empty
regrown g (tip x) = g x
regrown g (branch l r) = branch (regrown g l) (regrown g r)

abbrev pub if_yes : {P A : Type 0} → Dec P → A → A → A
if_yes (yes e) a b = a
if_yes (no n) a b = b

-- X in the place of the leaf x, and every other leaf as it was
abbrev pub replacing : (x : TreeLeaf) (X : Tree) → TreeLeaf → Tree
replacing x X z = if_yes (TreeLeaf-discrete z x) X (tip z)

-- X in the place of x and Y in the place of y, and every other leaf as it was
abbrev pub replacing_two : (x : TreeLeaf) (X : Tree) (y : TreeLeaf) (Y : Tree) → TreeLeaf → Tree
replacing_two x X y Y z = if_yes (TreeLeaf-discrete z x) X (if_yes (TreeLeaf-discrete z y) Y (tip z))
