-- The root settles the list: two trees of one hash that stand for lists stand for the same list, or a fault can be shown.
use mathlib.Core.Path.{◌≡◌, refl, sym}
use mathlib.Core.List.Memᴰ
use mathlib.Core.List.{List, [], ◌∷◌}
use mathlib.Core.Logic.{◌⊎◌, inl, inr}
use native.Mathlib.Omega.{arith}
use Rattle.paper.specs.declared.Record.{Record}
use Rattle.paper.specs.Strings.{Dig, Str}
use Rattle.rings.specs.Trees.{points, Tree, empty, tip, branch, leaves, SameLeaves}
use Rattle.rings.specs.Lists.{ListItem, item_with, ring}
use Rattle.rings.specs.Meanings.{AllRecords, hash_of_tree, TreeIn, hash_record, RecordKnown, StandsFor, Fault}
use Rattle.rings.proofs.Counting.{count_append}
use Rattle.rings.proofs.Nodes.{◌>>=◌, no_leaf, only_leaf}
use Rattle.rings.proofs.Align.{split}
use Rattle.rings.proofs.Items.{record_at, Into, same_items}
use Rattle.rings.proofs.Find.{item_leaf}
use Rattle.rings.proofs.ListKinds.{leaf_record}

module _ (D : Str → Dig) where
  same_leaves : {F : List Str} (T U : Tree) → hash_of_tree D T ≡ hash_of_tree D U → TreeIn D F T → TreeIn D F U
      → Fault D F ⊎ SameLeaves (leaves T) (leaves U)
  same_leaves empty U e i j = do
    n ← no_leaf D U (sym e) j
    inr (λ x. rw n refl)
  same_leaves (tip (points a b w)) U e i j = do
    n ← only_leaf D U a b w i (sym e) j
    inr (λ x. rw n refl)
  same_leaves (branch l r) U e i j = do
    s ← split D U (hash_of_tree D l) (hash_of_tree D r) i.2 e j
    a ← same_leaves l s.l (sym s.hash_l) i.0 s.in_l
    b ← same_leaves r s.r (sym s.hash_r) i.1 s.in_r
    inr (λ x. omega (arith, a x, b x, s.cut x, count_append x (leaves l) (leaves r)))

  -- each item of the part l of ls is listed in m, where their rings are the same
  into : {F : List Str} (ls l m : List (ListItem Record)) → AllRecords (RecordKnown D F) ls → AllRecords (RecordKnown D F) m
      → SameLeaves (ring (hash_record D) ls) (ring (hash_record D) m) → Into l ls → Fault D F ⊎ Into l m
  into ls [] m k k' f s = inr (λ a r i. elim i [ ])
  into {F} ls (item_with a r ∷ l) m k k' f s = do
    let here = s a r (Memᴰ.head refl)
    let i = item_leaf (hash_record D) a r ls here
    let kr = record_at (RecordKnown D F) ls a r k here
    h ← leaf_record D a i.0 r m kr k' (omega (arith, f (points a i.0 (hash_record D r)), i.1))
    t ← into ls l m k k' f (λ b q j. s b q (Memᴰ.tail j))
    inr (λ b q j. elim (Memᴰ.cases_cons j) [ inl e ↦ rw e h | inr j ↦ t b q j ])

  pub same_list : {F : List Str} (T U : Tree) (l m : List (ListItem Record)) → hash_of_tree D T ≡ hash_of_tree D U → StandsFor D F T l
      → StandsFor D F U m → Fault D F ⊎ (l ≡ m)
  same_list T U l m e g h = do
    p ← same_leaves T U e g.tree_in h.tree_in
    let c : SameLeaves (ring (hash_record D) l) (ring (hash_record D) m) = λ x. omega (arith, g.permuted x, h.permuted x, p x)
    f ← into l l m g.known h.known c (λ a r i. i)
    k ← into m m l h.known g.known (λ x. sym (c x)) (λ a r i. i)
    inr (same_items 0 l m g.ascending h.ascending f k)
