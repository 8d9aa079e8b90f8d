-- The tree after a change stands for the list after it: its leaves are the new ring, leaf by leaf.
use mathlib.Core.Path.{◌≡◌, refl, sym, ap, subst, ◌∙◌}
use mathlib.Core.Bool.{Bool, true, false}
use mathlib.Core.List.Memᴰ
use mathlib.Core.List.{List, [], ◌∷◌}
use mathlib.Core.Logic.{◌⊎◌, inl, inr, ◌≢◌}
use Prim.Native.Nat.{ℕ, ◌+◌, ◌<◌}
use native.Mathlib.Omega.{arith}
use borrow.Author.Tests.{eqb-true}
use Rattle.seqs.specs.Choose.{pick}
use Rattle.paper.specs.declared.Record.{Record}
use Rattle.paper.specs.Strings.{Dig, nought, empty_record, record_hash}
use Rattle.rings.specs.Trees.{TreeLeaf, points, Tree, empty, tip, branch, leaves, one, count, SameLeaves}
use Rattle.rings.specs.Lists.{ListItem, item_with, OnList, Unlisted, insert, remove, put_record, ring}
use Rattle.rings.proofs.Counting.{count_nil, count_append, count_only}
use Rattle.rings.proofs.Gaps.{gap_holds_lem}
use Rattle.rings.proofs.Items.{remove_head}
use Rattle.rings.proofs.RingChanges.{insert_ring, remove_ring, put_ring}
use Rattle.runs.specs.Run.{Items, World}
use Rattle.runs.specs.Wishes.{IsListed}
use Rattle.runs.specs.Ways.{item_of, next_of, hash_in, is_of, leads_to, gap_holds, has, found, way_to, Fork, fork_of, left_one, right_one, regrown, replacing, replacing_two}
use Rattle.runs.specs.TreesAfter.{tree_with, tree_without, tree_swapped, tree_rewritten}
use Rattle.runs.proofs.Places.{located, Forks, around, count_plug, count_two, regrown_one, regrown_two}
use Rattle.runs.proofs.Standing.{InRing, Ground, once, spotted, of_item_lem}
use Rattle.runs.proofs.Moves.{two_items, gap_found}
use Rattle.runs.proofs.Removes.{no_record_hash, Linked, linked_in, other_leaf, fork_of_lem}

pub leaf_is : (x : TreeLeaf) (A B : ℕ) (v : Dig) → A ≡ item_of x → B ≡ next_of x → v ≡ hash_in x → x ≡ points A B v
leaf_is (points A B v) A' B' v' e f h = λ i. points (sym e i) (sym f i) (sym h i)

single : (v x : TreeLeaf) → count v (x ∷ []) ≡ one v x
single v x = count_only v x (x ∷ []) refl

module _ {D : List ℕ → Dig} {w : World} {T : Tree} (g : Ground D w T) where
  -- ── leaves replaced, counted ──

  one_count : (p : TreeLeaf → Bool) (X : Tree) → has p T ≡ true → (v : TreeLeaf)
      → count v (leaves (regrown (replacing (found p T) X) T)) + one v (found p T) ≡ count v (leaves T) + count v (leaves X)
  one_count p X have v =
      let x = found p T in
      let at = (located p T have).under_way in
      let new : count v (leaves (regrown (replacing x X) T)) ≡ count v (leaves X) + around v (way_to p T) =
      ap (λ (t : Tree). count v (leaves t)) (regrown_one x X (way_to p T) T at (once g x)) ∙ count_plug v (way_to p T) X in
      let old : count v (leaves T) ≡ count v (x ∷ []) + around v (way_to p T) =
      ap (λ (t : Tree). count v (leaves t)) (sym at) ∙ count_plug v (way_to p T) (tip x) in
      omega (arith, new, old, single v x)

  two_count : (x y : TreeLeaf) (X Y : Tree) (f : Fork) → x ≢ y → Forks f x y T → (v : TreeLeaf)
      → count v (leaves (regrown (replacing_two x X y Y) T)) + one v x + one v y
      ≡ count v (leaves T) + count v (leaves X) + count v (leaves Y)
  two_count x y X Y f apart fork v =
      let new : count v (leaves (regrown (replacing_two x X y Y) T)) ≡ _ =
      ap (λ (t : Tree). count v (leaves t)) (regrown_two x X y Y apart f T fork (once g x) (once g y))
      ∙ count_two v f (left_one f X Y) (right_one f X Y) in
      let old : count v (leaves T) ≡ _ =
      ap (λ (t : Tree). count v (leaves t)) (sym fork) ∙ count_two v f (left_one f (tip x) (tip y)) (right_one f (tip x) (tip y)) in
      omega (arith, new, old, feet X Y f.crossed, feet (tip x) (tip y) f.crossed, single v x, single v y)
    where
      feet : (X Y : Tree) (c : Bool)
          → count v (leaves (pick c Y X)) + count v (leaves (pick c X Y)) ≡ count v (leaves X) + count v (leaves Y)
      feet X Y true = omega arith
      feet X Y false = omega arith

  -- ── set, clear ──

  pub rewritten_holds : (A : ℕ) (r new : Record) → OnList A r w.items
      → SameLeaves (leaves (tree_rewritten D A new T)) (ring (record_hash D) (put_record A new w.items))
  rewritten_holds A r new m v =
      let have = of_item_lem g A r m in
      let t = spotted g (is_of A) have in
      let x = found (is_of A) T in
      let A' = next_of x in
      let x-is = leaf_is x A A' (hash_in x) (eqb-true A _ t.passes) refl refl in
      let y = points A A' (record_hash D new) in
      let on = subst (InRing D w) x-is t.in_ring in
      omega (
        arith,
        one_count (is_of A) (tip y) have v,
        single v y,
        g.holds v,
        put_ring (record_hash D) A A' (hash_in x) new w.items g.ascending on v,
        ap (one v) x-is,
      )

  -- ── swap ──

  pub swapped_holds : (A B : ℕ) → A ≢ B → IsListed A w.items → IsListed B w.items
      → SameLeaves (leaves (tree_swapped D A B T)) (ring (record_hash D) w.items)
  swapped_holds A B apart m n v =
      let x = found (is_of A) T in
      let z = found (is_of B) T in
      let two = two_items g A B apart m n in
      let c = two_count x z (tip z) (tip x) (fork_of (is_of A) (is_of B) T) two.0 two.1 v in
      omega (arith, c, single v x, single v z, g.holds v)

  -- ── insert ──

  pub with_holds : (A : ℕ) → 0 < A → Unlisted A w.items
      → SameLeaves (leaves (tree_with D A T w.items)) (ring (record_hash D) (insert A empty_record w.items))
  unfolding insert
  with_holds A positive free v = by_items w.items refl
    where
      alone : w.items ≡ [] → count v (points A A nought ∷ []) ≡ count v (ring (record_hash D) (insert A empty_record w.items))
      alone e = rw (e, no_record_hash D) refl

      beside : has (gap_holds A) T ≡ true → (i : ListItem Record) (l : Items)
          → count v (leaves (tree_with D A T (i ∷ l))) ≡ count v (ring (record_hash D) (insert A empty_record w.items))
      beside have i l =
          let t = spotted g (gap_holds A) have in
          let x = found (gap_holds A) T in
          let B = item_of x in
          let B' = next_of x in
          let x-is = leaf_is x B B' (hash_in x) refl refl refl in
          let a = points B A (hash_in x) in
          let b = points A B' nought in
          let b-is : points A B' (record_hash D empty_record) ≡ b = ap (points A B') (no_record_hash D) in
          let on = subst (InRing D w) x-is t.in_ring in
          let c = insert_ring (record_hash D) A B B' (hash_in x) empty_record w.items g.ascending
          (gap_holds_lem A B B' t.passes) on v in
          omega (
            arith,
            one_count (gap_holds A) (branch (tip a) (tip b)) have v,
            count_append v (a ∷ []) (b ∷ []),
            single v a,
            single v b,
            g.holds v,
            c,
            ap (one v) x-is,
            ap (one v) b-is,
          )

      by_items : (l : Items) → w.items ≡ l
          → count v (leaves (tree_with D A T l)) ≡ count v (ring (record_hash D) (insert A empty_record w.items))
      by_items [] e = alone e
      by_items (item_with a r ∷ l) e = beside (gap_found g A a r l positive free e) (item_with a r) l

  -- ── remove ──

  pub without_holds : (A : ℕ) → OnList A empty_record w.items
      → SameLeaves (leaves (tree_without D A T w.items)) (ring (record_hash D) (remove A w.items))
  without_holds A m v = by_items w.items refl
    where
      only : (a : ℕ) (r : Record) → w.items ≡ item_with a r ∷ [] → (item_with A empty_record ≡ item_with a r) ⊎ OnList A empty_record []
          → count v [] ≡ count v (ring (record_hash D) (remove A w.items))
      only a r e (inl p) =
          let q : A ≡ a = cc in
          rw (e, q, remove_head a r []) refl
      only a r e (inr j) = elim j [ ]

      between : Linked g A → (i j : ListItem Record) (l : Items)
          → count v (leaves (tree_without D A T (i ∷ j ∷ l))) ≡ count v (ring (record_hash D) (remove A w.items))
      between k i j l =
          let x = found (leads_to A) T in
          let z = found (is_of A) T in
          let B = item_of x in
          let B' = next_of z in
          let y = points B B' (hash_in x) in
          let tx = spotted g (leads_to A) k.before in
          let tz = spotted g (is_of A) k.own in
          let x-is = leaf_is x B A (hash_in x) refl k.before_next refl in
          let z-is = leaf_is z A B' nought k.own_item refl k.own_empty in
          let on-x = subst (InRing D w) x-is tx.in_ring in
          let on-z = subst (InRing D w) z-is tz.in_ring in
          let f = fork_of (leads_to A) (is_of A) T in
          let c = two_count x z (tip y) empty f (other_leaf g A k) (fork_of_lem g A k) v in
          let d = remove_ring (record_hash D) A B B' (hash_in x) nought w.items g.ascending k.apart on-x on-z v in
          omega (arith, c, d, single v y, count_nil v, g.holds v, ap (one v) x-is, ap (one v) z-is)

      by_items : (l : Items) → w.items ≡ l → count v (leaves (tree_without D A T l))
          ≡ count v (ring (record_hash D) (remove A w.items))
      by_items [] e = elim (rw e at m) [ ]
      by_items (item_with a r ∷ []) e = only a r e (Memᴰ.cases_cons (rw e at m))
      by_items (item_with a r ∷ item_with b t ∷ l) e = between (linked_in g A a b r t l m e) (item_with a r) (item_with b t) l
