-- A swap exchanges two leaves and moves no other: the leaves from left to right about a way and about a fork.
use mathlib.Core.Path.{◌≡◌, refl, sym, ap, ap₂, subst, ◌∙◌}
use mathlib.Core.Bool.{Bool, true, false}
use mathlib.Core.List.{List, [], ◌∷◌, ◌++◌, append_assoc, append-nil}
use mathlib.Core.Logic.{inl, inr, ◌≢◌}
use Prim.Native.Nat.{ℕ}
use borrow.Author.Tests.{eqb-true}
use Rattle.seqs.specs.Choose.{pick}
use Rattle.paper.specs.Strings.{Dig}
use Rattle.rings.specs.Trees.{TreeLeaf, TreeLeaf-discrete, Tree, empty, tip, branch, leaves}
use Rattle.runs.specs.Run.{World}
use Rattle.runs.specs.Wishes.{IsListed}
use Rattle.runs.specs.Outcomes.{SameShape, nothings, tips, branches, IsLeafOf, Exchanged}
use Rattle.runs.specs.Ways.{next_of, hash_in, is_of, found, Way, on_left, on_right, Fork, fork_of, regrown, if_yes, replacing_two}
use Rattle.runs.specs.TreesAfter.{tree_swapped}
use Rattle.runs.proofs.Places.{plug, plug_two, regrown_two}
use Rattle.runs.proofs.Standing.{Ground, once, spotted, of_item_lem}
use Rattle.runs.proofs.Moves.{two_items}
use Rattle.runs.proofs.Grown.{leaf_is}

-- ── the leaves about a way ──

abbrev ahead : Way → List TreeLeaf
ahead [] = []
ahead (on_left S ∷ p) = ahead p ++ leaves S
ahead (on_right S ∷ p) = ahead p

abbrev behind : Way → List TreeLeaf
behind [] = []
behind (on_left S ∷ p) = behind p
behind (on_right S ∷ p) = leaves S ++ behind p

leaves_plug : (p : Way) (X : Tree) → leaves (plug p X) ≡ ahead p ++ (leaves X ++ behind p)
leaves_plug [] X = sym (append-nil (leaves X))
leaves_plug (on_left S ∷ p) X =
    leaves_plug p (branch S X) ∙ ap (λ (l : List TreeLeaf). ahead p ++ l) (append_assoc (leaves S) (leaves X) (behind p))
    ∙ sym (append_assoc (ahead p) (leaves S) (leaves X ++ behind p))
leaves_plug (on_right S ∷ p) X =
    leaves_plug p (branch X S) ∙ ap (λ (l : List TreeLeaf). ahead p ++ l) (append_assoc (leaves X) (leaves S) (behind p))

-- ── and about a fork ──

abbrev front : Fork → List TreeLeaf
front f = ahead f.above ++ ahead f.left

abbrev between : Fork → List TreeLeaf
between f = behind f.left ++ ahead f.right

abbrev back : Fork → List TreeLeaf
back f = behind f.right ++ behind f.above

regroup : (a b c d e f : List TreeLeaf) (x z : TreeLeaf)
    → a ++ (((b ++ (x ∷ c)) ++ (d ++ (z ∷ e))) ++ f) ≡ (a ++ b) ++ (x ∷ ((c ++ d) ++ (z ∷ (e ++ f))))
regroup a b c d e f x z = simp (append_assoc)

leaves_two : (f : Fork) (x z : TreeLeaf)
    → leaves (plug_two f (tip x) (tip z)) ≡ front f ++ (x ∷ (between f ++ (z ∷ back f)))
leaves_two f x z =
    leaves_plug f.above (branch (plug f.left (tip x)) (plug f.right (tip z)))
    ∙ ap₂ (λ (l m : List TreeLeaf). ahead f.above ++ ((l ++ m) ++ behind f.above)) (leaves_plug f.left (tip x))
    (leaves_plug f.right (tip z))
    ∙ regroup (ahead f.above) (ahead f.left) (behind f.left) (ahead f.right) (behind f.right) (behind f.above) x z

-- ── a tree with other leaves ──

same_shape : (g : TreeLeaf → Tree) → ((v : TreeLeaf) → (u : TreeLeaf) × (g v ≡ tip u)) → (T : Tree) → SameShape T (regrown g T)
same_shape g k empty = nothings
same_shape g k (tip v) = subst (SameShape (tip v)) (sym (k v).1) (tips v (k v).0)
same_shape g k (branch l r) = branches (same_shape g k l) (same_shape g k r)

some_tip : {P Q : Type 0} (d : Dec P) (e : Dec Q) (a b c : TreeLeaf) → (u : TreeLeaf) × (if_yes d (tip a) (if_yes e (tip b) (tip c)) ≡ tip u)
some_tip (yes p) e a b c = (a, refl)
some_tip (no n) (yes q) a b c = (b, refl)
some_tip (no n) (no m) a b c = (c, refl)

-- ── a swap ──

module _ {D : List ℕ → Dig} {w : World} {T : Tree} (g : Ground D w T) (A B : ℕ) (apart : A ≢ B) (m : IsListed A w.items)
    (n : IsListed B w.items) where
  abbrev x : TreeLeaf
  x = found (is_of A) T

  abbrev z : TreeLeaf
  z = found (is_of B) T

  abbrev U : Tree
  U = tree_swapped D A B T

  pub swap_keeps_shape : SameShape T U
  swap_keeps_shape =
      same_shape (replacing_two x (tip z) z (tip x)) (λ v. some_tip (TreeLeaf-discrete v x) (TreeLeaf-discrete v z) z x v) T

  of_one : (C : ℕ) → IsListed C w.items → IsLeafOf C (found (is_of C) T)
  of_one C k =
      let v = found (is_of C) T in (
        next_of v,
        hash_in v,
        leaf_is v C (next_of v) (hash_in v)
            (eqb-true C _ (spotted g (is_of C) (of_item_lem g C k.0 k.1)).passes) refl refl,
      )

  pub swap_exchanges : Exchanged A B (leaves T) (leaves U)
  swap_exchanges =
      let f = fork_of (is_of A) (is_of B) T in
      let two = two_items g A B apart m n in
      by_side f f.crossed two.1 (regrown_two x (tip z) z (tip x) two.0 f T two.1 (once g x) (once g z))
    where
      by_side : (f : Fork) (c : Bool) → plug_two f (pick c (tip z) (tip x)) (pick c (tip x) (tip z)) ≡ T
          → U ≡ plug_two f (pick c (tip x) (tip z)) (pick c (tip z) (tip x)) → Exchanged A B (leaves T) (leaves U)
      by_side f true e k =
          record {
            left = z;
            right = x;
            theirs = inr (of_one B n, of_one A m);
            in_front = front f;
            between = between f;
            back = back f;
            was = ap leaves (sym e) ∙ leaves_two f z x;
            becomes = ap leaves k ∙ leaves_two f x z;
          }
      by_side f false e k =
          record {
            left = x;
            right = z;
            theirs = inl (of_one A m, of_one B n);
            in_front = front f;
            between = between f;
            back = back f;
            was = ap leaves (sym e) ∙ leaves_two f x z;
            becomes = ap leaves k ∙ leaves_two f z x;
          }
