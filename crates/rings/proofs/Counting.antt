-- Laws of counting leaves: how often a leaf occurs in an appended list, and where it occurs at all.
use mathlib.Core.Path.{◌≡◌, refl, ap, ◌∙◌}
use mathlib.Core.List.{List, [], ◌∷◌, ◌++◌, Memᴰ}
use mathlib.Core.Logic.{◌⊎◌, inl, inr}
use Prim.Native.Nat.{◌+◌, ◌<◌}
use native.Mathlib.Omega.{arith}
use Rattle.rings.specs.Trees.{TreeLeaf, TreeLeaf-discrete, tick, one, count}

pub one_self : (x : TreeLeaf) → one x x ≡ 1
unfolding one
one_self x = go (TreeLeaf-discrete x x)
  where
    go : (d : Dec (x ≡ x)) → tick d ≡ 1
    go (yes e) = refl
    go (no n) = absurd (n refl)

pub one_same : (x y : TreeLeaf) → 0 < one x y → x ≡ y
unfolding one
one_same x y = go (TreeLeaf-discrete x y)
  where
    go : (d : Dec (x ≡ y)) → 0 < tick d → x ≡ y
    go (yes e) h = e
    go (no n) h = absurd (omega arith)

pub count_nil : (x : TreeLeaf) → count x [] ≡ 0
unfolding count
count_nil x = refl

pub count_cons : (x y : TreeLeaf) (l : List TreeLeaf) → count x (y ∷ l) ≡ one x y + count x l
unfolding count
count_cons x y l = refl

pub count_append : (x : TreeLeaf) (l m : List TreeLeaf) → count x (l ++ m) ≡ count x l + count x m
unfolding count
count_append x [] m = omega arith
count_append x (y ∷ l) m = omega (arith, count_append x l m)

-- a leaf that occurs is the first or occurs behind it
pub count_cases : (x y : TreeLeaf) (l : List TreeLeaf) → 0 < count x (y ∷ l) → (x ≡ y) ⊎ (0 < count x l)
unfolding count one
count_cases x y l = go (TreeLeaf-discrete x y)
  where
    go : (d : Dec (x ≡ y)) → 0 < tick d + count x l → (x ≡ y) ⊎ (0 < count x l)
    go (yes e) h = inl e
    go (no n) h = inr (omega arith)

pub count_single : (x y : TreeLeaf) → 0 < count x (y ∷ []) → x ≡ y
unfolding count
count_single x y h = one_same x y (omega arith)

-- one leaf alone
pub count_only : (x y : TreeLeaf) (l : List TreeLeaf) → l ≡ y ∷ [] → count x l ≡ one x y
unfolding count
count_only x y l e = ap (count x) e ∙ omega arith

pub count_head : (x y : TreeLeaf) (l : List TreeLeaf) → x ≡ y → 0 < count x (y ∷ l)
count_head x y l e = omega (arith, count_cons x y l, ap (one x) e, one_self x)

pub count_tail : (x y : TreeLeaf) (l : List TreeLeaf) → 0 < count x l → 0 < count x (y ∷ l)
count_tail x y l h = omega (arith, count_cons x y l)

-- a leaf that occurs is in the list
pub occurs : (x : TreeLeaf) (l : List TreeLeaf) → 0 < count x l → Memᴰ x l
occurs x [] h = absurd (omega (arith, count_nil x))
occurs x (y ∷ l) h = elim (count_cases x y l h) [ inl e ↦ Memᴰ.head e | inr k ↦ Memᴰ.tail (occurs x l k) ]
