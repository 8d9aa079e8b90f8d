-- Leaves of the ring, one by one: each occurs once, stands for a listed item and leads to one, and no two have the same item
-- or lead to the same one.
use mathlib.Core.Path.{◌≡◌, sym, ap, ◌∙◌}
use mathlib.Core.List.Memᴰ
use mathlib.Core.List.{List, [], ◌∷◌}
use mathlib.Core.Logic.{◌⊎◌, inl, inr, ◌≢◌}
use Prim.Native.Nat.{ℕ, ◌≤◌, ◌<◌}
use native.Mathlib.Decide.{dec_lt}
use native.Mathlib.Omega.{arith}
use Rattle.paper.specs.Strings.{Dig}
use Rattle.rings.specs.Trees.{TreeLeaf, points, TreeLeaf-discrete, tick, one, count}
use Rattle.rings.specs.Lists.{ListItem, item_with, AscendingFrom, OnList, chain_of, ring}
use Rattle.rings.proofs.Counting.{one_same, count_nil, count_cons, count_cases, count_single}
use Rattle.rings.proofs.Ring.{bounds, leaf_item}
use Rattle.runs.specs.Ways.{item_of, next_of, hash_in}

pub one_most : (x y : TreeLeaf) → one x y ≤ 1
unfolding one
one_most x y = by_test (TreeLeaf-discrete x y)
  where
    by_test : (d : Dec (x ≡ y)) → tick d ≤ 1
    by_test (yes e) = omega arith
    by_test (no n) = omega arith

-- ── leaves that differ in a number ──

-- every leaf of a list has another number, by `of`, than all behind it
abbrev Lone : (of : TreeLeaf → ℕ) → List TreeLeaf → Type 0
Lone of [] = Unit {0}
Lone of (x ∷ l) = ((y : TreeLeaf) → 0 < count y l → of y ≢ of x) × Lone of l

-- so its number tells a leaf
lone_same : (of : TreeLeaf → ℕ) (x y : TreeLeaf) (l : List TreeLeaf) → Lone of l → of x ≡ of y → 0 < count x l → 0 < count y l → x ≡ y
lone_same of x y [] g e m n = absurd (omega (arith, count_nil x))
lone_same of x y (z ∷ l) g e m n =
    elim (count_cases x z l m) [
      | inl p ↦ elim (count_cases y z l n) [ inl q ↦ p ∙ sym q | inr k ↦ absurd (g.0 y k (sym e ∙ ap of p)) ]
      | inr j ↦ elim (count_cases y z l n) [
        | inl q ↦ absurd (g.0 x j (e ∙ ap of q))
        | inr k ↦ lone_same of x y l g.1 e j k
      ]
    ]

-- and none occurs twice
lone_once : (of : TreeLeaf → ℕ) (x : TreeLeaf) (l : List TreeLeaf) → Lone of l → count x l ≤ 1
lone_once of x [] g = omega (arith, count_nil x)
lone_once of x (z ∷ l) g =
    elim (dec_lt 0 (count x l)) [
      | no n ↦ omega (arith, count_cons x z l, one_most x z)
      | yes k ↦ elim (dec_lt 0 (one x z)) [
        | yes e ↦ absurd (g.0 x k (ap of (one_same x z e)))
        | no n ↦ omega (arith, count_cons x z l, lone_once of x l g.1)
      ]
    ]

module _ {R : Type 0} (h : R → Dig) where
  lone_items : (a : ℕ) (r : R) (l : List (ListItem R)) (z : ℕ) → AscendingFrom a l → Lone item_of (chain_of h a r l z)
  lone_items a r [] z g = ((λ y k. absurd (omega (arith, count_nil y))), tt)
  lone_items a r (item_with b s ∷ l) z g = (later, lone_items b s l z g.1)
    where
      later : (y : TreeLeaf) → 0 < count y (chain_of h b s l z) → item_of y ≢ a
      later (points A B w) k e = omega (arith, (bounds h A B w b s l z g.1 k).0, g.0)

  lone_nexts : (a : ℕ) (r : R) (l : List (ListItem R)) (z : ℕ) → z ≤ a → AscendingFrom a l → Lone next_of (chain_of h a r l z)
  lone_nexts a r [] z hz g = ((λ y k. absurd (omega (arith, count_nil y))), tt)
  lone_nexts a r (item_with b s ∷ l) z hz g = (later, lone_nexts b s l z (omega (arith, g.0)) g.1)
    where
      later : (y : TreeLeaf) → 0 < count y (chain_of h b s l z) → next_of y ≢ b
      later (points A B w) k e =
          let v = bounds h A B w b s l z g.1 k in
          elim v.1 [ inl d ↦ omega (arith, v.0) | inr d ↦ omega (arith, v.0, g.0) ]

  -- ── leaves of the ring ──

  pub ring_once : (x : TreeLeaf) (ls : List (ListItem R)) → AscendingFrom 0 ls → count x (ring h ls) ≤ 1
  ring_once x [] g = omega (arith, count_nil x)
  ring_once x (item_with a r ∷ l) g = lone_once item_of x (chain_of h a r l a) (lone_items a r l a g.1)

  -- no two have one item
  pub one_of_item : (x y : TreeLeaf) (ls : List (ListItem R)) → AscendingFrom 0 ls → item_of x ≡ item_of y → 0 < count x (ring h ls)
      → 0 < count y (ring h ls) → x ≡ y
  one_of_item x y [] g e m n = absurd (omega (arith, count_nil x))
  one_of_item x y (item_with a r ∷ l) g e m n = lone_same item_of x y (chain_of h a r l a) (lone_items a r l a g.1) e m n

  -- and no two lead to one item
  pub one_to_item : (x y : TreeLeaf) (ls : List (ListItem R)) → AscendingFrom 0 ls → next_of x ≡ next_of y → 0 < count x (ring h ls)
      → 0 < count y (ring h ls) → x ≡ y
  one_to_item x y [] g e m n = absurd (omega (arith, count_nil x))
  one_to_item x y (item_with a r ∷ l) g e m n =
      lone_same next_of x y (chain_of h a r l a) (lone_nexts a r l a (omega arith) g.1) e m n

  -- it stands for a listed item
  pub leaf_held : (x : TreeLeaf) (ls : List (ListItem R)) → 0 < count x (ring h ls) → (s : R) × OnList (item_of x) s ls × (h s ≡ hash_in x)
  leaf_held (points A B w) ls m = leaf_item h A B w ls m

  -- and leads to one
  next_chain : (A B : ℕ) (w : Dig) (a : ℕ) (r : R) (l : List (ListItem R)) (z : ℕ) → 0 < count (points A B w) (chain_of h a r l z)
      → (B ≡ z) ⊎ ((s : R) × OnList B s l)
  next_chain A B w a r [] z m = let e = count_single _ _ m in inl (cc)
  next_chain A B w a r (item_with b s ∷ l) z m =
      elim (count_cases _ _ _ m) [
        | inl e ↦ inr (s, Memᴰ.head {x = item_with b s} (cc))
        | inr k ↦ elim (next_chain A B w b s l z k) [ inl e ↦ inl e | inr t ↦ inr (t.0, Memᴰ.tail t.1) ]
      ]

  pub leaf_next : (x : TreeLeaf) (ls : List (ListItem R)) → 0 < count x (ring h ls) → (s : R) × OnList (next_of x) s ls
  leaf_next x [] m = absurd (omega (arith, count_nil x))
  leaf_next (points A B w) (item_with a r ∷ l) m =
      elim (next_chain A B w a r l a m) [
        | inl e ↦ (r, Memᴰ.head {x = item_with a r} (cc))
        | inr t ↦ (t.0, Memᴰ.tail t.1)
      ]
