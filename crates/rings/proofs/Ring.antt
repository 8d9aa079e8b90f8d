-- Laws of a leaf of the ring: where it can stand, which item it stands for, and that nothing is listed in its gap.
use mathlib.Core.Path.{◌≡◌, ap}
use mathlib.Core.List.Memᴰ
use mathlib.Core.List.{List, [], ◌∷◌}
use mathlib.Core.Logic.{◌⊎◌, inl, inr, ◌≢◌}
use Prim.Native.Nat.{ℕ, ◌+◌, ◌≤◌, ◌<◌}
use native.Mathlib.Omega.{arith}
use Rattle.paper.specs.Strings.{Dig}
use Rattle.rings.specs.Trees.{TreeLeaf, points, one, count}
use Rattle.rings.specs.Lists.{ListItem, item_with, AscendingFrom, OnList, Unlisted, chain_of, ring}
use Rattle.rings.proofs.Counting.{count_nil, count_cons, count_cases, count_single}
use Rattle.rings.proofs.Gaps.{Gap, between, beyond, before}
use Rattle.rings.proofs.Items.{unlisted_below}

module _ {R : Type 0} (h : R → Dig) where
  -- where it can stand: not below the first number, and it leads up or to the end z
  pub bounds : (A B : ℕ) (w : Dig) (a : ℕ) (r : R) (l : List (ListItem R)) (z : ℕ) → AscendingFrom a l
      → 0 < count (points A B w) (chain_of h a r l z) → (a ≤ A) × ((A < B) ⊎ (B ≡ z))
  bounds A B w a r [] z g m =
      let e = count_single _ _ m in
      let p : A ≡ a = cc in
      (omega arith, inr (cc))
  bounds A B w a r (item_with b s ∷ l) z g m =
      elim (count_cases _ _ _ m) [
        | inl e ↦ (let p : A ≡ a = cc in let q : B ≡ b = cc in (omega arith, inl (omega (arith, g.0))))
        | inr k ↦ (let t = bounds A B w b s l z g.1 k in (omega (arith, t.0, g.0), t.1))
      ]

  -- the item that it stands for
  held : (A B : ℕ) (w : Dig) (a : ℕ) (r : R) (l : List (ListItem R)) (z : ℕ) → 0 < count (points A B w) (chain_of h a r l z)
      → (s : R) × OnList A s (item_with a r ∷ l) × (h s ≡ w)
  held A B w a r [] z m =
      let e = count_single _ _ m in
      let p : A ≡ a = cc in
      (r, Memᴰ.head {x = item_with a r} (cc), cc)
  held A B w a r (item_with b s ∷ l) z m =
      elim (count_cases _ _ _ m) [
        | inl e ↦ (let p : A ≡ a = cc in (r, Memᴰ.head {x = item_with a r} (cc), cc))
        | inr k ↦ (let t = held A B w b s l z k in (t.0, Memᴰ.tail t.1, t.2))
      ]

  pub leaf_item : (A B : ℕ) (w : Dig) (ls : List (ListItem R)) → 0 < count (points A B w) (ring h ls)
      → (s : R) × OnList A s ls × (h s ≡ w)
  leaf_item A B w [] m = absurd (omega (arith, count_nil (points A B w)))
  leaf_item A B w (item_with a r ∷ l) m = held A B w a r l a m

  -- nothing is listed in its gap
  pub unlisted_in : (q A B : ℕ) (w : Dig) (a : ℕ) (r : R) (l : List (ListItem R)) (z : ℕ) → z ≤ a → AscendingFrom a l → Gap A B q
      → 0 < count (points A B w) (chain_of h a r l z) → Unlisted q (item_with a r ∷ l)
  unlisted_in q A B w a r [] z hz g k m =
      let e = count_single _ _ m in
      let p : A ≡ a = cc in
      (go k p, tt)
    where
      go : Gap A B q → A ≡ a → q ≢ a
      go (between u v) p = omega arith
      go (beyond u v) p = omega arith
      go (before u v t) p = omega arith
  unlisted_in q A B w a r (item_with b s ∷ l) z hz g k m =
      elim (count_cases _ _ _ m) [
        | inl e ↦ (
            let u = here k (cc) (cc) in
            (u.0, (omega (arith, u.1), unlisted_below b q l (omega (arith, u.1)) g.1)))
        | inr t ↦ (
            let v = bounds A B w b s l z g.1 t in
            (later k v.0 v.1, unlisted_in q A B w b s l z (omega (arith, g.0)) g.1 k t))
      ]
    where
      here : Gap A B q → A ≡ a → B ≡ b → (q ≢ a) × (q < b)
      here (between u v) p p' = (omega arith, omega arith)
      here (beyond u v) p p' = absurd (omega (arith, g.0))
      here (before u v t) p p' = absurd (omega (arith, g.0))

      later : Gap A B q → b ≤ A → (A < B) ⊎ (B ≡ z) → q ≢ a
      later (between u v) p p' = omega (arith, g.0)
      later (beyond u v) p p' = omega (arith, g.0)
      later (before u v t) p (inl x) = absurd (omega arith)
      later (before u v t) p (inr x) = omega (arith, g.0)

  pub gap_free : (q A B : ℕ) (w : Dig) (ls : List (ListItem R)) → AscendingFrom 0 ls → Gap A B q → 0 < count (points A B w) (ring h ls)
      → Unlisted q ls
  gap_free q A B w [] g k m = tt
  gap_free q A B w (item_with a r ∷ l) g k m = unlisted_in q A B w a r l a (omega arith) g.1 k m

  -- another number for the last leaf to lead to
  pub rewrap : (A : ℕ) (w : Dig) (a : ℕ) (r : R) (l : List (ListItem R)) (z z' : ℕ) → z ≤ a → AscendingFrom a l
      → 0 < count (points A z w) (chain_of h a r l z) → (x : TreeLeaf)
      → count x (chain_of h a r l z) + one x (points A z' w) ≡ count x (chain_of h a r l z') + one x (points A z w)
  rewrap A w a r [] z z' hz g m x =
      let e = count_single _ _ m in
      let e' : points A z' w ≡ points a z' (h r) = cc in
      simp (count_cons, count_nil) (omega (arith, ap (one x) e, ap (one x) e'))
  rewrap A w a r (item_with b s ∷ l) z z' hz g m x =
      elim (count_cases _ _ _ m) [
        | inl e ↦ (let p : z ≡ b = cc in absurd (omega (arith, g.0)))
        | inr t ↦ simp count_cons (omega (arith, rewrap A w b s l z z' (omega (arith, g.0)) g.1 t x))
      ]
