-- The leaf that a test finds in a tree of slots, and its way: the first slot that passes, and the way up from it.
use mathlib.Core.Path.{◌≡◌, refl, sym, ap, ap₂, ◌∙◌}
use mathlib.Core.Bool.{Bool, true, false}
use mathlib.Core.List.{[], ◌∷◌, ◌++◌}
use Prim.Native.Nat.{ℕ, zero, suc, ◌+◌, ◌-◌, ◌*◌, ◌/◌, ◌%◌, ◌<◌}
use native.Mathlib.Omega.{arith}
use native.Mathlib.Decide.{ℕ_discrete}
use borrow.Author.Tests.{eq-eqb, ne_eqb}
use Rattle.rings.specs.Trees.{TreeLeaf, Tree, tip}
use Rattle.runs.specs.Ways.{Level, on_left, on_right, Way, has, found, way_to}
use Rattle.slots.specs.Nodes.{ancestor}
use Rattle.groves.specs.Grove.{tree_at, level_at, way_up}
use Rattle.groves.proofs.Groves.{ancestor_suc}

before : (n w u : ℕ) → ancestor n w < ancestor n u → w < u
before zero w u h = h
before (suc n) w u h = let i = before n (w / 2) (u / 2) h in omega arith

module _ (f : ℕ → Tree) where
  way_last : (n h u : ℕ) → way_up f (suc n) h u ≡ way_up f n h u ++ (level_at f (n + h) (ancestor n u) ∷ [])
  way_last zero h u = let e : h ≡ 0 + h = omega arith in ap (λ (k : ℕ). level_at f k u ∷ []) e
  way_last (suc n) h u =
      let e : n + suc h ≡ suc n + h = omega arith in
      ap (λ (p : Way). level_at f h u ∷ p)
      (way_last n (suc h) (u / 2) ∙ ap (λ (k : ℕ). way_up f n (suc h) (u / 2) ++ (level_at f k (ancestor n (u / 2)) ∷ [])) e)

  module _ (p : TreeLeaf → Bool) where
    -- none of the slots below v passes
    pub none_below : (n v : ℕ) → ((w : ℕ) → ancestor n w ≡ v → has p (f w) ≡ false) → has p (tree_at f n v) ≡ false
    none_below zero v k = k v refl
    none_below (suc n) v k =
        rw (none_below n (2 * v) (λ w e. k w (ancestor_suc n w ∙ omega (arith, e))))
        (none_below n (2 * v + 1) (λ w e. k w (ancestor_suc n w ∙ omega (arith, e))))

    -- slot u is the first that passes, and v stands n levels above it
    pub record Finds (n u : ℕ) (x : TreeLeaf) (v : ℕ) : Type 0 where
      pub has_it : has p (tree_at f n v) ≡ true
      pub is_it : found p (tree_at f n v) ≡ x
      pub its_way : way_to p (tree_at f n v) ≡ way_up f n 0 u

    pub finds : (n u : ℕ) (x : TreeLeaf) (v : ℕ) → f u ≡ tip x → p x ≡ true → ancestor n u ≡ v
        → ((w : ℕ) → w < u → ancestor n w ≡ v → has p (f w) ≡ false) → Finds n u x v
    finds zero u x v e t a k =
        let q : f v ≡ tip x = ap f (sym a) ∙ e in
        record { has_it = rw q t; is_it = rw q refl; its_way = rw q refl }
    finds (suc n) u x v e t a k = by_side (ℕ_discrete (ancestor n u) (2 * v)) (finds n u x)
      where
        half : ancestor n u / 2 ≡ v
        half = sym (ancestor_suc n u) ∙ a

        n0 : n + 0 ≡ n
        n0 = omega arith

        by_side : Dec (ancestor n u ≡ 2 * v)
            → ((v : ℕ) → f u ≡ tip x → p x ≡ true → ancestor n u ≡ v
            → ((w : ℕ) → w < u → ancestor n w ≡ v → has p (f w) ≡ false) → Finds n u x v)
            → Finds (suc n) u x v
        by_side (yes q) r =
            let i = r (2 * v) e t q (λ w l b. k w l (ancestor_suc n w ∙ omega (arith, b))) in
            let o = ne_eqb (ancestor n u % 2) 1 (λ c. omega (arith, c, q)) in
            let last : level_at f (n + 0) (ancestor n u) ≡ on_right (tree_at f n (2 * v + 1)) =
            rw o (ap₂ (λ (j w : ℕ). on_right (tree_at f j (w + 1))) n0 q) in
            record {
              has_it = rw i.has_it refl;
              is_it = rw i.has_it i.is_it;
              its_way =
                  rw i.has_it
                  (ap₂ (λ (a : Way) (b : Level). a ++ (b ∷ [])) i.its_way (sym last) ∙ sym (way_last n 0 u));
            }
        by_side (no m) r =
            let q : ancestor n u ≡ 2 * v + 1 = omega (arith, half, m) in
            let i = r (2 * v + 1) e t q (λ w l b. k w l (ancestor_suc n w ∙ omega (arith, b))) in
            let o = eq-eqb (ancestor n u % 2) 1 (omega (arith, q)) in
            let z = none_below n (2 * v) (λ w b. k w (before n w u (omega (arith, b, q))) (ancestor_suc n w ∙ omega (arith, b))) in
            let w1 : ancestor n u - 1 ≡ 2 * v = omega (arith, q) in
            let last : level_at f (n + 0) (ancestor n u) ≡ on_left (tree_at f n (2 * v)) =
            rw o (ap₂ (λ (j w : ℕ). on_left (tree_at f j w)) n0 w1) in
            record {
              has_it = rw z i.has_it;
              is_it = rw z i.is_it;
              its_way =
                  rw z (ap₂ (λ (a : Way) (b : Level). a ++ (b ∷ [])) i.its_way (sym last) ∙ sym (way_last n 0 u));
            }
