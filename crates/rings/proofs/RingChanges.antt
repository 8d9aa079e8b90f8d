-- Which leaves of the ring change when an item is inserted or removed or a record is put: every leaf is counted on both
-- sides.
use mathlib.Core.Bool.{Bool, true, false}
use mathlib.Core.Path.{◌≡◌, refl, ap}
use mathlib.Core.List.{List, [], ◌∷◌}
use mathlib.Core.Logic.{◌⊎◌, inl, inr, ◌≢◌}
use Prim.Native.Nat.{ℕ, ◌+◌, ◌≤◌, ◌<◌}
use native.Mathlib.Omega.{arith}
use borrow.Author.Tests.{ltb-true, ltb-false, eqb-true, eqb-false}
use lib.Dec.{eqb, ltb}
use Rattle.seqs.specs.Choose.{pick}
use Rattle.paper.specs.Strings.{Dig}
use Rattle.rings.specs.Trees.{TreeLeaf, points, one, count}
use Rattle.rings.specs.Lists.{ListItem, item_with, AscendingFrom, Unlisted, insert, remove, put_record, chain_of, ring}
use Rattle.rings.proofs.Counting.{count_nil, count_cons, count_cases, count_single}
use Rattle.rings.proofs.Gaps.{Gap, between, beyond, before}
use Rattle.rings.proofs.Ring.{bounds, unlisted_in, rewrap}

-- The leaves L with item q are the leaves M without it, but for (A, q, w) and (q, B, v) in the place of (A, B, w); counted at x.
abbrev Bypass : (q A B : ℕ) (w v : Dig) (x : TreeLeaf) (L M : List TreeLeaf) → Type 0
Bypass q A B w v x L M = count x L + one x (points A B w) ≡ count x M + one x (points A q w) + one x (points q B v)

-- The leaves L are the leaves M, but for (A, B, w') in the place of (A, B, w).
abbrev Rehash : (A B : ℕ) (w w' : Dig) (x : TreeLeaf) (L M : List TreeLeaf) → Type 0
Rehash A B w w' x L M = count x L + one x (points A B w) ≡ count x M + one x (points A B w')

module _ {R : Type 0} (h : R → Dig) where
  -- ── removing an item: its leaf goes, and the leaf before it leads on ──

  remove_chain : (q A B : ℕ) (w v : Dig) (a : ℕ) (r : R) (l : List (ListItem R)) (z : ℕ) → z ≤ a → AscendingFrom a l → a < q
      → 0 < count (points A q w) (chain_of h a r l z) → 0 < count (points q B v) (chain_of h a r l z) → (x : TreeLeaf)
      → Bypass q A B w v x (chain_of h a r l z) (chain_of h a r (remove q l) z)
  unfolding remove
  remove_chain q A B w v a r [] z hz g hq m m' x =
      let e = count_single _ _ m in
      let p : q ≡ z = cc in
      absurd (omega arith)
  remove_chain q A B w v a r (item_with b s ∷ l) z hz g hq m m' x =
      go (eqb q b) refl (count_cases _ _ _ m) (count_cases _ _ _ m')
      (λ u t t'. remove_chain q A B w v b s l z (omega (arith, g.0)) g.1 u t t' x)
    where
      last : (l : List (ListItem R)) → AscendingFrom b l → q ≡ b → 0 < count (points q B v) (chain_of h b s l z)
          → count x (chain_of h b s l z) + one x (points a B (h r)) ≡ count x (chain_of h a r l z) + one x (points q B v)
      last [] k p t =
          let e = count_single _ _ t in
          let e' : points a B (h r) ≡ points a z (h r) = cc in
          simp (count_cons, count_nil) (omega (arith, ap (one x) e, ap (one x) e'))
      last (item_with c s' ∷ l') k p t =
          elim (count_cases _ _ _ t) [
            | inl e ↦ (
                let e' : points a B (h r) ≡ points a c (h r) = cc in
                simp count_cons (omega (arith, ap (one x) e, ap (one x) e')))
            | inr t' ↦ absurd (omega (arith, k.0, (bounds h q B v c s' l' z k.1 t').0))
          ]

      go : (t : Bool) → eqb q b ≡ t → (points A q w ≡ points a b (h r)) ⊎ (0 < count (points A q w) (chain_of h b s l z))
          → (points q B v ≡ points a b (h r)) ⊎ (0 < count (points q B v) (chain_of h b s l z))
          → (b < q → 0 < count (points A q w) (chain_of h b s l z) → 0 < count (points q B v) (chain_of h b s l z)
          → Bypass q A B w v x (chain_of h b s l z) (chain_of h b s (remove q l) z))
          → Bypass q A B w v x (points a b (h r) ∷ chain_of h b s l z) (chain_of h a r (pick t l (item_with b s ∷ remove q l)) z)
      go d i t (inl e) f = let p : q ≡ a = cc in absurd (omega arith)
      go true i (inl e) (inr t') f =
          let p : q ≡ b = eqb-true q b i in
          let e' : points A B w ≡ points a B (h r) = cc in
          simp count_cons (omega (arith, last l g.1 p t', ap (one x) e, ap (one x) e'))
      go true i (inr t) (inr t') f = absurd (off (eqb-true q b i) (bounds h A q w b s l z g.1 t))
        where
          off : q ≡ b → (b ≤ A) × ((A < q) ⊎ (q ≡ z)) → ⊥
          off p u = elim u.1 [ inl k ↦ omega (arith, u.0) | inr k ↦ omega (arith, g.0) ]
      go false i (inl e) (inr t') f = absurd (eqb-false q b i (cc))
      go false i (inr t) (inr t') f =
          simp count_cons
          (omega (arith, f (omega (arith, eqb-false q b i, (bounds h q B v b s l z g.1 t').0)) t t'))

  pub remove_ring : (q A B : ℕ) (w v : Dig) (ls : List (ListItem R)) → AscendingFrom 0 ls → A ≢ q → 0 < count (points A q w) (ring h ls)
      → 0 < count (points q B v) (ring h ls) → (x : TreeLeaf) → Bypass q A B w v x (ring h ls) (ring h (remove q ls))
  unfolding remove
  remove_ring q A B w v [] g n m m' x = absurd (omega (arith, count_nil (points A q w)))
  remove_ring q A B w v (item_with a r ∷ l) g n m m' x = go (eqb q a) refl
    where
      first : (l : List (ListItem R)) → AscendingFrom a l → q ≡ a → 0 < count (points A q w) (chain_of h a r l a)
          → 0 < count (points q B v) (chain_of h a r l a) → Bypass q A B w v x (chain_of h a r l a) (ring h l)
      first [] k p t t' = let e = count_single _ _ t in absurd (n (cc))
      first (item_with b s ∷ l') k p t t' = on (count_cases _ _ _ t) (count_cases _ _ _ t')
        where
          on : (points A q w ≡ points a b (h r)) ⊎ (0 < count (points A q w) (chain_of h b s l' a))
              → (points q B v ≡ points a b (h r)) ⊎ (0 < count (points q B v) (chain_of h b s l' a))
              → Bypass q A B w v x (points a b (h r) ∷ chain_of h b s l' a) (chain_of h b s l' b)
          on (inl e) u = absurd (n (cc))
          on (inr u) (inr u') = absurd (omega (arith, k.0, (bounds h q B v b s l' a k.1 u').0))
          on (inr u) (inl e) =
              let u' : 0 < count (points A a w) (chain_of h b s l' a) = rw p at u in
              let e₁ : points A b w ≡ points A B w = cc in
              let e₂ : points A a w ≡ points A q w = cc in
              let wrapped = rewrap h A w b s l' a b (omega (arith, k.0)) k.1 u' x in
              simp count_cons (omega (arith, wrapped, ap (one x) e, ap (one x) e₁, ap (one x) e₂))

      go : (t : Bool) → eqb q a ≡ t → Bypass q A B w v x (chain_of h a r l a) (ring h (pick t l (item_with a r ∷ remove q l)))
      go true i = first l g.1 (eqb-true q a i) m m'
      go false i =
          remove_chain q A B w v a r l a (omega arith) g.1
          (omega (arith, eqb-false q a i, (bounds h q B v a r l a g.1 m').0)) m m' x

  -- ── putting a record: one leaf has another hash ──

  put_head : (A B : ℕ) (w : Dig) (r : R) (a : ℕ) (s : R) (l : List (ListItem R)) (z : ℕ) → A ≡ a → AscendingFrom a l
      → 0 < count (points A B w) (chain_of h a s l z) → (x : TreeLeaf)
      → Rehash A B w (h r) x (chain_of h a r l z) (chain_of h a s l z)
  put_head A B w r a s [] z p g m x =
      let e = count_single _ _ m in
      let e' : points A B (h r) ≡ points a z (h r) = cc in
      simp (count_cons, count_nil) (omega (arith, ap (one x) e, ap (one x) e'))
  put_head A B w r a s (item_with b t ∷ l) z p g m x =
      elim (count_cases _ _ _ m) [
        | inl e ↦ (
            let e' : points A B (h r) ≡ points a b (h r) = cc in
            simp count_cons (omega (arith, ap (one x) e, ap (one x) e')))
        | inr u ↦ absurd (omega (arith, g.0, (bounds h A B w b t l z g.1 u).0))
      ]

  put_tail : (A B : ℕ) (w : Dig) (r : R) (a : ℕ) (s : R) (l : List (ListItem R)) (z : ℕ) → A ≢ a → AscendingFrom a l
      → 0 < count (points A B w) (chain_of h a s l z) → (x : TreeLeaf)
      → Rehash A B w (h r) x (chain_of h a s (put_record A r l) z) (chain_of h a s l z)
  unfolding put_record
  put_tail A B w r a s [] z n g m x = let e = count_single _ _ m in absurd (n (cc))
  put_tail A B w r a s (item_with b t ∷ l) z n g m x =
      go (eqb A b) refl (count_cases _ _ _ m) (λ k u. put_tail A B w r b t l z k g.1 u x)
    where
      go : (d : Bool) → eqb A b ≡ d → (points A B w ≡ points a b (h s)) ⊎ (0 < count (points A B w) (chain_of h b t l z))
          → (A ≢ b → 0 < count (points A B w) (chain_of h b t l z)
          → Rehash A B w (h r) x (chain_of h b t (put_record A r l) z) (chain_of h b t l z))
          → Rehash A B w (h r) x (chain_of h a s (pick d (item_with b r ∷ l) (item_with b t ∷ put_record A r l)) z)
          (points a b (h s) ∷ chain_of h b t l z)
      go d i (inl e) f = absurd (n (cc))
      go true i (inr u) f = simp count_cons (omega (arith, put_head A B w r b t l z (eqb-true A b i) g.1 u x))
      go false i (inr u) f = simp count_cons (omega (arith, f (eqb-false A b i) u))

  pub put_ring : (A B : ℕ) (w : Dig) (r : R) (ls : List (ListItem R)) → AscendingFrom 0 ls → 0 < count (points A B w) (ring h ls)
      → (x : TreeLeaf) → Rehash A B w (h r) x (ring h (put_record A r ls)) (ring h ls)
  unfolding put_record
  put_ring A B w r [] g m x = absurd (omega (arith, count_nil (points A B w)))
  put_ring A B w r (item_with a s ∷ l) g m x = go (eqb A a) refl
    where
      go : (d : Bool) → eqb A a ≡ d
          → Rehash A B w (h r) x (ring h (pick d (item_with a r ∷ l) (item_with a s ∷ put_record A r l))) (chain_of h a s l a)
      go true i = put_head A B w r a s l a (eqb-true A a i) g.1 m x
      go false i = put_tail A B w r a s l a (eqb-false A a i) g.1 m x

  -- ── inserting an item: the leaf in whose gap it lies leads to it, and it leads on ──

  insert_chain : (q A B : ℕ) (w : Dig) (new : R) (a : ℕ) (r : R) (l : List (ListItem R)) (z : ℕ) → z ≤ a → AscendingFrom a l → a < q
      → Unlisted q l → Gap A B q → 0 < count (points A B w) (chain_of h a r l z) → (x : TreeLeaf)
      → Bypass q A B w (h new) x (chain_of h a r (insert q new l) z) (chain_of h a r l z)
  unfolding insert
  insert_chain q A B w new a r [] z hz g hq f k m x =
      let e = count_single _ _ m in
      let e₁ : points A q w ≡ points a q (h r) = cc in
      let e₂ : points q B (h new) ≡ points q z (h new) = cc in
      simp (count_cons, count_nil) (omega (arith, ap (one x) e, ap (one x) e₁, ap (one x) e₂))
  insert_chain q A B w new a r (item_with b s ∷ l) z hz g hq f k m x =
      go (ltb q b) refl (count_cases _ _ _ m)
      (λ u t. insert_chain q A B w new b s l z (omega (arith, g.0)) g.1 u f.1 k t x)
    where
      off : q < b → b ≤ A → (A < B) ⊎ (B ≡ z) → Gap A B q → ⊥
      off u v t (between k₁ k₂) = omega arith
      off u v t (beyond k₁ k₂) = omega arith
      off u v (inl t) (before k₁ k₂ k₃) = omega arith
      off u v (inr t) (before k₁ k₂ k₃) = omega arith

      up : A ≡ a → B ≡ b → Gap A B q → q < b
      up u v (between k₁ k₂) = omega arith
      up u v (beyond k₁ k₂) = absurd (omega (arith, g.0))
      up u v (before k₁ k₂ k₃) = omega arith

      go : (d : Bool) → ltb q b ≡ d → (points A B w ≡ points a b (h r)) ⊎ (0 < count (points A B w) (chain_of h b s l z))
          → (b < q → 0 < count (points A B w) (chain_of h b s l z)
          → Bypass q A B w (h new) x (chain_of h b s (insert q new l) z) (chain_of h b s l z))
          → Bypass q A B w (h new) x (chain_of h a r (pick d (item_with q new ∷ item_with b s ∷ l) (item_with b s ∷ insert q new l)) z)
          (points a b (h r) ∷ chain_of h b s l z)
      go true u (inl e) i =
          let e₁ : points A q w ≡ points a q (h r) = cc in
          let e₂ : points q B (h new) ≡ points q b (h new) = cc in
          simp count_cons (omega (arith, ap (one x) e, ap (one x) e₁, ap (one x) e₂))
      go true u (inr t) i =
          let v = bounds h A B w b s l z g.1 t in
          absurd (off (ltb-true q b u) v.0 v.1 k)
      go false u (inl e) i = absurd (omega (arith, ltb-false q b u, up (cc) (cc) k))
      go false u (inr t) i = simp count_cons (omega (arith, i (omega (arith, ltb-false q b u, f.0)) t))

  pub insert_ring : (q A B : ℕ) (w : Dig) (new : R) (ls : List (ListItem R)) → AscendingFrom 0 ls → Gap A B q
      → 0 < count (points A B w) (ring h ls) → (x : TreeLeaf) → Bypass q A B w (h new) x (ring h (insert q new ls)) (ring h ls)
  unfolding insert
  insert_ring q A B w new [] g k m x = absurd (omega (arith, count_nil (points A B w)))
  insert_ring q A B w new (item_with a r ∷ l) g k m x = go (ltb q a) refl (unlisted_in h q A B w a r l a (omega arith) g.1 k m)
    where
      wrap : q < a → a ≤ A → (A < B) ⊎ (B ≡ a) → Gap A B q → B ≡ a
      wrap u v (inr t) k = t
      wrap u v (inl t) (between k₁ k₂) = absurd (omega arith)
      wrap u v (inl t) (beyond k₁ k₂) = absurd (omega arith)
      wrap u v (inl t) (before k₁ k₂ k₃) = absurd (omega arith)

      go : (d : Bool) → ltb q a ≡ d → Unlisted q (item_with a r ∷ l)
          → Bypass q A B w (h new) x (ring h (pick d (item_with q new ∷ item_with a r ∷ l) (item_with a r ∷ insert q new l)))
          (chain_of h a r l a)
      go true u f =
          let v = bounds h A B w a r l a g.1 m in
          let p : B ≡ a = wrap (ltb-true q a u) v.0 v.1 k in
          let m' : 0 < count (points A a w) (chain_of h a r l a) = rw p at m in
          let e₁ : points q B (h new) ≡ points q a (h new) = cc in
          let e₂ : points A B w ≡ points A a w = cc in
          simp count_cons (omega (arith, rewrap h A w a r l a q (omega arith) g.1 m' x, ap (one x) e₁, ap (one x) e₂))
      go false u f =
          insert_chain q A B w new a r l a (omega arith) g.1 (omega (arith, ltb-false q a u, f.0)) f.1 k m x
