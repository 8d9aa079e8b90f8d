-- Memory that keeps a tree has each node's hash, so its siblings are those of the way up, and what climbs there rises.
use mathlib.Core.Path.{◌≡◌, refl, sym, ap, ap₂, subst, ◌∙◌}
use mathlib.Core.List.{List, ◌∷◌}
use mathlib.Core.Logic.{◌≢◌}
use Prim.Native.Nat.{ℕ, zero, suc, ◌+◌, ◌-◌, ◌*◌, ◌/◌, ◌%◌, ◌^◌, ◌<◌, ◌≤◌}
use native.Mathlib.Nat.{pow-suc}
use native.Mathlib.Omega.{arith}
use native.Mathlib.Decide.{ℕ_discrete}
use borrow.Author.Tests.{eq-eqb, ne_eqb}
use lib.Pow.{pow_mono, pow_pos}
use lib.Arith.{mod-mul}
use Rattle.paper.specs.Strings.{Dig, H, up}
use Rattle.rings.specs.Trees.{Tree, branch, hash_of}
use Rattle.runs.specs.Ways.{Level, on_left, on_right, Way, sides_of, siblings_of, rise}
use Rattle.slots.specs.Nodes.{slot_count, level_count, ancestor, node_at, sibling_at, siblings_up, summed, climbed}
use Rattle.groves.specs.Grove.{tree_at, level_at, way_up, Kept}

-- node v has a levels above it
pub record OnLevel (a v : ℕ) : Type 0 where
  pub from : 2 ^ a ≤ v
  pub till : v < 2 ^ (suc a)

pub level_up : (a v : ℕ) → OnLevel (suc a) v → OnLevel a (v / 2)
level_up a v r =
    record {
      from = omega (arith, r.from, pow-suc 2 a);
      till = omega (arith, r.till, pow-suc 2 (suc a));
    }

-- slots have all of them above
pub slot_level : (i : ℕ) → i < slot_count → OnLevel level_count (slot_count + i)
slot_level i h = record { from = omega arith; till = omega arith }

level_left : (a v : ℕ) → OnLevel a v → OnLevel (suc a) (2 * v)
level_left a v r = record { from = omega (arith, r.from, pow-suc 2 a); till = omega (arith, r.till, pow-suc 2 (suc a)) }

level_right : (a v : ℕ) → OnLevel a v → OnLevel (suc a) (2 * v + 1)
level_right a v r = record { from = omega (arith, r.from, pow-suc 2 a); till = omega (arith, r.till, pow-suc 2 (suc a)) }

-- so has its sibling
level_beside : (a v : ℕ) → OnLevel (suc a) v → (w : ℕ) → w / 2 ≡ v / 2 → OnLevel (suc a) w
level_beside a v r w e =
    record {
      from = omega (arith, r.from, pow-suc 2 a, e);
      till = omega (arith, r.till, pow-suc 2 (suc a), pow-suc 2 a, e);
    }

-- powers up to the tenth
ten : (a n : ℕ) → n + a ≡ 10 → 2 ^ a ≤ 1024
ten a n e = pow_mono {i = a} {j = 10} (omega arith)

module _ (D : List ℕ → Dig) (f : ℕ → Tree) (m : List ℕ) (k : Kept D f m) where
  -- each node has the hash of what stands there
  pub kept_node : (n a v : ℕ) → n + a ≡ 10 → OnLevel a v → node_at m v ≡ hash_of D (tree_at f n v)
  unfolding summed
  kept_node zero a v e r =
      let a-is : a ≡ 10 = omega arith in
      let r' = subst (λ (b : ℕ). OnLevel b v) a-is r in
      let at : 1024 + (v - 1024) ≡ v = omega (arith, r'.from) in
      ap (node_at m) (sym at) ∙ k.slots (v - 1024) (omega (arith, r'.from, r'.till)) ∙ ap (λ (w : ℕ). hash_of D (f w)) at
  kept_node (suc n) a v e r =
      k.above v (omega (arith, r.from, one_below a)) (omega (arith, r.till, ten (suc a) n (omega arith)))
      ∙ ap₂ (H D) (kept_node n (suc a) (2 * v) (omega arith) (level_left a v r))
      (kept_node n (suc a) (2 * v + 1) (omega arith) (level_right a v r))
    where
      one_below : (a : ℕ) → 1 ≤ 2 ^ a
      one_below zero = omega arith
      one_below (suc a) = omega (arith, one_below a, pow-suc 2 a)

  -- what stands beside it, as a sibling and as one level of the climb
  abbrev Beside : (n v : ℕ) → Type 0
  Beside n v =
      ((p : Way) → siblings_of D (level_at f n v ∷ p) ≡ sibling_at m v ∷ siblings_of D p)
      × ((p : Way) (x : Dig) → rise D (level_at f n v ∷ p) x ≡ rise D p (up D x (sibling_at m v) (v % 2)))

  beside_is : (n a v : ℕ) → n + suc a ≡ 10 → OnLevel (suc a) v → Beside n v
  unfolding sibling_at
  beside_is n a v e r = by_side (ℕ_discrete (v % 2) 1)
    where
      by_side : Dec (v % 2 ≡ 1) → Beside n v
      by_side (yes o) =
          let t = eq-eqb (v % 2) 1 o in
          let h = kept_node n (suc a) (v - 1) e (level_beside a v r (v - 1) (omega arith)) in
          ((λ p. rw (t, h) refl), (λ p x. rw (t, h) refl))
      by_side (no o) =
          let t = ne_eqb (v % 2) 1 o in
          let h = kept_node n (suc a) (v + 1) e (level_beside a v r (v + 1) (omega arith)) in
          ((λ p. rw (t, h) refl), (λ p x. rw (t, h) refl))

  -- n levels up from v, which has h below it and b + n above
  pub siblings_are : (n h b v : ℕ) → h + (b + n) ≡ 10 → OnLevel (b + n) v → siblings_up m n v ≡ siblings_of D (way_up f n h v)
  siblings_are zero h b v e r = refl
  siblings_are (suc n) h b v e r =
      let d : b + suc n ≡ suc (b + n) = omega arith in
      let r' = subst (λ (c : ℕ). OnLevel c v) d r in
      let i = siblings_are n (suc h) b (v / 2) (omega arith) (level_up (b + n) v r') in
      ap (λ (l : List Dig). sibling_at m v ∷ l) i ∙ sym ((beside_is h (b + n) v (omega arith) r').0 (way_up f n (suc h) (v / 2)))

  pub climbs : (n h b v : ℕ) (x : Dig) → h + (b + n) ≡ 10 → OnLevel (b + n) v → climbed D m n v x ≡ rise D (way_up f n h v) x
  climbs zero h b v x e r = refl
  climbs (suc n) h b v x e r =
      let d : b + suc n ≡ suc (b + n) = omega arith in
      let r' = subst (λ (c : ℕ). OnLevel c v) d r in
      climbs n (suc h) b (v / 2) (up D x (sibling_at m v) (v % 2)) (omega arith) (level_up (b + n) v r')
      ∙ sym ((beside_is h (b + n) v (omega arith) r').1 (way_up f n (suc h) (v / 2)) x)

-- ── the tree ──

module _ (f : ℕ → Tree) where
  -- the sides are the bits of v
  pub sides_are : (n h v : ℕ) → sides_of (way_up f n h v) ≡ v % 2 ^ n
  sides_are zero h v = omega arith
  sides_are (suc n) h v = by_side (ℕ_discrete (v % 2) 1) (sides_are n (suc h) (v / 2))
    where
      low : v % 2 + 2 * (v / 2 % 2 ^ n) ≡ v % 2 ^ (suc n)
      low = rw (pow-suc 2 n) (omega (arith, mod-mul v {m = 2 ^ n} {c = 2} (pow_pos n) (omega arith)))

      by_side : Dec (v % 2 ≡ 1) → sides_of (way_up f n (suc h) (v / 2)) ≡ v / 2 % 2 ^ n
          → sides_of (level_at f h v ∷ way_up f n (suc h) (v / 2)) ≡ v % 2 ^ (suc n)
      by_side (yes o) i = rw (eq-eqb (v % 2) 1 o, i) (omega (arith, low))
      by_side (no o) i = rw (ne_eqb (v % 2) 1 o, i) (omega (arith, low))

  -- what stands at v rises to what stands above it
  pub rises : (D : List ℕ → Dig) (n h v : ℕ)
      → rise D (way_up f n h v) (hash_of D (tree_at f h v)) ≡ hash_of D (tree_at f (n + h) (ancestor n v))
  rises D zero h v = let e : h ≡ 0 + h = omega arith in ap (λ (k : ℕ). hash_of D (tree_at f k v)) e
  rises D (suc n) h v =
      let e : n + suc h ≡ suc n + h = omega arith in
      by_side (ℕ_discrete (v % 2) 1)
      (rises D n (suc h) (v / 2) ∙ ap (λ (k : ℕ). hash_of D (tree_at f k (ancestor n (v / 2)))) e)
    where
      by_side : Dec (v % 2 ≡ 1)
          → rise D (way_up f n (suc h) (v / 2)) (hash_of D (tree_at f (suc h) (v / 2)))
          ≡ hash_of D (tree_at f (suc n + h) (ancestor n (v / 2)))
          → rise D (level_at f h v ∷ way_up f n (suc h) (v / 2)) (hash_of D (tree_at f h v))
          ≡ hash_of D (tree_at f (suc n + h) (ancestor n (v / 2)))
      by_side (yes o) rest =
          let l : v - 1 ≡ 2 * (v / 2) = omega arith in
          let r : v ≡ 2 * (v / 2) + 1 = omega arith in
          rw (eq-eqb (v % 2) 1 o)
          (ap₂ (λ (x y : ℕ). rise D (way_up f n (suc h) (v / 2)) (H D (hash_of D (tree_at f h x)) (hash_of D (tree_at f h y)))) l r
          ∙ rest)
      by_side (no o) rest =
          let l : v ≡ 2 * (v / 2) = omega arith in
          let r : v + 1 ≡ 2 * (v / 2) + 1 = omega arith in
          rw (ne_eqb (v % 2) 1 o)
          (ap₂ (λ (x y : ℕ). rise D (way_up f n (suc h) (v / 2)) (H D (hash_of D (tree_at f h x)) (hash_of D (tree_at f h y)))) l r
          ∙ rest)

-- ── slots that change ──

pub ancestor_suc : (n v : ℕ) → ancestor (suc n) v ≡ ancestor n v / 2
ancestor_suc zero v = refl
ancestor_suc (suc n) v = ancestor_suc n (v / 2)

module _ (f g : ℕ → Tree) where
  -- a tree is the same where the slots below it are
  pub tree_same : (n v : ℕ) → ((w : ℕ) → ancestor n w ≡ v → f w ≡ g w) → tree_at f n v ≡ tree_at g n v
  tree_same zero v k = k v refl
  tree_same (suc n) v k =
      ap₂ (λ (t u : Tree). branch t u)
      (tree_same n (2 * v) (λ w e. k w (ancestor_suc n w ∙ omega (arith, e))))
      (tree_same n (2 * v + 1) (λ w e. k w (ancestor_suc n w ∙ omega (arith, e))))

  -- a way is the same where all slots below its top and not below its foot are
  pub way_same : (n h v : ℕ)
      → ((w : ℕ) → ancestor h w ≢ v → ancestor n (ancestor h w) ≡ ancestor n v → f w ≡ g w) → way_up f n h v ≡ way_up g n h v
  way_same zero h v k = refl
  way_same (suc n) h v k =
      ap₂ (λ (a : Level) (p : Way). a ∷ p) (by_side (ℕ_discrete (v % 2) 1))
      (way_same n (suc h) (v / 2)
      (λ w e t.
      k w (λ q. e (ancestor_suc h w ∙ ap (λ (x : ℕ). x / 2) q)) (ap (ancestor n) (sym (ancestor_suc h w)) ∙ t)))
    where
      by_side : Dec (v % 2 ≡ 1) → level_at f h v ≡ level_at g h v
      by_side (yes o) =
          rw (eq-eqb (v % 2) 1 o)
          (ap on_left (tree_same h (v - 1)
          (λ w e.
          let t : ancestor h w / 2 ≡ v / 2 = omega (arith, e) in
          k w (λ q. omega (arith, e, q)) (ap (ancestor n) t))))
      by_side (no o) =
          rw (ne_eqb (v % 2) 1 o)
          (ap on_right (tree_same h (v + 1)
          (λ w e.
          let t : ancestor h w / 2 ≡ v / 2 = omega (arith, e) in
          k w (λ q. omega (arith, e, q)) (ap (ancestor n) t))))
