-- Two slots under their fork: what stands in them rises to the root of the tree with both.
use mathlib.Core.Path.{◌≡◌, sym, ap, ap₂, ◌∙◌}
use mathlib.Core.List.{List}
use mathlib.Core.Logic.{◌≢◌}
use Prim.Native.Nat.{ℕ, zero, suc, ◌+◌, ◌-◌, ◌*◌, ◌/◌, ◌<◌, ◌≤◌}
use native.Mathlib.Omega.{arith}
use native.Mathlib.Decide.{ℕ_discrete}
use borrow.Author.Tests.{eq-eqb, ne_eqb}
use Rattle.paper.specs.Strings.{Dig, H}
use Rattle.rings.specs.Trees.{Tree, hash_of}
use Rattle.runs.specs.Ways.{Way, rise}
use Rattle.slots.specs.Nodes.{ancestor, meeting}
use Rattle.groves.specs.Grove.{tree_at, grove, way_up, fork_at}
use Rattle.groves.proofs.Groves.{OnLevel, level_up, rises, ancestor_suc, way_same}

-- two nodes of one row part below their meeting, and not above it
pub record Meets (n u v : ℕ) : Type 0 where
  pub low : meeting n u v ≤ n
  pub apart : ancestor (meeting n u v) u ≢ ancestor (meeting n u v) v
  pub above : ancestor (suc (meeting n u v)) u ≡ ancestor (suc (meeting n u v)) v

pub meets : (n u v : ℕ) → u ≢ v → ancestor (suc n) u ≡ ancestor (suc n) v → Meets n u v
meets zero u v a e = record { low = omega arith; apart = a; above = e }
meets (suc n) u v a e = by_test (ℕ_discrete (u / 2) (v / 2)) (λ b. meets n (u / 2) (v / 2) b e)
  where
    by_test : Dec (u / 2 ≡ v / 2) → (u / 2 ≢ v / 2 → Meets n (u / 2) (v / 2)) → Meets (suc n) u v
    by_test (yes q) k =
        let t = eq-eqb (u / 2) (v / 2) q in
        record { low = rw t (omega arith); apart = rw t a; above = rw t q }
    by_test (no q) k =
        let t = ne_eqb (u / 2) (v / 2) q in
        let i = k q in
        record { low = rw t (omega (arith, i.low)); apart = rw t i.apart; above = rw t i.above }

ancestor_add : (m n v : ℕ) → ancestor m (ancestor n v) ≡ ancestor (m + n) v
ancestor_add m zero v = let e : m ≡ m + 0 = omega arith in ap (λ (k : ℕ). ancestor k v) e
ancestor_add m (suc n) v =
    let e : suc (m + n) ≡ m + suc n = omega arith in
    ancestor_add m n (v / 2) ∙ ap (λ (k : ℕ). ancestor k v) e

ancestor_le : (n u v : ℕ) → u ≤ v → ancestor n u ≤ ancestor n v
ancestor_le zero u v h = h
ancestor_le (suc n) u v h = ancestor_le n (u / 2) (v / 2) (omega arith)

-- ten levels above a slot is the root
pub top_is : (n v : ℕ) → OnLevel n v → ancestor n v ≡ 1
top_is zero v r = omega (arith, r.from, r.till)
top_is (suc n) v r = top_is n (v / 2) (level_up n v r)

below : (x y : ℕ) → x ≤ y → x ≢ y → x < y
below x y h n = omega (arith, n)

-- slots u and v, u on the left: the halves of the node at their meeting, and the way from there to the root
pub record Halves (u v : ℕ) : Type 0 where
  pub parted : Meets 9 u v
  pub left_half : ancestor (meeting 9 u v) u ≡ 2 * ancestor (suc (meeting 9 u v)) u
  pub right_half : ancestor (meeting 9 u v) v ≡ 2 * ancestor (suc (meeting 9 u v)) u + 1
  pub to_root : ancestor (9 - meeting 9 u v) (ancestor (suc (meeting 9 u v)) u) ≡ 1

pub halves_of : (u v : ℕ) → OnLevel 10 u → OnLevel 10 v → u < v → Halves u v
halves_of u v ru rv less =
    let k = meeting 9 u v in
    let t : Meets 9 u v = meets 9 u v (λ e. omega arith) (top_is 10 u ru ∙ sym (top_is 10 v rv)) in
    let p = ancestor (suc k) u in
    let a : ancestor k u / 2 ≡ p = sym (ancestor_suc k u) in
    let b : ancestor k v / 2 ≡ p = sym (ancestor_suc k v) ∙ sym t.above in
    let ne : ancestor k u < ancestor k v = below _ _ (ancestor_le k u v (omega arith)) t.apart in
    let ten : 9 - k + suc k ≡ 10 = omega (arith, t.low) in
    record {
      parted = t;
      left_half = omega (arith, a, b, ne);
      right_half = omega (arith, a, b, ne);
      to_root = ancestor_add (9 - k) (suc k) u ∙ ap (λ (i : ℕ). ancestor i u) ten ∙ top_is 10 u ru;
    }

module _ (D : List ℕ → Dig) (f g : ℕ → Tree) (u v : ℕ) (ru : OnLevel 10 u) (rv : OnLevel 10 v) (less : u < v)
    (same : (w : ℕ) → w ≢ u → w ≢ v → f w ≡ g w) where
  -- with the ways of f, what g has in both slots rises to the root of g's tree
  pub fork_rises :
      (let k = fork_at f u v in
      rise D k.above (H D (rise D k.left (hash_of D (g u))) (rise D k.right (hash_of D (g v)))) ≡ hash_of D (grove g))
  unfolding grove
  fork_rises =
      let k = meeting 9 u v in
      let q = halves_of u v ru rv less in
      let t = q.parted in
      let p = ancestor (suc k) u in
      let k0 : k + 0 ≡ k = omega arith in
      let left-way : way_up f k 0 u ≡ way_up g k 0 u =
      way_same f g k 0 u (λ w n e. same w n (λ i. t.apart (sym e ∙ ap (ancestor k) i))) in
      let right-way : way_up f k 0 v ≡ way_up g k 0 v =
      way_same f g k 0 v (λ w n e. same w (λ i. t.apart (ap (ancestor k) (sym i) ∙ e)) n) in
      let above-way : way_up f (9 - k) (suc k) p ≡ way_up g (9 - k) (suc k) p =
      way_same f g (9 - k) (suc k) p
      (λ w n _. same w (λ e. n (ap (ancestor (suc k)) e)) (λ e. n (ap (ancestor (suc k)) e ∙ sym t.above))) in
      let left_up : rise D (way_up f k 0 u) (hash_of D (g u)) ≡ hash_of D (tree_at g k (2 * p)) =
      ap (λ (q : Way). rise D q (hash_of D (g u))) left-way ∙ rises g D k 0 u
      ∙ ap₂ (λ (i j : ℕ). hash_of D (tree_at g i j)) k0 q.left_half in
      let right-up : rise D (way_up f k 0 v) (hash_of D (g v)) ≡ hash_of D (tree_at g k (2 * p + 1)) =
      ap (λ (q : Way). rise D q (hash_of D (g v))) right-way ∙ rises g D k 0 v
      ∙ ap₂ (λ (i j : ℕ). hash_of D (tree_at g i j)) k0 q.right_half in
      let ten : 9 - k + suc k ≡ 10 = omega (arith, t.low) in
      ap₂ (λ (x y : Dig). rise D (way_up f (9 - k) (suc k) p) (H D x y)) left_up right-up
      ∙ ap (λ (q : Way). rise D q (hash_of D (tree_at g (suc k) p))) above-way ∙ rises g D (9 - k) (suc k) p
      ∙ ap₂ (λ (i j : ℕ). hash_of D (tree_at g i j)) ten q.to_root
