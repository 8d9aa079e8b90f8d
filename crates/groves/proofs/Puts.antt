-- A leaf put into memory that keeps a tree leaves memory that keeps the tree with that leaf. Memory of zeros keeps empty slots.
use mathlib.Core.Path.{◌≡◌, refl, sym, ap, ap₂, ◌∙◌}
use mathlib.Core.List.{List, []}
use mathlib.Core.Logic.{◌≢◌}
use Prim.Native.Nat.{ℕ, zero, suc, ◌+◌, ◌*◌, ◌/◌, ◌^◌, ◌<◌, ◌≤◌}
use native.Mathlib.Nat.{pow-suc}
use native.Mathlib.Omega.{arith}
use native.Mathlib.Decide.{ℕ_discrete, dec_lt}
use borrow.Author.Tests.{eq-eqb, ne_eqb, lt-ltb}
use lib.ListN.{length, replicate, length-replicate}
use lib.Seq.{ext_get_or}
use lib.Pow.{pow_pos}
use mathlib.Core.Bool.{Bool, true, false}
use mathlib.Core.Logic.{◌⊎◌, inl, inr}
use Rattle.seqs.specs.Choose.{pick}
use Rattle.seqs.specs.Bytes.{digest_at, digest_at_length, digest_at_byte, zero_at, all_zero}
use Rattle.seqs.specs.Over.{put_at, put_there, put_elsewhere}
use Rattle.paper.specs.Strings.{Dig, nought, node, digest_of, H}
use Rattle.rings.specs.Trees.{Tree, hash_of}
use Rattle.slots.specs.Nodes.{node_at, put_node, summed, rehashed, leaf_put}
use Rattle.groves.specs.Grove.{with, slots_of, Kept}
use Rattle.groves.proofs.Stored.{slot_is}
use Rattle.slots.proofs.Turns.{node_length, rehashed_length}

-- ── a digest put among bytes ──

digest_there : (m : List ℕ) (at : ℕ) (d : List ℕ) → length d ≡ 32 → at + 32 ≤ length m → digest_at (put_at m at d) at ≡ d
digest_there m at d n room =
    let long = digest_at_length (put_at m at d) at in
    ext_get_or 0 _ _ (long ∙ sym n)
    (λ i h. digest_at_byte (put_at m at d) at i (omega (arith, h, long)) ∙ put_there m at d i 0 (omega arith) (omega (arith, h, long)))

digest_elsewhere : (m : List ℕ) (at i : ℕ) (d : List ℕ) → length d ≡ 32 → (i + 32 ≤ at) ⊎ (at + 32 ≤ i)
    → digest_at (put_at m at d) i ≡ digest_at m i
digest_elsewhere m at i d n s =
    ext_get_or 0 _ _ (digest_at_length (put_at m at d) i ∙ sym (digest_at_length m i))
    (λ k h.
    let h' : k < 32 = omega (arith, h, digest_at_length (put_at m at d) i) in
    digest_at_byte (put_at m at d) i k h' ∙ put_elsewhere m at d 32 (i + k) 0 n (away k h' s) ∙ sym (digest_at_byte m i k h'))
  where
    away : (k : ℕ) → k < 32 → (i + 32 ≤ at) ⊎ (at + 32 ≤ i) → (i + k < at) ⊎ (at + 32 ≤ i + k)
    away k h (inl a) = inl (omega arith)
    away k h (inr a) = inr (omega arith)

-- ── nodes ──

abbrev Room : List ℕ → Type 0
Room m = length m ≡ 65536

node_there : (m : List ℕ) (v : ℕ) (d : Dig) → Room m → length d ≡ 32 → v < 2048 → node_at (put_node m v d) v ≡ d
unfolding node_at put_node
node_there m v d r n h = digest_there m (32 * v) d n (omega arith)

node_else : (m : List ℕ) (v u : ℕ) (d : Dig) → Room m → length d ≡ 32 → v < 2048 → u ≢ v → node_at (put_node m v d) u ≡ node_at m u
unfolding node_at put_node
node_else m v u d r n h a = by_order (dec_lt u v)
  where
    by_order : Dec (u < v) → digest_at (put_at m (32 * v) d) (32 * u) ≡ digest_at m (32 * u)
    by_order (yes l) = digest_elsewhere m (32 * v) (32 * u) d n (inl (omega arith))
    by_order (no l) =
        let g : v < u = omega (arith, a) in
        digest_elsewhere m (32 * v) (32 * u) d n (inr (omega arith))

module _ (D : List ℕ → Dig) (D32 : (l : List ℕ) → length (D l) ≡ 32) where
  node_wide : (m : List ℕ) (v : ℕ) → length (node_at m v) ≡ 32
  unfolding node_at
  node_wide m v = digest_at_length m (32 * v)

  sum_wide : (m : List ℕ) (v : ℕ) → length (summed D m v) ≡ 32
  unfolding summed H
  sum_wide m v = by_tests (all_zero (node_at m (2 * v + 1))) (all_zero (node_at m (2 * v)))
    where
      by_tests : (a b : Bool) → length (pick a (node_at m (2 * v)) (pick b (node_at m (2 * v + 1))
          (digest_of D (node (node_at m (2 * v)) (node_at m (2 * v + 1)))))) ≡ 32
      by_tests true b = node_wide m (2 * v)
      by_tests false true = node_wide m (2 * v + 1)
      by_tests false false = D32 _

  -- every node is what it must be, but perhaps the one above v
  abbrev SummedBut : (v : ℕ) → List ℕ → Type 0
  SummedBut v m = (u : ℕ) → 0 < u → u < 1024 → u ≢ v / 2 → node_at m u ≡ summed D m u

  -- one level: the node above v is worked anew
  level : (m : List ℕ) (v : ℕ) → Room m → 1 < v → v < 2048 → SummedBut v m
      → SummedBut (v / 2) (put_node m (v / 2) (summed D m (v / 2)))
  unfolding summed
  level m v r low high k u pos small apart =
      let p = v / 2 in
      let d = summed D m p in
      let w = sum_wide m p in
      let l = node_else m p (2 * u) d r w (omega arith) in
      let same : (c : ℕ) → c / 2 ≡ u → node_at (put_node m p d) c ≡ node_at m c =
      λ c e. node_else m p c d r w (omega arith) (λ q. apart (omega (arith, e, q))) in
      let below : summed D (put_node m p d) u ≡ summed D m u =
      ap₂ (H D) (same (2 * u) (omega arith)) (same (2 * u + 1) (omega arith)) in
      elim (ℕ_discrete u p) [
        | yes e ↦ ap (node_at (put_node m p d)) e ∙ node_there m p d r w (omega arith) ∙ ap (summed D m) (sym e) ∙ sym below
        | no n ↦ node_else m p u d r w (omega arith) n ∙ k u pos small n ∙ sym below
      ]

  -- all levels, up to the root
  pub summed_again : (n v : ℕ) (m : List ℕ) → Room m → 2 ^ n ≤ v → v < 2 ^ (suc n) → v < 2048 → SummedBut v m
      → (u : ℕ) → 0 < u → u < 1024 → node_at (rehashed D n v m) u ≡ summed D (rehashed D n v m) u
  summed_again zero v m r low high most k u pos small = k u pos small (omega arith)
  summed_again (suc n) v m r low high most k u pos small =
      summed_again n (v / 2) (put_node m (v / 2) (summed D m (v / 2))) (node_length m (v / 2) _ ∙ r)
      (omega (arith, pow-suc 2 n)) (omega (arith, pow-suc 2 (suc n))) (omega arith)
      (level m v r (omega (arith, pow-suc 2 n, pow_pos n)) most k) u pos small

  -- the slots stay
  pub slots_stay : (n v : ℕ) (m : List ℕ) → Room m → v < 2048 → (u : ℕ) → 1024 ≤ u → node_at (rehashed D n v m) u ≡ node_at m u
  slots_stay zero v m r h u g = refl
  slots_stay (suc n) v m r h u g =
      slots_stay n (v / 2) (put_node m (v / 2) (summed D m (v / 2))) (node_length m (v / 2) _ ∙ r) (omega arith) u g
      ∙ node_else m (v / 2) u _ r (sum_wide m (v / 2)) (omega arith) (λ e. omega arith)

  -- ── a leaf put ──

  pub put_kept : (f : ℕ → Tree) (m : List ℕ) (i : ℕ) (X : Tree) → i < 1024 → length (hash_of D X) ≡ 32 → Kept D f m
      → Kept D (with f (1024 + i) X) (leaf_put D m i (hash_of D X))
  unfolding leaf_put summed
  put_kept f m i X h n k =
      let v = 1024 + i in
      let d = hash_of D X in
      let m₁ = put_node m v d in
      let r₁ : length m₁ ≡ 65536 = node_length m v d ∙ k.long in
      let same : (c : ℕ) → c ≢ v → node_at m₁ c ≡ node_at m c = λ c a. node_else m v c d k.long n (omega arith) a in
      let but : SummedBut v m₁ =
      λ u pos small a. same u (λ e. omega arith) ∙ k.above u pos small
      ∙ ap₂ (H D) (sym (same (2 * u) (λ e. a (omega arith)))) (sym (same (2 * u + 1) (λ e. a (omega arith)))) in
      rw (lt-ltb i 1024 h) (record {
        long = rehashed_length D 10 v m₁ ∙ r₁;
        slots = λ j b. slots_stay 10 v m₁ r₁ (omega arith) (1024 + j) (omega arith) ∙ slot j b (ℕ_discrete (1024 + j) v);
        above = summed_again 10 v m₁ r₁ (omega arith) (omega arith) (omega arith) but;
      })
    where
      slot : (j : ℕ) → j < 1024 → Dec (1024 + j ≡ 1024 + i)
          → node_at (put_node m (1024 + i) (hash_of D X)) (1024 + j) ≡ hash_of D (with f (1024 + i) X (1024 + j))
      slot j b (yes e) =
          rw (eq-eqb (1024 + j) (1024 + i) e)
          (ap (node_at (put_node m (1024 + i) (hash_of D X))) e ∙ node_there m (1024 + i) (hash_of D X) k.long n (omega arith))
      slot j b (no a) =
          rw (ne_eqb (1024 + j) (1024 + i) a) (node_else m (1024 + i) (1024 + j) (hash_of D X) k.long n (omega arith) a ∙ k.slots j b)

-- ── zeros ──

zero_node : (n v : ℕ) → node_at (replicate n 0) v ≡ nought
unfolding node_at
zero_node n v =
    let z : List ℕ = replicate n 0 in
    let long = digest_at_length z (32 * v) in
    ext_get_or 0 _ _ long
    (λ i h.
    let h' : i < 32 = omega (arith, h, long) in
    digest_at_byte z (32 * v) i h' ∙ zero_at n (32 * v + i) ∙ sym (zero_at 32 i))

-- n is no literal here, and so no list of that length is ever written out
pub empty_kept : (D : List ℕ → Dig) (n : ℕ) → n ≡ 65536 → Kept D (slots_of []) (replicate n 0)
unfolding summed H
empty_kept D n e =
    record {
      long = length-replicate n 0 ∙ e;
      slots = λ i h. zero_node n (1024 + i) ∙ ap (hash_of D) (sym (slot_is [] i));
      above = λ v pos small. zero_node n v ∙ (rw (zero_node n (2 * v), zero_node n (2 * v + 1)) refl);
    }
