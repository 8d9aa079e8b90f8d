-- One turn of each loop over the levels, and what lies past the end of the memory.
use mathlib.Core.Path.{◌≡◌, refl, ap, sym, ◌∙◌}
use mathlib.Core.Bool.{Bool, true, false}
use mathlib.Core.List.{List}
use Prim.Native.Nat.{ℕ, zero, suc, ◌+◌, ◌-◌, ◌*◌, ◌/◌, ◌%◌, ◌<◌, ◌≤◌}
use native.Mathlib.Omega.{arith}
use lib.Dec.{eqb, ltb}
use lib.ListN.{length, replicate, drop_of_length-le}
use Rattle.seqs.specs.Choose.{pick}
use Rattle.seqs.specs.Bytes.{digest_at}
use Rattle.seqs.specs.Over.{put_at, put_not, put_length}
use Rattle.sha256.specs.Hash.{sha256}
use Rattle.paper.specs.Strings.{Dig, H, parent_forms, up}
use Rattle.digests.specs.declared.Digest.{Digest}
use Rattle.digests.specs.Worked.{worked}
use Rattle.slots.specs.Nodes.{slot_count, level_count, meeting, node_at, put_node, sibling_at, siblings_put, summed, rehashed, leaf_put, climbed}

pub past_node : (m : List ℕ) (v : ℕ) → length m / 32 < v → replicate 32 0 ≡ node_at m v
unfolding node_at digest_at
past_node m v h =
    let k : length m ≤ 32 * v = omega arith in
    rw (drop_of_length-le m k) refl

pub past_put : (m : List ℕ) (v : ℕ) (d : Dig) → length m / 32 < v → m ≡ put_node m v d
unfolding put_node
past_put m v d h = sym (put_not m (32 * v) d (omega arith))

pub node_length : (m : List ℕ) (v : ℕ) (d : Dig) → length (put_node m v d) ≡ length m
unfolding put_node
node_length m v d = put_length m (32 * v) d

pub rehashed_length : (D : List ℕ → Dig) (n v : ℕ) (m : List ℕ) → length (rehashed D n v m) ≡ length m
rehashed_length D zero v m = refl
rehashed_length D (suc n) v m = rehashed_length D n (v / 2) _ ∙ node_length m (v / 2) _

pub leaf_length : (D : List ℕ → Dig) (m : List ℕ) (i : ℕ) (d : Dig) → length (leaf_put D m i d) ≡ length m
unfolding leaf_put
leaf_length D m i d = by_test (ltb i slot_count)
  where
    by_test : (b : Bool) → length (pick b (rehashed D level_count (slot_count + i) (put_node m (slot_count + i) d)) m) ≡ length m
    by_test true = rehashed_length D level_count (slot_count + i) _ ∙ node_length m (slot_count + i) d
    by_test false = refl

-- ── loops: n - i levels are left at turn i ──

pub start : (n : ℕ) → n ≡ n - 0
start n = omega arith

left : (n i : ℕ) → i < n → n - i ≡ suc (n - (i + 1))
left n i h = omega arith

pub ended : (n i : ℕ) → n ≤ i → n - i ≡ 0
ended n i h = omega arith

pub rehash_turn : (n i u : ℕ) (m m' l r : List ℕ) (d : Digest) → i < n → l ≡ node_at m (2 * (u / 2))
    → r ≡ node_at m (2 * (u / 2) + 1) → d ≡ worked (H sha256 l r) (parent_forms l r) → m' ≡ put_node m (u / 2) d.bytes
    → rehashed sha256 (n - i) u m ≡ rehashed sha256 (n - (i + 1)) (u / 2) m'
unfolding summed
rehash_turn n i u m m' l r d h el er ed em = rw (left n i h, em, ed, el, er) refl

pub climb_next : (D : List ℕ → Dig) (m : List ℕ) (n i u : ℕ) (x : Dig) → i < n
    → climbed D m (n - i) u x ≡ climbed D m (n - (i + 1)) (u / 2) (up D x (sibling_at m u) (u % 2))
climb_next D m n i u x h = rw (left n i h) refl

pub put_next : (m : List ℕ) (n i u at : ℕ) (d : List ℕ) → i < n
    → siblings_put m (n - i) u at d ≡ siblings_put m (n - (i + 1)) (u / 2) (at + 32) (put_at d at (sibling_at m u))
put_next m n i u at d h = rw (left n i h) refl

-- no sibling fits past the end
pub put_past : (m : List ℕ) (n u at : ℕ) (d : List ℕ) → length d < at → siblings_put m n u at d ≡ d
put_past m zero u at d h = refl
put_past m (suc n) u at d h =
    ap (siblings_put m n (u / 2) (at + 32)) (put_not d at (sibling_at m u) (omega arith)) ∙ put_past m n (u / 2) (at + 32) d (omega arith)

-- two nodes meet no higher than was looked
pub meeting_most : (n u v : ℕ) → meeting n u v ≤ n
meeting_most zero u v = omega arith
meeting_most (suc n) u v = by_test (eqb (u / 2) (v / 2)) (meeting_most n (u / 2) (v / 2))
  where
    by_test : (b : Bool) → meeting n (u / 2) (v / 2) ≤ n → pick b 0 (suc (meeting n (u / 2) (v / 2))) ≤ suc n
    by_test true h = omega arith
    by_test false h = omega arith
