-- Numbers and digests one behind the other, as a frame has them; and a path's siblings.
use Rattle.std.proofs.Common.{◌≡◌, refl, sym, ap, subst, ◌∙◌, ℕ, zero, suc, ◌+◌, ◌-◌, ◌*◌, ◌/◌, ◌%◌, ◌<◌, ◌≤◌, Bool, true, false, Some, None, List, [], ◌∷◌, ◌++◌, length, take, drop, slice_index_or, append_assoc, append-nil, length-append, add-one, arith, nat_eq}
use lib.Seq.{take-suc, take_at}
use Rattle.seqs.specs.Choose.{pick}
use Rattle.seqs.specs.Bytes.{be64, be64_length, digest_at_length}
use Rattle.seqs.specs.Over.{put_at, Front, front_next}
use lib.Dec.{leb}
use Rattle.hexadecimal.specs.Hex.{line_of}
use Rattle.hexadecimal.proofs.Laws.{line_length}
use Rattle.asking.specs.Saying.{fitting_length}
use Rattle.paper.specs.Strings.{Dig, nums, digs, spread}
use Rattle.digests.specs.Speaking.{AllWhole}
use Rattle.digests.proofs.Speaking.{one_more_lem}
use Rattle.runs.specs.Frames.{together}
use Rattle.slots.specs.Nodes.{node_at, sibling_at, siblings_up, siblings_put}

-- ── numbers ──

numbers_next : (l : List ℕ) (n : ℕ) → spread (nums (l ++ (n ∷ []))) ≡ spread (nums l) ++ be64 n
numbers_next [] n = append-nil (be64 n)
numbers_next (m ∷ l) n = ap (λ (r : List ℕ). be64 m ++ r) (numbers_next l n) ∙ sym (append_assoc (be64 m) (spread (nums l)) (be64 n))

-- the numbers put so far, from the first to the one at place i
pub one_number_more : (kind : ℕ) (l : List ℕ) (i : ℕ) → i < length l
    → (kind ∷ spread (nums (take i l))) ++ be64 (slice_index_or l i 0) ≡ kind ∷ spread (nums (take (i + 1) l))
one_number_more kind l i h =
    ap (λ (m : List ℕ). kind ∷ m)
    (sym (ap (λ (m : List ℕ). spread (nums m)) (ap (λ (n : ℕ). take n l) (add-one i) ∙ take-suc l i 0 h)
    ∙ numbers_next (take i l) (slice_index_or l i 0)))

pub numbers_long : (l : List ℕ) → length (spread (nums l)) ≡ 8 * length l
numbers_long [] = refl
numbers_long (n ∷ l) = length-append (be64 n) (spread (nums l)) ∙ omega (arith, be64_length n, numbers_long l)

-- ── digests ──

-- the digests put so far
pub one_digest_more : (p : List ℕ) (l : List Dig) (i : ℕ) → i < length l
    → (p ++ spread (digs (take i l))) ++ slice_index_or l i [] ≡ p ++ spread (digs (take (i + 1) l))
one_digest_more p l i h =
    append_assoc p (spread (digs (take i l))) (slice_index_or l i []) ∙ ap (λ (m : List ℕ). p ++ drop 1 m) (one_more_lem 0 l i h)

pub digests_long : (l : List Dig) → AllWhole l → length (spread (digs l)) ≡ 32 * length l
digests_long [] all = refl
digests_long (d ∷ l) all = length-append d (spread (digs l)) ∙ omega (arith, all.0, digests_long l all.1)

-- ── siblings ──

module _ (m : List ℕ) where
  by_side : (b : Bool) (v w : ℕ) → length (pick b (node_at m v) (node_at m w)) ≡ 32
  unfolding node_at
  by_side true v w = digest_at_length m (32 * v)
  by_side false v w = digest_at_length m (32 * w)

  sibling_long : (v : ℕ) → length (sibling_at m v) ≡ 32
  unfolding sibling_at
  sibling_long v = by_side (nat_eq (v % 2) 1) (v - 1) (v + 1)

  pub siblings_count : (n v : ℕ) → length (siblings_up m n v) ≡ n
  siblings_count zero v = refl
  siblings_count (suc n) v = ap suc (siblings_count n (v / 2))

  -- put behind what stands at the front
  pub siblings_front : (n v at k : ℕ) {d e p : List ℕ} → Front d e p at → at + 32 * n ≡ k → k ≤ length d
      → Front d (siblings_put m n v at e) (p ++ together (siblings_up m n v)) k
  siblings_front zero v at k {d} {e} {p} f j room =
      let here : at ≡ k = omega arith in
      subst (λ (q : List ℕ). Front d e q k) (sym (append-nil p)) (subst (λ (i : ℕ). Front d e p i) here f)
  siblings_front (suc n) v at k {d} {e} {p} f j room =
      let s = sibling_at m v in
      let next = front_next (put_at e at s) s 32 (at + 32) f refl (sibling_long v) refl (omega arith) in
      subst (λ (q : List ℕ). Front d (siblings_put m n (v / 2) (at + 32) (put_at e at s)) q k)
      (append_assoc p s (together (siblings_up m n (v / 2))))
      (siblings_front n (v / 2) (at + 32) k next (omega arith) room)

  -- at the front of an array
  pub siblings_there : (n v : ℕ) (d : List ℕ) → 32 * n ≤ length d
      → (take (32 * n) (siblings_put m n v 0 d) ≡ together (siblings_up m n v)) × (length (together (siblings_up m n v)) ≡ 32 * n)
  siblings_there n v d room =
      let none : Front d d [] 0 = record { here = refl; long = refl } in
      let whole = siblings_front n v 0 (32 * n) none (omega arith) room in
      (ap (take (32 * n)) whole.here ∙ take_at _ _ (32 * n) whole.long, whole.long)

-- what a buffer holds once there is more behind it, and how much
pub longer : (b a x : List ℕ) (m n : ℕ) → b ≡ a ++ x → length a ≡ m → length x ≡ n → length b ≡ m + n
longer b a x m n e f g = omega (arith, ap length e, length-append a x, f, g)

-- the frame of a path
regroup : (x x' s t : List ℕ) (n : ℕ)
    → (((((1 ∷ []) ++ x) ++ x') ++ (n ∷ [])) ++ s) ++ t ≡ 1 ∷ (x ++ (x' ++ ((n ∷ (s ++ t)) ++ [])))
regroup x x' s t n = simp (append_assoc, append-nil)

pub path_joined : {b0 b1 b2 b3 b4 b5 b6 : List ℕ} {k : ℕ} (x x' s t : List ℕ) (n : ℕ) → b0 ≡ [] → k ≡ 1 → b1 ≡ b0 ++ (k ∷ [])
    → b2 ≡ b1 ++ x → b3 ≡ b2 ++ x' → b4 ≡ b3 ++ (n ∷ []) → b5 ≡ b4 ++ s → b6 ≡ b5 ++ t → b6 ≡ 1 ∷ (x ++ (x' ++ ((n ∷ (s ++ t)) ++ [])))
path_joined x x' s t n e0 ek e1 e2 e3 e4 e5 e6 = rw (e6, e5, e4, e3, e2, e1, e0, ek) (regroup x x' s t n)

-- ── the line ──

module _ {l frame : List ℕ} (space : ℕ) (e : l ≡ frame) where
  pub line_fits : leb (2 * length l + 1) space ≡ true → Some (2 * length l + 1) ≡ fitting_length (line_of frame) space
  unfolding fitting_length
  line_fits h = rw (← e, line_length l, h) refl

  pub line_not : leb (2 * length l + 1) space ≡ false → None ≡ fitting_length (line_of frame) space
  unfolding fitting_length
  line_not h = rw (← e, line_length l, h) refl

pub whole_there : (l : List Dig) (i : ℕ) → AllWhole l → i < length l → length (slice_index_or l i []) ≡ 32
whole_there [] i all h = absurd (omega arith)
whole_there (d ∷ l) zero all h = all.0
whole_there (d ∷ l) (suc i) all h = whole_there l i all.1 (omega arith)
