-- A frame that fits is the request whose fields lie at their places; what lies at a place, as the code reads it.
use mathlib.Core.Path.{◌≡◌, refl, sym, ap, ap₂, ◌∙◌}
use mathlib.Core.Bool.{true}
use mathlib.Core.List.{List, [], ◌∷◌, ◌++◌}
use Prim.Native.Nat.{ℕ, zero, suc, ◌+◌, ◌*◌, ◌<◌, ◌≤◌}
use native.Mathlib.Omega.{arith}
use borrow.Author.Tests.{eqb-true}
use lib.ListN.{length, get_or, take, drop, replicate, length-take, length-drop}
use lib.Seq.{drop-drop, get_or-drop, get_or-take, take_all, take-append-le, ext_get_or}
use Rattle.seqs.specs.Choose.{both_true}
use Rattle.seqs.specs.Bytes.{number_of, number_at, digest_at, padded_length, padded_byte, number_padded}
use Rattle.sha256.specs.Hash.{sha256}
use Rattle.sha256.proofs.Digests.{sha256_length}
use Rattle.paper.specs.declared.Registers.{Registers}
use Rattle.paper.specs.Strings.{Dig}
use Rattle.paper.specs.Requests.{Carried, a_number, a_digest, a_record, the_values, a_path, kind_of, row_of, takes, takes_all, part, fits, request_of}
use Rattle.paper.specs.Requests.{count_in, sides_in, siblings_in, digests_in}
use Rattle.paper.specs.Answers.{answer}
use Rattle.paper.proofs.Room.{ShortOf, ShortAt, lists_short}
use Rattle.places.specs.Places.{bytes_at, part_at, request_at}

-- the answer to a call that asks nothing
pub free : {A B : Type 0} → A → B → Unit {0}
free c κs = tt

module _ (f : List ℕ) where
  -- ── a frame that fits ──

  bytes_there : (at w : ℕ) → at + w ≤ length f → take w (drop at f) ≡ bytes_at f at w
  unfolding bytes_at
  bytes_there at w h = sym (take-append-le w (drop at f) (replicate w 0) (simp length-drop (omega arith)))

  parts_there : (cs : List Carried) (at i : ℕ) → at + takes_all cs (drop at f) ≤ length f
      → part cs (drop at f) i ≡ part_at f cs at i
  parts_there [] at i h = refl
  parts_there (c ∷ cs) at zero h = bytes_there at (takes c (drop at f)) (omega arith)
  parts_there (c ∷ cs) at (suc i) h =
      let w : ℕ = takes c (drop at f) in
      let e : drop w (drop at f) ≡ drop (at + w) f = drop-drop w at f in
      let s : takes_all cs (drop w (drop at f)) ≡ takes_all cs (drop (at + w) f) = ap (takes_all cs) e in
      ap (λ (l : List ℕ). part cs l i) e ∙ parts_there cs (at + w) i (omega arith)

  pub request_there : fits f ≡ true → request_of f ≡ request_at (kind_of f) f
  unfolding fits request_of request_at
  request_there ok =
      let cs : List Carried = (row_of (kind_of f)).carries in
      let long : length f ≡ 1 + takes_all cs (drop 1 f) = eqb-true _ _ (both_true _ _ ok).0 in
      λ j. (row_of (kind_of f)).reads (λ i. parts_there cs 1 i (omega arith) j)

  -- no answer to what lies at a kind's places lists more than 96 bytes
  short_of : (c : Carried) (at : ℕ) → ShortOf c (bytes_at f at (takes c (drop at f)))
  unfolding bytes_at
  short_of a_number at = tt
  short_of a_digest at = omega (arith, padded_length f at 32)
  short_of a_record at = tt
  short_of the_values at = tt
  short_of a_path at = tt

  short_parts : (cs : List Carried) (at i : ℕ) → ShortAt cs i (part_at f cs at i)
  short_parts [] at i = tt
  short_parts (c ∷ cs) at zero = short_of c at
  short_parts (c ∷ cs) at (suc i) = short_parts cs (at + takes c (drop at f)) i

  pub answer_short : (k : ℕ) (s : Registers) → length (answer sha256 s (request_at k f)).lists ≤ 96
  unfolding request_at
  answer_short k s = lists_short sha256 sha256_length k s _ (short_parts (row_of k).carries 1)

  -- ── bytes among the bytes at a place ──

  bytes_length : (at w : ℕ) → length (bytes_at f at w) ≡ w
  unfolding bytes_at
  bytes_length at w = padded_length f at w

  byte_there : (at w i : ℕ) → i < w → get_or (bytes_at f at w) i 0 ≡ get_or f (at + i) 0
  unfolding bytes_at
  byte_there at w i h = padded_byte f at w i h

  inside : (at w k v : ℕ) → k + v ≤ w → take v (drop k (bytes_at f at w)) ≡ bytes_at f (at + k) v
  inside at w k v h =
      let l : List ℕ = bytes_at f at w in
      let long : length (take v (drop k l)) ≡ v = simp (length-take, length-drop, bytes_length) (omega arith) in
      ext_get_or 0 (take v (drop k l)) (bytes_at f (at + k) v) (long ∙ sym (bytes_length (at + k) v))
      (λ i b.
      get_or-take v (drop k l) i 0 (omega arith) ∙ get_or-drop k l i 0 ∙ byte_there at w (k + i) (omega arith)
      ∙ ap (λ (m : ℕ). get_or f m 0) (omega arith) ∙ sym (byte_there (at + k) v i (omega arith)))

  behind : (at k w : ℕ) → drop k (bytes_at f at (k + w)) ≡ bytes_at f (at + k) w
  behind at k w =
      let long : length (drop k (bytes_at f at (k + w))) ≤ w = simp (length-drop, bytes_length) (omega arith) in
      sym (take_all w (drop k (bytes_at f at (k + w))) long) ∙ inside at (k + w) k w (omega arith)

  pub number_there : (at : ℕ) → number_at f at ≡ number_of (bytes_at f at 8)
  unfolding bytes_at
  number_there at = sym (number_padded f at)

  pub number_inside : (at w k : ℕ) → k + 8 ≤ w → number_at f (at + k) ≡ number_of (take 8 (drop k (bytes_at f at w)))
  number_inside at w k h = number_there (at + k) ∙ sym (ap number_of (inside at w k 8 h))

  pub digest_inside : (at w k : ℕ) → k + 32 ≤ w → digest_at f (at + k) ≡ take 32 (drop k (bytes_at f at w))
  unfolding digest_at bytes_at
  digest_inside at w k h = sym (inside at w k 32 h)

  -- a path's sides, and its siblings, as many as its n
  pub sides_inside : number_at f 66 ≡ sides_in (bytes_at f 65 (takes a_path (drop 65 f)))
  sides_inside = number_inside 65 (takes a_path (drop 65 f)) 1 (omega arith)

  pub siblings_inside : (n : ℕ) → n ≡ get_or f 65 0
      → digests_in n (bytes_at f 74 (32 * n)) ≡ siblings_in (bytes_at f 65 (takes a_path (drop 65 f)))
  siblings_inside n e =
      let m : ℕ = count_in (drop 65 f) in
      let byte : get_or f 65 0 ≡ m = sym (get_or-drop 65 f 0 0) in
      let count : count_in (bytes_at f 65 (9 + 32 * m)) ≡ m = byte_there 65 (9 + 32 * m) 0 (omega arith) ∙ byte in
      ap (λ (k : ℕ). digests_in k (bytes_at f 74 (32 * k))) (e ∙ byte) ∙ sym (ap₂ digests_in count (behind 65 9 (32 * m)))

-- one digest more
pub digests_next : (n : ℕ) (l : List ℕ) → digests_in (suc n) l ≡ digests_in n l ++ (take 32 (drop (32 * n) l) ∷ [])
digests_next zero l = refl
digests_next (suc n) l =
    let k : 32 + 32 * n ≡ 32 * suc n = omega arith in
    let e : drop (32 * n) (drop 32 l) ≡ drop (32 * suc n) l = drop-drop (32 * n) 32 l ∙ ap (λ (k : ℕ). drop k l) k in
    ap (λ (ds : List Dig). take 32 l ∷ ds) (digests_next n (drop 32 l))
    ∙ ap (λ (m : List ℕ). take 32 l ∷ digests_in n (drop 32 l) ++ (take 32 m ∷ [])) e
