-- The padded message: that it is the one of FIPS 180-4, section 5.1.1, in as many blocks as the paper
-- counts, and its bytes by their places.
use Rattle.std.proofs.Common.{◌≡◌, ℕ, suc, ◌+◌, ◌-◌, ◌*◌, ◌/◌, ◌%◌, ◌^◌, ◌<◌, ◌≤◌, List, [], ◌∷◌, ◌++◌, length, get_or, drop, replicate, ap, ◌∙◌, arith, length-append, get_or-append-add, drop_at}
use lib.ListN.{length-replicate, get_or-replicate, get_or-append}
use lib.Seq.{get_or-append_seam, take-append_seam, drop-append-add}
use lib.Pow.{field, mod-mod-pow}
use Rattle.std.specs.Int.{to_be_bytes, w64}
use Rattle.seqs.specs.Bytes.{byte_of, be64}
use Rattle.sha256.specs.Padding.{zeros, pad, blocks, Padded}

-- the message, the byte 80, the zeros and eight bytes fill the blocks
pub filled : (n : ℕ) → n + 9 + zeros n ≡ blocks n * 64
unfolding zeros
filled n = omega arith

solves : (n : ℕ) → (8 * n + 1 + (7 + 8 * zeros n)) % 512 ≡ 448
unfolding zeros
solves n = omega arith

least : (n k : ℕ) → (8 * n + 1 + k) % 512 ≡ 448 → 7 + 8 * zeros n ≤ k
unfolding zeros
least n k h = omega arith

pub pad_length : (m : List ℕ) → length (pad m) ≡ blocks (length m) * 64
unfolding pad be64
pad_length m = simp (length-append, length-replicate) (omega (arith, filled (length m)))

-- the low 64 bits have the same eight low bytes
pub low64 : (x k : ℕ) → k ≤ 56 → byte_of (x % 2 ^ 64) k ≡ byte_of x k
low64 x k h =
    let e : 64 ≡ (56 - k) + 8 + k = omega arith in
    ap (λ (n : ℕ). x % 2 ^ n / 2 ^ k % 256) e ∙ ap (λ (y : ℕ). y % 256) (field x ((56 - k) + 8) k)
    ∙ mod-mod-pow (x / 2 ^ k) (56 - k) 8

-- so the eight bytes of those are the number's
pub spelled : (x : ℕ) → to_be_bytes w64 (x % 2 ^ 64) ≡ be64 x
unfolding be64
spelled x =
    let last : x % 2 ^ 64 % 256 ≡ byte_of x 0 = omega arith in
    λ i.
    low64 x 56 (omega arith) i ∷ low64 x 48 (omega arith) i ∷ low64 x 40 (omega arith) i ∷ low64 x 32 (omega arith) i ∷
    low64 x 24 (omega arith) i ∷ low64 x 16 (omega arith) i ∷ low64 x 8 (omega arith) i ∷ last i ∷ []

module _ (m : List ℕ) where
  n : ℕ
  n = length m

  gap : List ℕ
  gap = replicate (zeros n) 0

  gap_length : length gap ≡ zeros n
  unfolding gap
  gap_length = length-replicate (zeros n) 0

  pub in_message : (i : ℕ) → i < length m → get_or (pad m) i 0 ≡ get_or m i 0
  unfolding pad
  in_message i h = get_or-append m _ 0 i h

  pub at_mark : get_or (pad m) (length m) 0 ≡ 0x80
  unfolding pad
  at_mark = get_or-append_seam m 0x80 _ 0

  -- past the mark
  past : (i : ℕ) → length m < i → get_or (pad m) i 0 ≡ get_or (gap ++ be64 (8 * length m)) (i - length m - 1) 0
  unfolding pad gap n
  past i h =
      let e : i ≡ length m + suc (i - length m - 1) = omega arith in
      ap (λ (k : ℕ). get_or (pad m) k 0) e ∙ get_or-append-add m _ (suc (i - length m - 1)) 0

  pub in_zeros : (i : ℕ) → length m < i → i + 8 < blocks (length m) * 64 → get_or (pad m) i 0 ≡ 0
  unfolding gap n
  in_zeros i h k =
      let j : ℕ = i - length m - 1 in
      let inside : j < zeros (length m) = omega (arith, filled (length m)) in
      past i h ∙ get_or-append gap _ 0 j (omega (arith, gap_length)) ∙ get_or-replicate (zeros (length m)) j 0 0 inside

  pub in_length : (i : ℕ) → length m < i → i < blocks (length m) * 64 → blocks (length m) * 64 ≤ i + 8
      → get_or (pad m) i 0 ≡ get_or (be64 (8 * length m)) (i + 8 - blocks (length m) * 64) 0
  unfolding n
  in_length i h k l =
      let t : ℕ = i + 8 - blocks (length m) * 64 in
      let e : i - length m - 1 ≡ length gap + t = omega (arith, gap_length, filled (length m)) in
      past i h ∙ ap (λ (j : ℕ). get_or (gap ++ be64 (8 * length m)) j 0) e ∙ get_or-append-add gap _ t 0

  last_eight : drop (blocks (length m) * 64 - 8) (pad m) ≡ be64 (8 * length m)
  unfolding pad gap n
  last_eight =
      let e : blocks (length m) * 64 - 8 ≡ length m + suc (zeros (length m)) = omega (arith, filled (length m)) in
      ap (λ (k : ℕ). drop k (pad m)) e ∙ drop-append-add m _ (suc (zeros (length m)))
      ∙ drop_at gap (be64 (8 * length m)) (zeros (length m)) gap_length

  pub padded : Padded m
  unfolding pad
  padded =
      record {
        whole = pad_length m;
        message = take-append_seam m _;
        mark = at_mark;
        zeros_behind = in_zeros;
        size = last_eight;
        solves = solves (length m);
        least = least (length m);
      }
