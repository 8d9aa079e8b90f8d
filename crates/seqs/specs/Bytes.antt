-- Bytes: numbers as bytes, most significant first, and back; equality and zero of lists of bytes.
use Rattle.std.specs.Prelude.{Bool, true, false, ◌≡◌, refl, List, [], ◌∷◌, ◌++◌, ℕ, zero, suc, ◌+◌, ◌*◌, ◌/◌, ◌%◌, ◌^◌, ◌<◌, ◌≤◌, eqb, length, get_or, take, drop, replicate}
use Rattle.std.proofs.Common.{sym, ◌∙◌, add-zero, mod-eq_of_lt, mod-lt, add-one, arith, eqb-true, eq-eqb, drop_of_length-le, length-take, length-drop, length-append, drop-cons, get_or-take, get_or-drop}
use Rattle.std.proofs.Math.Nat.{div-div-eq-div-mul, div-add-mod}
use Rattle.std.proofs.lemmas.List.{length-replicate}
use Rattle.seqs.specs.Choose.{both, both_true, Every, ◌and◌}

-- every element is a byte
abbrev pub Bytes : List ℕ → Type 0
Bytes = Every (λ b. b < 256)

-- eight bits of x, from bit k on
abbrev pub byte_of : ℕ → ℕ → ℕ
byte_of x k = x / 2 ^ k % 256

-- x as four bytes, the most significant first; of a larger x the low 32 bits
abbrev pub be32 : ℕ → List ℕ
be32 x = byte_of x 24 ∷ byte_of x 16 ∷ byte_of x 8 ∷ byte_of x 0 ∷ []

-- x as eight bytes; of a larger x the low 64 bits
unfoldable pub be64 : ℕ → List ℕ
be64 x =
    byte_of x 56 ∷ byte_of x 48 ∷ byte_of x 40 ∷ byte_of x 32 ∷
    byte_of x 24 ∷ byte_of x 16 ∷ byte_of x 8 ∷ byte_of x 0 ∷ []

-- the number that some bytes stand for, those of n before them
abbrev pub number_from : ℕ → List ℕ → ℕ
number_from n [] = n
number_from n (b ∷ l) = number_from (256 * n + b) l

abbrev pub number_of : List ℕ → ℕ
number_of l = number_from 0 l

-- eight bytes as a number
abbrev pub number8 : ℕ → ℕ → ℕ → ℕ → ℕ → ℕ → ℕ → ℕ → ℕ
number8 a b c d e f g h = 256 * (256 * (256 * (256 * (256 * (256 * (256 * a + b) + c) + d) + e) + f) + g) + h

-- the number in the eight bytes from place `at` on, a missing byte being 0
unfoldable pub number_at : List ℕ → ℕ → ℕ
number_at s at =
    number8 (get_or s at 0) (get_or s (at + 1) 0) (get_or s (at + 2) 0) (get_or s (at + 3) 0) (get_or s (at + 4) 0) (get_or s (at + 5) 0)
    (get_or s (at + 6) 0) (get_or s (at + 7) 0)

-- the 32 bytes from place `at` on, a missing byte being 0
unfoldable pub digest_at : List ℕ → ℕ → List ℕ
digest_at s at = take 32 (drop at s ++ replicate 32 0)

-- two lists are the same, element by element
abbrev pub same : List ℕ → List ℕ → Bool
same [] [] = true
same [] (b ∷ m) = false
same (a ∷ l) [] = false
same (a ∷ l) (b ∷ m) = both (eqb a b) (same l m)

-- every element is 0
abbrev pub all_zero : List ℕ → Bool
all_zero [] = true
all_zero (a ∷ l) = both (eqb a 0) (all_zero l)

-- ── laws ──

-- a digit to the base 256 put back
put_back : (n d : ℕ) → 256 * (n / (d * 256)) + n / d % 256 ≡ n / d
put_back n d = rw (← div-div-eq-div-mul n d 256) (div-add-mod (n / d) 256)

joined : (a b c d e f g h p q r s t u n : ℕ)
    → 256 * a + b ≡ p → 256 * p + c ≡ q → 256 * q + d ≡ r → 256 * r + e ≡ s → 256 * s + f ≡ t → 256 * t + g ≡ u → 256 * u + h ≡ n
    → 256 * (256 * (256 * (256 * (256 * (256 * (256 * (256 * 0 + a) + b) + c) + d) + e) + f) + g) + h ≡ n
joined a b c d e f g h p q r s t u n i j k l m o v = omega arith

-- a number is what its bytes stand for
pub number_be64 : (n : ℕ) → n < 2 ^ 64 → number_of (be64 n) ≡ n
unfolding be64
number_be64 n h =
    let top : n / 2 ^ 56 % 256 ≡ n / 2 ^ 56 = mod-eq_of_lt (omega arith) in
    let last : n / 2 ^ 0 % 256 ≡ n % 256 = omega arith in
    rw (top, last)
    (joined _ _ _ _ _ _ _ _ _ _ _ _ _ _ n
    (put_back n (2 ^ 48)) (put_back n (2 ^ 40)) (put_back n (2 ^ 32)) (put_back n (2 ^ 24)) (put_back n (2 ^ 16)) (put_back n (2 ^ 8))
    (div-add-mod n 256))

-- the number of eight bytes that are there
part_suc : (k at : ℕ) (s : List ℕ) → at < length s → take (suc k) (drop at s) ≡ get_or s at 0 ∷ take k (drop (at + 1) s)
part_suc k at s h = rw (drop-cons s at 0 h, add-one)

pub number_at_lem : (s : List ℕ) (at : ℕ) → at + 8 ≤ length s → number_of (take 8 (drop at s)) ≡ number_at s at
unfolding number_at
number_at_lem s at h =
    let e2 : at + 1 + 1 ≡ at + 2 = omega arith in
    let e3 : at + 2 + 1 ≡ at + 3 = omega arith in
    let e4 : at + 3 + 1 ≡ at + 4 = omega arith in
    let e5 : at + 4 + 1 ≡ at + 5 = omega arith in
    let e6 : at + 5 + 1 ≡ at + 6 = omega arith in
    let e7 : at + 6 + 1 ≡ at + 7 = omega arith in
    let z : 256 * 0 + get_or s at 0 ≡ get_or s at 0 = omega arith in
    rw (
      part_suc 7 at s (omega arith),
      part_suc 6 (at + 1) s (omega arith),
      e2,
      part_suc 5 (at + 2) s (omega arith),
      e3,
      part_suc 4 (at + 3) s (omega arith),
      e4,
      part_suc 3 (at + 4) s (omega arith),
      e5,
      part_suc 2 (at + 5) s (omega arith),
      e6,
      part_suc 1 (at + 6) s (omega arith),
      e7,
      part_suc 0 (at + 7) s (omega arith),
      z,
    )

-- as many bytes as asked, from a place on: their count
pub padded_length : (s : List ℕ) (at w : ℕ) → length (take w (drop at s ++ replicate w 0)) ≡ w
padded_length s at w = simp (length-take, length-append, length-replicate) (omega arith)

pub digest_at_length : (s : List ℕ) (at : ℕ) → length (digest_at s at) ≡ 32
unfolding digest_at
digest_at_length s at = padded_length s at 32

-- one of them
pub zero_at : (n i : ℕ) → ◌≡◌ {A = ℕ} (get_or (replicate n 0) i 0) 0
zero_at zero i = refl
zero_at (suc n) zero = refl
zero_at (suc n) (suc i) = zero_at n i

past : (l : List ℕ) (n i : ℕ) → get_or (l ++ replicate n 0) i 0 ≡ get_or l i 0
past [] n i = zero_at n i
past (b ∷ l) n zero = refl
past (b ∷ l) n (suc i) = past l n i

pub padded_byte : (s : List ℕ) (at w i : ℕ) → i < w → get_or (take w (drop at s ++ replicate w 0)) i 0 ≡ get_or s (at + i) 0
padded_byte s at w i h = get_or-take w (drop at s ++ replicate w 0) i 0 h ∙ past (drop at s) w i ∙ get_or-drop at s i 0

pub digest_at_byte : (s : List ℕ) (at i : ℕ) → i < 32 → get_or (digest_at s at) i 0 ≡ get_or s (at + i) 0
unfolding digest_at
digest_at_byte s at i h = padded_byte s at 32 i h

-- the number that eight of them are
pub number_padded : (s : List ℕ) (at : ℕ) → number_of (take 8 (drop at s ++ replicate 8 0)) ≡ number_at s at
unfolding number_at
number_padded s at =
    let l : List ℕ = drop at s ++ replicate 8 0 in
    let byte : (i : ℕ) → get_or l i 0 ≡ get_or s (at + i) 0 = λ i. past (drop at s) 8 i ∙ get_or-drop at s i 0 in
    let top : get_or l 0 0 ≡ get_or s at 0 = simp add-zero at (byte 0) in
    number_at_lem l 0 (simp (length-append, length-replicate) (omega arith))
    ∙ (λ i. number8 (top i) (byte 1 i) (byte 2 i) (byte 3 i) (byte 4 i) (byte 5 i) (byte 6 i) (byte 7 i))

pub be64_length : (n : ℕ) → length (be64 n) ≡ 8
unfolding be64
be64_length n = refl

pub same_true : (l m : List ℕ) → same l m ≡ true → l ≡ m
same_true [] [] h = refl
same_true [] (b ∷ m) h = cc
same_true (a ∷ l) [] h = cc
same_true (a ∷ l) (b ∷ m) h =
    let p = both_true (eqb a b) (same l m) h in
    let e : a ≡ b = eqb-true a b p.0 in
    let f = same_true l m p.1 in
    cc

pub same_refl : (l : List ℕ) → same l l ≡ true
same_refl [] = refl
same_refl (a ∷ l) = rw (eq-eqb a a refl) (same_refl l)

-- one element more of a comparison, of a test for zero
pub same_step : (l m : List ℕ) (i : ℕ) (t : Bool) → i < length l → i < length m → eqb (get_or l i 0) (get_or m i 0) ≡ t
    → same (drop i l) (drop i m) ≡ both t (same (drop (i + 1) l) (drop (i + 1) m))
same_step l m i t h k e = rw (drop-cons l i 0 h, drop-cons m i 0 k, add-one, e)

pub same_end : (l m : List ℕ) (i : ℕ) → length l ≤ i → length m ≤ i → same (drop i l) (drop i m) ≡ true
same_end l m i h k = rw (drop_of_length-le l h, drop_of_length-le m k)

pub zero_step : (l : List ℕ) (i : ℕ) (t : Bool) → i < length l → eqb (get_or l i 0) 0 ≡ t
    → all_zero (drop i l) ≡ both t (all_zero (drop (i + 1) l))
zero_step l i t h e = rw (drop-cons l i 0 h, add-one, e)

pub zero_end : (l : List ℕ) (i : ℕ) → length l ≤ i → all_zero (drop i l) ≡ true
zero_end l i h = rw (drop_of_length-le l h)

-- ── lists of bytes ──

pub bytes_append : (a b : List ℕ) → Bytes a → Bytes b → Bytes (a ++ b)
bytes_append [] b h k = k
bytes_append (x ∷ a) b h k = (h.0, bytes_append a b h.1 k)

pub bytes_take : (n : ℕ) (l : List ℕ) → Bytes l → Bytes (take n l)
bytes_take zero l h = tt
bytes_take (suc n) [] h = tt
bytes_take (suc n) (b ∷ l) h = (h.0, bytes_take n l h.1)

pub bytes_drop : (n : ℕ) (l : List ℕ) → Bytes l → Bytes (drop n l)
bytes_drop zero l h = h
bytes_drop (suc n) [] h = tt
bytes_drop (suc n) (b ∷ l) h = bytes_drop n l h.1

pub byte_at : (l : List ℕ) (i : ℕ) → Bytes l → get_or l i 0 < 256
byte_at [] i h = omega arith
byte_at (b ∷ l) zero h = h.0
byte_at (b ∷ l) (suc i) h = byte_at l i h.1

a_byte : (n : ℕ) → n % 256 < 256
a_byte n = mod-lt n (omega arith)

pub be64_bytes : (n : ℕ) → Bytes (be64 n)
unfolding be64
be64_bytes n =
    a_byte _ and a_byte _ and a_byte _ and a_byte _ and a_byte _ and a_byte _ and a_byte _ and a_byte _ and tt

eight : (a b c d e f g h : ℕ) → a < 256 → b < 256 → c < 256 → d < 256 → e < 256 → f < 256 → g < 256 → h < 256
    → number8 a b c d e f g h < 2 ^ 64
eight a b c d e f g h ha hb hc hd he hf hg hh = omega arith

-- eight bytes are a number below 2 ^ 64, and no other eight bytes are it
pub number_below : (l : List ℕ) (at : ℕ) → Bytes l → number_at l at < 2 ^ 64
unfolding number_at
number_below l at h = eight _ _ _ _ _ _ _ _ (b at) (b (at + 1)) (b (at + 2)) (b (at + 3)) (b (at + 4)) (b (at + 5)) (b (at + 6)) (b (at + 7))
  where
    b : (i : ℕ) → get_or l i 0 < 256
    b i = byte_at l i h

one_number : (l m : List ℕ) (x y : ℕ) → length l ≡ length m → Bytes l → Bytes m → number_from x l ≡ number_from y m → (x ≡ y) × (l ≡ m)
one_number [] [] x y n h k e = (e, refl)
one_number [] (b ∷ m) x y n h k e = absurd (omega arith)
one_number (a ∷ l) [] x y n h k e = absurd (omega arith)
one_number (a ∷ l) (b ∷ m) x y n h k e =
    let p = one_number l m (256 * x + a) (256 * y + b) (omega arith) h.1 k.1 e in
    let first : a ≡ b = omega (arith, p.0, h.0, k.0) in
    (omega (arith, p.0, h.0, k.0), (λ i. first i ∷ p.1 i))

pub be64_number : (l : List ℕ) (at : ℕ) → Bytes l → at + 8 ≤ length l → be64 (number_at l at) ≡ take 8 (drop at l)
be64_number l at h room =
    let part : length (take 8 (drop at l)) ≡ 8 = simp (length-take, length-drop) (omega arith) in
    (one_number (be64 (number_at l at)) (take 8 (drop at l)) 0 0 (be64_length (number_at l at) ∙ sym part) (be64_bytes _)
    (bytes_take 8 (drop at l) (bytes_drop at l h))
    (number_be64 (number_at l at) (number_below l at h) ∙ sym (number_at_lem l at room))).1
