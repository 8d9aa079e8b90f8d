-- Laws of hexadecimal: digits and values undo each other, and so do lines and bytes.
use mathlib.Core.Path.{◌≡◌, refl, sym, ap, ◌∙◌}
use mathlib.Core.Bool.{Bool, true, false}
use mathlib.Core.List.{List, [], ◌∷◌, ◌++◌, append-nil}
use Prim.Native.Nat.{ℕ, zero, suc, ◌+◌, ◌-◌, ◌*◌, ◌/◌, ◌%◌, ◌<◌, ◌≤◌}
use native.Mathlib.Nat.{not-suc-le-zero, le_of_suc-le-suc}
use native.Mathlib.Omega.{arith}
use lib.Dec.{leb}
use Rattle.std.specs.List.{list_all}
use lib.ListN.{length, length-append, get_or, get_or-eq_default}
use lib.Seq.{get_or_at}
use borrow.Author.Tests.{le-leb, lt-leb, leb-true, leb-false}
use Rattle.seqs.specs.Choose.{both, both_true, both_and}
use Rattle.seqs.specs.Bytes.{Bytes}
use Rattle.hexadecimal.specs.Hex.{is_digit, value_of, digit_of, all_digits, bytes_of, digits_of, line_of}

-- one byte of 48 to 57 or of 97 to 102, or none of them
data Digit (c : ℕ) : Type 0 where
  decimal : 48 ≤ c → c ≤ 57 → Digit c
  letter : 97 ≤ c → c ≤ 102 → Digit c
  other : is_digit c ≡ false → Digit c

digit_by : (c : ℕ) (p q r s : Bool) → leb 48 c ≡ p → leb c 57 ≡ q → leb 97 c ≡ r → leb c 102 ≡ s → Digit c
unfolding is_digit
digit_by c true true r s e f g h = decimal (omega (arith, leb-true)) (omega (arith, leb-true))
digit_by c true false true true e f g h = letter (omega (arith, leb-true)) (omega (arith, leb-true))
digit_by c true false true false e f g h = other (rw (e, f, g, h))
digit_by c true false false s e f g h = other (rw (e, f, g))
digit_by c false q true true e f g h = letter (omega (arith, leb-true)) (omega (arith, leb-true))
digit_by c false q true false e f g h = other (rw (e, g, h))
digit_by c false q false s e f g h = other (rw (e, g))

digit : (c : ℕ) → Digit c
digit c = digit_by c (leb 48 c) (leb c 57) (leb 97 c) (leb c 102) refl refl refl refl

-- the value of a digit of each kind
module _ (c : ℕ) where
  pub value_decimal : 48 ≤ c → c ≤ 57 → value_of c ≡ c - 48
  unfolding value_of is_digit
  value_decimal h k = simp (le-leb 48 c h, le-leb c 57 k)

  pub value_letter : 97 ≤ c → c ≤ 102 → value_of c ≡ c - 87
  unfolding value_of is_digit
  value_letter h k = simp (le-leb 48 c (omega arith), lt-leb c 57 (omega arith), le-leb 97 c h, le-leb c 102 k)

  pub value_other : is_digit c ≡ false → value_of c ≡ 0
  unfolding value_of
  value_other e = rw e

-- a digit lies in one of the two ranges
range : (c : ℕ) → Digit c → is_digit c ≡ true → (48 ≤ c) × (57 < c → (97 ≤ c) × (c ≤ 102))
range c (decimal h k) e = (h, λ l. (omega arith, omega arith))
range c (letter h k) e = (omega arith, λ l. (h, k))
range c (other f) e = let z : ◌≡◌ {A = ℕ} 0 1 = cc in (omega arith, λ l. (omega arith, omega arith))

pub digit_range : (c : ℕ) → is_digit c ≡ true → (48 ≤ c) × (57 < c → (97 ≤ c) × (c ≤ 102))
digit_range c e = range c (digit c) e

-- a value is below 16
small : (c : ℕ) → Digit c → value_of c < 16
small c (decimal h k) = omega (arith, value_decimal c h k)
small c (letter h k) = omega (arith, value_letter c h k)
small c (other e) = omega (arith, value_other c e)

pub value_small : (c : ℕ) → value_of c < 16
value_small c = small c (digit c)

-- a number's digit is a digit and has its value
of_digit : (v : ℕ) (t : Bool) → leb v 9 ≡ t → v < 16 → (is_digit (digit_of v) ≡ true) × (value_of (digit_of v) ≡ v)
unfolding is_digit digit_of
of_digit v true e h =
    let k : v ≤ 9 = omega (arith, leb-true) in
    rw e (
      simp (le-leb 48 (48 + v) (omega arith), le-leb (48 + v) 57 (omega arith)),
      omega (arith, value_decimal (48 + v) (omega arith) (omega arith)),
    )
of_digit v false e h =
    let k : 9 < v = omega (arith, leb-false) in
    let c = 87 + v in
    rw e (
      simp (le-leb 48 c (omega arith), lt-leb c 57 (omega arith), le-leb 97 c (omega arith), le-leb c 102 (omega arith)),
      omega (arith, value_letter c (omega arith) (omega arith)),
    )

pub digit_is_digit : (v : ℕ) → v < 16 → is_digit (digit_of v) ≡ true
digit_is_digit v h = (of_digit v (leb v 9) refl h).0

pub value_digit : (v : ℕ) → v < 16 → value_of (digit_of v) ≡ v
value_digit v h = (of_digit v (leb v 9) refl h).1

-- and back: a digit is the digit of its value
to_digit : (c : ℕ) → Digit c → is_digit c ≡ true → digit_of (value_of c) ≡ c
unfolding digit_of
to_digit c (decimal h k) e = rw (value_decimal c h k, le-leb (c - 48) 9 (omega arith)) (omega arith)
to_digit c (letter h k) e = rw (value_letter c h k, lt-leb (c - 87) 9 (omega arith)) (omega arith)
to_digit c (other f) e = cc

pub digit_value : (c : ℕ) → is_digit c ≡ true → digit_of (value_of c) ≡ c
digit_value c e = to_digit c (digit c) e

-- what is written is read back, before anything else
pub bytes_before : (f x : List ℕ) → Bytes f → bytes_of (digits_of f ++ x) ≡ f ++ bytes_of x
bytes_before [] x h = refl
bytes_before (b ∷ f) x h =
    let lt : b < 256 = h.0 in
    let e : 16 * value_of (digit_of (b / 16)) + value_of (digit_of (b % 16)) ≡ b =
    omega (arith, value_digit (b / 16) (omega arith), value_digit (b % 16) (omega arith)) in
    rw (e, bytes_before f x h.1)

pub bytes_of_digits : (f : List ℕ) → Bytes f → bytes_of (digits_of f) ≡ f
bytes_of_digits f h = ap bytes_of (sym (append-nil (digits_of f))) ∙ bytes_before f [] h ∙ append-nil f

-- what is read is written back
pub digits_of_bytes : (l : List ℕ) → length l % 2 ≡ 0 → all_digits l ≡ true → digits_of (bytes_of l) ≡ l
digits_of_bytes [] e h = refl
digits_of_bytes (a ∷ []) e h = absurd (omega arith)
digits_of_bytes (a ∷ b ∷ l) e h =
    let first = both_true (is_digit a) _ h in
    let second = both_true (is_digit b) _ first.1 in
    let x = value_of a in
    let y = value_of b in
    let high : (16 * x + y) / 16 ≡ x = omega (arith, value_small b) in
    let low : (16 * x + y) % 16 ≡ y = omega (arith, value_small b) in
    rw (high, low, digit_value a first.0, digit_value b second.0, digits_of_bytes l (omega arith) second.1)

pub digits_all : (f : List ℕ) → Bytes f → all_digits (digits_of f) ≡ true
digits_all [] h = refl
digits_all (b ∷ f) h =
    let lt : b < 256 = h.0 in
    rw (digit_is_digit (b / 16) (omega arith), digit_is_digit (b % 16) (omega arith)) (digits_all f h.1)

pub digits_length : (f : List ℕ) → length (digits_of f) ≡ 2 * length f
digits_length [] = refl
digits_length (b ∷ f) = omega (arith, digits_length f)

pub bytes_length : (l : List ℕ) → length (bytes_of l) ≡ length l / 2
bytes_length [] = refl
bytes_length (a ∷ []) = refl
bytes_length (a ∷ b ∷ l) = omega (arith, bytes_length l)

pub line_length : (f : List ℕ) → length (line_of f) ≡ 2 * length f + 1
unfolding line_of
line_length f = simp (length-append, digits_length)

-- byte i of a line
pub bytes_at_lem : (l : List ℕ) (i : ℕ) → i < length l / 2
    → get_or (bytes_of l) i 0 ≡ 16 * value_of (get_or l (2 * i) 0) + value_of (get_or l (2 * i + 1) 0)
bytes_at_lem [] i h = omega arith
bytes_at_lem (a ∷ []) i h = omega arith
bytes_at_lem (a ∷ b ∷ l) zero h = refl
bytes_at_lem (a ∷ b ∷ l) (suc i) h =
    let e : 2 * suc i ≡ suc (suc (2 * i)) = omega arith in
    let g : suc (suc (2 * i)) + 1 ≡ suc (suc (2 * i + 1)) = omega arith in
    rw (e, g) (bytes_at_lem l i (omega arith))

pub bytes_past : (l : List ℕ) (i : ℕ) → length l / 2 ≤ i → get_or (bytes_of l) i 0 ≡ 0
bytes_past l i h = get_or-eq_default (bytes_of l) 0 (omega (arith, bytes_length l))

-- the digits of byte i
pub digits_at : (f r : List ℕ) (i : ℕ) → i < length f
    → (get_or (digits_of f ++ r) (2 * i) 0 ≡ digit_of (get_or f i 0 / 16))
    × (get_or (digits_of f ++ r) (2 * i + 1) 0 ≡ digit_of (get_or f i 0 % 16))
digits_at [] r i h = absurd (not-suc-le-zero h)
digits_at (b ∷ f) r zero h = (refl, refl)
digits_at (b ∷ f) r (suc i) h =
    let e : 2 * suc i ≡ suc (suc (2 * i)) = omega arith in
    let g : suc (suc (2 * i)) + 1 ≡ suc (suc (2 * i + 1)) = omega arith in
    rw (e, g) (digits_at f r i (le_of_suc-le-suc h))

pub line_last : (f : List ℕ) → get_or (line_of f) (2 * length f) 0 ≡ 0x0a
unfolding line_of
line_last f = get_or_at (digits_of f) 0x0a [] 0 (2 * length f) (digits_length f)

-- the test of a whole line as the library's
pub all_same : (l : List ℕ) → list_all is_digit l ≡ all_digits l
all_same [] = refl
all_same (c ∷ l) = both_and (is_digit c) _ ∙ ap (both (is_digit c)) (all_same l)
