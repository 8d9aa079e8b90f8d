-- One digit more of a number, and the digit by which it is none.
use mathlib.Core.Path.{◌≡◌, refl, sym, ap, ◌∙◌}
use mathlib.Core.Bool.{Bool, true, false}
use mathlib.Core.List.{List, [], ◌∷◌}
use mathlib.Core.Logic.{◌≢◌}
use Prim.Native.Nat.{ℕ, suc, ◌+◌, ◌-◌, ◌*◌, ◌^◌, ◌<◌, ◌≤◌}
use native.Mathlib.Omega.{arith}
use borrow.Author.Tests.{lt-ltb, le-ltb, eq-eqb, ne_eqb}
use lib.Dec.{leb}
use lib.ListN.{length, get_or, drop, drop_of_length-le}
use lib.Seq.{drop-cons}
use Rattle.seqs.specs.Choose.{both, both_no}
use Rattle.std.specs.Prelude.{Some, None, ◌&&◌}
use Rattle.std.specs.Char.{is_ascii_digit}
use Rattle.decimals.specs.Decimals.{is_decimal, all_decimal, numeral_from, digits_in, decimal_in}

-- digits behind n make no less than n
no_less : (l : List ℕ) (n : ℕ) → n ≤ numeral_from n l
no_less [] n = omega arith
no_less (c ∷ l) n = omega (arith, no_less l (10 * n + (c - 48)))

-- std's test of a digit is this one
pub as_decimal : {b : Bool} (c : ℕ) → b ≡ is_ascii_digit c → is_decimal c ≡ b
unfolding is_decimal
as_decimal c e = by_test (leb 48 c) (leb c 57) ∙ sym e
  where
    by_test : (p q : Bool) → both p q ≡ p && q
    by_test true q = refl
    by_test false q = refl

-- the first i digits are n, and what stands behind them decides
pub record Read (l : List ℕ) (i n : ℕ) : Type 0 where
  pub digits : all_decimal l ≡ all_decimal (drop i l)
  pub number : numeral_from 0 l ≡ numeral_from n (drop i l)

pub read_none : (l : List ℕ) → Read l 0 0
read_none l = record { digits = refl; number = refl }

module _ (l : List ℕ) (i n : ℕ) (less : i < length l) (r : Read l i n) where
  abbrev c : ℕ
  c = get_or l i 0

  front : drop i l ≡ get_or l i 0 ∷ drop (i + 1) l
  front = drop-cons l i 0 less ∙ ap (λ (k : ℕ). get_or l i 0 ∷ drop k l) (add_one' i)
    where
      add_one' : (i : ℕ) → suc i ≡ i + 1
      add_one' i = omega arith

  pub read_next : {n' : ℕ} → is_decimal (get_or l i 0) ≡ true → n' ≡ 10 * n + (get_or l i 0 - 48) → Read l (i + 1) n'
  read_next d e =
      record {
        digits = r.digits ∙ ap all_decimal front ∙ rw d refl;
        number = r.number ∙ ap (numeral_from n) front ∙ ap (λ (k : ℕ). numeral_from k (drop (i + 1) l)) (sym e);
      }

  pub no_decimal : is_decimal (get_or l i 0) ≡ false → digits_in l ≡ None
  unfolding digits_in
  no_decimal d =
      let none : all_decimal l ≡ false = r.digits ∙ ap all_decimal front ∙ rw d refl in
      rw none

  pub too_large : 2 ^ 64 ≤ 10 * n + (get_or l i 0 - 48) → digits_in l ≡ None
  unfolding digits_in
  too_large h =
      let more : 2 ^ 64 ≤ numeral_from 0 l =
      omega (arith, r.number, ap (numeral_from n) front, no_less (drop (i + 1) l) (10 * n + (get_or l i 0 - 48))) in
      rw (le-ltb (numeral_from 0 l) (2 ^ 64) more, both_no) refl

pub read_all : (l : List ℕ) (i n : ℕ) → length l ≤ i → n < 2 ^ 64 → Read l i n → digits_in l ≡ Some n
unfolding digits_in
read_all l i n h small r =
    let none = drop_of_length-le l h in
    let digits : all_decimal l ≡ true = r.digits ∙ ap all_decimal none in
    let number : numeral_from 0 l ≡ n = r.number ∙ ap (numeral_from n) none in
    rw (digits, number, lt-ltb n (2 ^ 64) small)

-- ── the digit in front ──

pub no_digit : (l : List ℕ) → length l ≡ 0 → decimal_in l ≡ None
unfolding decimal_in
no_digit [] h = refl
no_digit (c ∷ l) h = absurd (omega arith)

pub one_digit : (l : List ℕ) → length l ≡ 1 → decimal_in l ≡ digits_in l
unfolding decimal_in
one_digit [] h = absurd (omega arith)
one_digit (c ∷ []) h = refl
one_digit (c ∷ d ∷ l) h = absurd (omega arith)

pub zero_first : (l : List ℕ) → length l ≢ 0 → length l ≢ 1 → get_or l 0 0 ≡ 48 → decimal_in l ≡ None
unfolding decimal_in
zero_first [] a b e = absurd (a refl)
zero_first (c ∷ []) a b e = absurd (b refl)
zero_first (c ∷ d ∷ l) a b e = rw (eq-eqb c 48 e)

pub more_digits : (l : List ℕ) → length l ≢ 0 → length l ≢ 1 → get_or l 0 0 ≢ 48 → decimal_in l ≡ digits_in l
unfolding decimal_in
more_digits [] a b n = absurd (a refl)
more_digits (c ∷ []) a b n = absurd (b refl)
more_digits (c ∷ d ∷ l) a b n = rw (ne_eqb c 48 n)
