-- What is spelled is read as the number that it was.
use mathlib.Core.Path.{◌≡◌, refl, ap, ◌∙◌}
use mathlib.Core.Bool.{true}
use mathlib.Core.List.{List, [], ◌∷◌, ◌++◌}
use mathlib.Core.Logic.{◌≢◌}
use Prim.Native.Nat.{ℕ, zero, suc, ◌+◌, ◌-◌, ◌*◌, ◌/◌, ◌%◌, ◌^◌, ◌<◌, ◌≤◌}
use native.Mathlib.Omega.{arith}
use native.Mathlib.Decide.{dec_le}
use borrow.Author.Tests.{lt-ltb, le-ltb, le-leb, ne_eqb}
use Rattle.seqs.specs.Choose.{both_true}
use Rattle.std.specs.Prelude.{Some}
use Rattle.decimals.specs.Decimals.{is_decimal, all_decimal, numeral_from, plainly, digits_in, decimal_in}
use Rattle.decimals.specs.Spelling.{numeral_up_to, numeral_of, ten_to}

digit_at : (c : ℕ) → c < 10 → is_decimal (48 + c) ≡ true
unfolding is_decimal
digit_at c h = rw (le-leb 48 (48 + c) (omega arith), le-leb (48 + c) 57 (omega arith))

digits_behind : (l : List ℕ) (c : ℕ) → all_decimal l ≡ true → is_decimal c ≡ true → all_decimal (l ++ (c ∷ [])) ≡ true
digits_behind [] c h d = rw d
digits_behind (b ∷ l) c h d =
    let t = both_true (is_decimal b) (all_decimal l) h in
    rw (t.0, digits_behind l c t.1 d)

number_behind : (l : List ℕ) (n c : ℕ) → numeral_from n (l ++ (c ∷ [])) ≡ 10 * numeral_from n l + (c - 48)
number_behind [] n c = refl
number_behind (b ∷ l) n c = number_behind l (10 * n + (b - 48)) c

-- a list that begins with a byte that is no 0, and goes on
record Leads (l : List ℕ) : Type 0 where
  first : ℕ
  rest : List ℕ
  split : l ≡ first ∷ rest
  digit : first ≢ 48

leads_on : (l : List ℕ) (c : ℕ) → Leads l → Leads (l ++ (c ∷ []))
leads_on l c h =
    record { first = h.first; rest = h.rest ++ (c ∷ []); split = ap (λ (t : List ℕ). t ++ (c ∷ [])) h.split; digit = h.digit }

plain_behind : (l : List ℕ) (c : ℕ) → Leads l → plainly (l ++ (c ∷ [])) ≡ true
plain_behind l c h = ap (λ (t : List ℕ). plainly (t ++ (c ∷ []))) h.split ∙ by_rest h.rest
  where
    by_rest : (r : List ℕ) → plainly ((h.first ∷ r) ++ (c ∷ [])) ≡ true
    by_rest [] = rw (ne_eqb h.first 48 h.digit)
    by_rest (d ∷ r) = rw (ne_eqb h.first 48 h.digit)

module _ (k n : ℕ) where
  one : n < 10 → numeral_up_to (suc k) n ≡ (48 + n) ∷ []
  one h = rw (lt-ltb n 10 h)

  many : 10 ≤ n → numeral_up_to (suc k) n ≡ numeral_up_to k (n / 10) ++ ((48 + n % 10) ∷ [])
  many h = rw (le-ltb n 10 h)

all_digits_lem : (k n : ℕ) → all_decimal (numeral_up_to k n) ≡ true
all_digits_lem zero n = refl
all_digits_lem (suc k) n =
    elim (dec_le 10 n) [
      | yes h ↦ ap all_decimal (many k n h) ∙ digits_behind (numeral_up_to k (n / 10)) (48 + n % 10) (all_digits_lem k (n / 10)) (digit_at (n % 10) (omega arith))
      | no h ↦ ap all_decimal (one k n (omega arith)) ∙ rw (digit_at n (omega arith))
    ]

the_number : (k n : ℕ) → n < ten_to k → numeral_from 0 (numeral_up_to k n) ≡ n
the_number zero n h = omega arith
the_number (suc k) n h =
    elim (dec_le 10 n) [
      | yes m ↦ (
          ap (numeral_from 0) (many k n m) ∙ number_behind (numeral_up_to k (n / 10)) 0 (48 + n % 10)
          ∙ omega (arith, the_number k (n / 10) (omega arith))
          )
      | no m ↦ ap (numeral_from 0) (one k n (omega arith)) ∙ omega arith
    ]

leads : (k n : ℕ) → 1 ≤ n → n < ten_to k → Leads (numeral_up_to k n)
leads zero n p h = absurd (omega arith)
leads (suc k) n p h =
    elim (dec_le 10 n) [
      | yes m ↦ (
          let l = leads_on (numeral_up_to k (n / 10)) (48 + n % 10) (leads k (n / 10) (omega arith) (omega arith)) in
          record { first = l.first; rest = l.rest; split = many k n m ∙ l.split; digit = l.digit }
          )
      | no m ↦ record { first = 48 + n; rest = []; split = one k n (omega arith); digit = λ e. omega (arith, e) }
    ]

plain : (k n : ℕ) → n < ten_to (suc k) → plainly (numeral_up_to (suc k) n) ≡ true
plain k n h =
    elim (dec_le 10 n) [
      | yes m ↦ ap plainly (many k n m) ∙ plain_behind (numeral_up_to k (n / 10)) (48 + n % 10) (leads k (n / 10) (omega arith) (omega arith))
      | no m ↦ ap plainly (one k n (omega arith))
    ]

pub spelled_reads : (n : ℕ) → n < 2 ^ 64 → decimal_in (numeral_of n) ≡ Some n
unfolding decimal_in digits_in
spelled_reads n h =
    let number : numeral_from 0 (numeral_of n) ≡ n = the_number 20 n (omega arith) in
    rw (plain 19 n (omega arith), all_digits_lem 20 n, number, lt-ltb n (2 ^ 64) h)
