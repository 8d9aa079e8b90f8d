-- One digit of a number spelled, from the last to the first.
use mathlib.Core.Path.{◌≡◌, refl, ap, sym, subst, ◌∙◌}
use mathlib.Core.Bool.{Bool, true, false}
use mathlib.Core.List.{List, [], ◌∷◌, ◌++◌, append_assoc}
use Prim.Native.Nat.{ℕ, zero, suc, ◌+◌, ◌-◌, ◌/◌, ◌%◌, ◌^◌, ◌<◌, ◌≤◌}
use native.Mathlib.Omega.{arith}
use borrow.Author.Tests.{lt-ltb, le-ltb}
use lib.Dec.{ltb}
use lib.ListN.{length, set, replicate, length-append}
use Rattle.seqs.specs.Choose.{pick}
use Rattle.decimals.specs.Spelling.{numeral_up_to, numeral_of, ten_to}

-- The digits behind place i are there, with zeros up to it, and those of the rest, of which there are i + 1 at most, come in front.
pub record Spelled (n : ℕ) (bytes : List ℕ) (i rest : ℕ) : Type 0 where
  pub behind : List ℕ
  pub zeros : bytes ≡ replicate (suc i) 0 ++ behind
  pub digits : numeral_of n ≡ numeral_up_to (suc i) rest ++ behind
  pub small : rest < ten_to (suc i)

-- a byte at the last of some zeros
last_zero : (i v : ℕ) (l : List ℕ) → set (replicate (suc i) 0 ++ l) i v ≡ replicate i 0 ++ (v ∷ l)
last_zero zero v l = refl
last_zero (suc i) v l = ap (λ (t : List ℕ). 0 ∷ t) (last_zero i v l)

pub spelled_none : (n : ℕ) (bytes : List ℕ) → n < 2 ^ 64 → bytes ≡ replicate 20 0 → Spelled n bytes 19 n
spelled_none n bytes h e =
    record { behind = []; zeros = e ∙ refl; digits = no_more (numeral_of n); small = omega arith }
  where
    no_more : (l : List ℕ) → l ≡ l ++ []
    no_more [] = refl
    no_more (c ∷ l) = ap (λ (t : List ℕ). c ∷ t) (no_more l)

-- there is a place in front for a digit of ten or more
pub room : (i rest : ℕ) → rest < ten_to (suc i) → 10 ≤ rest → 1 ≤ i
room zero rest h k = absurd (omega arith)
room (suc i) rest h k = omega arith

pub spelled_next : (n i rest : ℕ) (bytes : List ℕ) → Spelled n bytes i rest → 10 ≤ rest
    → Spelled n (set bytes i (48 + rest % 10)) (i - 1) (rest / 10)
spelled_next n zero rest bytes s h = absurd (omega (arith, s.small))
spelled_next n (suc i) rest bytes s h =
    let d = 48 + rest % 10 in
    let up = numeral_up_to (suc i) (rest / 10) in
    let front : numeral_up_to (suc (suc i)) rest ≡ up ++ (d ∷ []) = rw (le-ltb rest 10 h) in
    let here : i ≡ suc i - 1 = omega arith in
    subst (λ (j : ℕ). Spelled n (set bytes (suc i) d) j (rest / 10)) here
    (record {
      behind = d ∷ s.behind;
      zeros = ap (λ (b : List ℕ). set b (suc i) d) s.zeros ∙ last_zero (suc i) d s.behind;
      digits = s.digits ∙ ap (λ (l : List ℕ). l ++ s.behind) front ∙ append_assoc up (d ∷ []) s.behind;
      small = omega (arith, s.small);
    })

pub spelled_all : (n i rest : ℕ) (bytes : List ℕ) → Spelled n bytes i rest → rest < 10
    → set bytes i (48 + rest) ≡ replicate i 0 ++ numeral_of n
spelled_all n i rest bytes s h =
    ap (λ (b : List ℕ). set b i (48 + rest)) s.zeros ∙ last_zero i (48 + rest) s.behind
    ∙ ap (λ (l : List ℕ). replicate i 0 ++ l) (sym (s.digits ∙ rw (lt-ltb rest 10 h)))

-- no more digits than there may be
pub numeral_short : (k n : ℕ) → length (numeral_up_to k n) ≤ k
numeral_short zero n = omega arith
numeral_short (suc k) n = by_test (ltb n 10) (numeral_short k (n / 10))
  where
    by_test : (t : Bool) → length (numeral_up_to k (n / 10)) ≤ k
        → length (pick t ((48 + n) ∷ []) (numeral_up_to k (n / 10) ++ ((48 + n % 10) ∷ []))) ≤ suc k
    by_test true h = omega arith
    by_test false h = simp length-append (omega (arith, h))
