-- Bytes that are there and zeros behind them; eight of them as a number; tests of every byte.
use Rattle.std.proofs.Common.{◌≡◌, ℕ, ◌+◌, ◌-◌, ◌<◌, List, [], ◌∷◌, ◌++◌, length, get_or, take, drop, replicate, min, refl, sym, ap, ◌∙◌, append-nil, add-zero, length-drop, arith}
use Rattle.std.proofs.Math.Decide.{dec_le}
use Rattle.std.proofs.Math.Seq.{take-append-add}
use Rattle.std.proofs.lemmas.List.{take_all, take-append-le, drop-replicate, take-replicate}
use Rattle.std.specs.Int.{w64, from_be_bytes}
use Rattle.std.specs.List.{list_all}
use lib.Dec.{eqb}
use Rattle.seqs.specs.Choose.{both, both_and}
use Rattle.seqs.specs.Bytes.{number_at, all_zero, padded_byte}

pub front : (l : List ℕ) (n : ℕ) → take (min (length l) n) l ++ drop (min (length l) n) (replicate n 0) ≡ take n (l ++ replicate n 0)
front l n =
    elim (dec_le (length l) n) [
      | yes h ↦
          let e : min (length l) n ≡ length l = omega arith in
          let f : n ≡ length l + (n - length l) = omega arith in
          rw (e, take_all (length l) l (omega arith), drop-replicate {X = ℕ} (length l) n 0)
          (ap (λ (r : List ℕ). l ++ r) (sym (take-replicate {X = ℕ} (n - length l) n 0 (omega arith)))
          ∙ sym (take-append-add l (replicate n 0) (n - length l)) ∙ ap (λ (k : ℕ). take k (l ++ replicate n 0)) (sym f))
      | no h ↦
          let e : min (length l) n ≡ n = omega (arith, h) in
          let z : n - n ≡ 0 = omega arith in
          rw (e, drop-replicate {X = ℕ} n n 0, z, append-nil) (sym (take-append-le n l (replicate n 0) (omega (arith, h))))
    ]

pub number_by : (s l : List ℕ) (at : ℕ) → l ≡ take 8 (drop at s ++ replicate 8 0) → from_be_bytes w64 l ≡ number_at s at
unfolding number_at
number_by s l at e =
    let byte : (i : ℕ) → i < 8 → get_or l i 0 ≡ get_or s (at + i) 0 = λ i h. ap (λ (k : List ℕ). get_or k i 0) e ∙ padded_byte s at 8 i h in
    let top : get_or l 0 0 ≡ get_or s at 0 = simp add-zero at (byte 0 (omega arith)) in
    omega (
      arith,
      byte 1 (omega arith),
      byte 2 (omega arith),
      byte 3 (omega arith),
      byte 4 (omega arith),
      byte 5 (omega arith),
      byte 6 (omega arith),
      byte 7 (omega arith),
    )

-- what is left of a list from a place on, as a range says it
pub rest : (s : List ℕ) (m : ℕ) → take (length s - m) (drop m s) ≡ drop m s
rest s m = take_all (length s - m) (drop m s) (omega (arith, length-drop {A = ℕ}))

pub all_zero_lem : (l : List ℕ) → list_all (λ b. eqb b 0) l ≡ all_zero l
all_zero_lem [] = refl
all_zero_lem (b ∷ l) = both_and (eqb b 0) _ ∙ ap (both (eqb b 0)) (all_zero_lem l)
