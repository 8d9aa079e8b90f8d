-- Numbers as people write them: decimal digits, without a sign and without a 0 in front.
use Rattle.std.specs.Prelude.{Bool, true, false, List, [], ◌∷◌, Option, Some, None, ℕ, ◌+◌, ◌-◌, ◌*◌, ◌^◌, eqb, leb, ltb}
use Rattle.seqs.specs.Choose.{pick, both, opposite}

-- the digits 0 to 9 are the bytes 48 to 57
unfoldable pub is_decimal : ℕ → Bool
is_decimal c = both (leb 48 c) (leb c 57)

abbrev pub all_decimal : List ℕ → Bool
all_decimal [] = true
all_decimal (c ∷ l) = both (is_decimal c) (all_decimal l)

-- the number that digits stand for, those of n before them
abbrev pub numeral_from : ℕ → List ℕ → ℕ
numeral_from n [] = n
numeral_from n (c ∷ l) = numeral_from (10 * n + (c - 48)) l

-- as it is written: there is a digit, and no 0 stands in front of another
abbrev pub plainly : List ℕ → Bool
plainly [] = false
plainly (c ∷ []) = true
plainly (c ∷ d ∷ l) = opposite (eqb c 48)

-- the number of some digits, where eight bytes hold it
unfoldable pub digits_in : List ℕ → Option ℕ
digits_in l = pick (both (all_decimal l) (ltb (numeral_from 0 l) (2 ^ 64))) (Some (numeral_from 0 l)) None

-- the number that a text is
unfoldable pub decimal_in : List ℕ → Option ℕ
decimal_in l = pick (plainly l) (digits_in l) None
