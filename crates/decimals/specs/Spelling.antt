-- A number's digits, the last one last; and that they are read as that number.
use Rattle.std.specs.Prelude.{List, [], ◌∷◌, ◌++◌, ℕ, zero, suc, ◌+◌, ◌*◌, ◌/◌, ◌%◌, ltb}
use Rattle.seqs.specs.Choose.{pick}

-- a number's digits, as far as so many are enough
abbrev pub numeral_up_to : (most n : ℕ) → List ℕ
numeral_up_to zero n = []
numeral_up_to (suc k) n = pick (ltb n 10) ((48 + n) ∷ []) (numeral_up_to k (n / 10) ++ ((48 + n % 10) ∷ []))

-- no number of eight bytes has more than 20
abbrev pub numeral_of : ℕ → List ℕ
numeral_of n = numeral_up_to 20 n

-- 10 to the k
abbrev pub ten_to : ℕ → ℕ
ten_to zero = 1
ten_to (suc k) = 10 * ten_to k
