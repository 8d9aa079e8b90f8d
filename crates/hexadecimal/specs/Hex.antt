-- Hexadecimal (§4.1.2): two lower-case digits to a byte, and a line ended by the byte 0A.
use Rattle.std.specs.Prelude.{Bool, true, List, [], ◌∷◌, ◌++◌, ℕ, ◌+◌, ◌-◌, ◌*◌, ◌/◌, ◌%◌, leb}
use Rattle.seqs.specs.Choose.{pick, both}

-- the digits 0 to 9 and a to f: the bytes 48 to 57 and 97 to 102
unfoldable pub is_digit : ℕ → Bool
is_digit c = pick (both (leb 48 c) (leb c 57)) true (both (leb 97 c) (leb c 102))

-- what a digit stands for; 0 for any other byte
unfoldable pub value_of : ℕ → ℕ
value_of c = pick (is_digit c) (pick (leb c 57) (c - 48) (c - 87)) 0

-- the digit of a number below 16
unfoldable pub digit_of : ℕ → ℕ
digit_of v = pick (leb v 9) (48 + v) (87 + v)

-- every byte is a digit
abbrev pub all_digits : List ℕ → Bool
all_digits [] = true
all_digits (c ∷ l) = both (is_digit c) (all_digits l)

-- two digits to a byte; a last digit alone stands for nothing
abbrev pub bytes_of : List ℕ → List ℕ
bytes_of [] = []
bytes_of (a ∷ []) = []
bytes_of (a ∷ b ∷ l) = (16 * value_of a + value_of b) ∷ bytes_of l

-- a byte to two digits
abbrev pub digits_of : List ℕ → List ℕ
digits_of [] = []
digits_of (b ∷ l) = digit_of (b / 16) ∷ digit_of (b % 16) ∷ digits_of l

-- the line of some bytes, with its 0A
unfoldable pub line_of : List ℕ → List ℕ
line_of bytes = digits_of bytes ++ (0x0a ∷ [])
