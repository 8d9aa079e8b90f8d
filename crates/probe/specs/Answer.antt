-- The answer to a message in hexadecimal.
use Rattle.std.specs.Prelude.{Bool, List, [], ◌∷◌, ℕ, ◌/◌, ◌%◌, eqb, leb, length, Option, None, Some}
use Rattle.seqs.specs.Choose.{pick, both}
use Rattle.hexadecimal.specs.Hex.{all_digits, bytes_of, line_of}
use Rattle.sha256.specs.Hash.{sha256}

-- the line is a message of at most room bytes
abbrev pub is_message : ℕ → List ℕ → Bool
is_message room line = both (eqb (length line % 2) 0) (both (leb (length line / 2) room) (all_digits line))

-- the line of its digest, or `?` where the line is no message of at most room bytes
unfoldable pub answer_of : ℕ → List ℕ → List ℕ
answer_of room line = pick (is_message room line) (line_of (sha256 (bytes_of line))) (0x3f ∷ 0x0a ∷ [])

-- how many bytes it has
unfoldable pub message_in : ℕ → List ℕ → Option ℕ
message_in room line = pick (is_message room line) (Some (length line / 2)) None

-- what is printed
abbrev pub told : Option (List ℕ) → List ℕ
told None = 0x3f ∷ 0x0a ∷ []
told (Some l) = l
