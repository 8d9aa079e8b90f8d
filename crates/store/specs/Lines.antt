-- A line of the tablet's store: a leaf's numbers A and A' and its record's, eight bytes each, as digits, and 0A.
use Rattle.std.specs.Prelude.{Bool, List, ℕ, ◌+◌, ◌*◌, eqb, length, Option, Some, None}
use Rattle.seqs.specs.Choose.{pick, both, opposite}
use Rattle.seqs.specs.Bytes.{number_at}
use Rattle.hexadecimal.specs.Hex.{all_digits, bytes_of, line_of}
use Rattle.paper.specs.Strings.{nums, spread, malformed}
use Rattle.rows.specs.declared.Row.{Row}
use Rattle.rows.specs.Rows.{row_numbers, numbers_in}

-- the digits of a line, two for each of the eight bytes of a number, and its bytes with the 0A
abbrev pub line_digits : ℕ
line_digits = 16 * row_numbers

abbrev pub line_bytes : ℕ
line_bytes = line_digits + 1

-- a leaf's numbers as bytes, one behind the other; and back
unfoldable pub row_bytes : Row → List ℕ
row_bytes r = spread (nums (numbers_in r))

unfoldable pub row_in : List ℕ → Row
row_in b =
    record {
      item = record { 0 = number_at b 0 };
      next = record { 0 = number_at b 8 };
      entry = record {
        revision = record { 0 = number_at b 16 };
        mass = record { 0 = number_at b 24 };
        offset = record { 0 = number_at b 32 };
        rigging = record { 0 = number_at b 40 };
      };
    }

-- a leaf that may stand in a store: no number of an item is 0, and its record is not malformed
unfoldable pub may_stand : Row → Bool
may_stand r = both (opposite (eqb r.item.0 0)) (both (opposite (eqb r.next.0 0)) (opposite (malformed r.entry)))

-- what a line says, given without its 0A, or nothing: it has its length and digits alone, and its leaf may stand in a store
unfoldable pub line_read : List ℕ → Option Row
line_read l =
    pick (both (eqb (length l) line_digits) (both (all_digits l) (may_stand (row_in (bytes_of l))))) (Some (row_in (bytes_of l))) None

-- a leaf's line, with its 0A
abbrev pub line_of_row : Row → List ℕ
line_of_row r = line_of (row_bytes r)
