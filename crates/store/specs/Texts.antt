-- A whole store: its lines as 0A ends them, each read, up to the first that cannot be.
use Rattle.std.specs.Prelude.{Bool, true, false, List, [], ◌∷◌, ◌++◌, ℕ, eqb, leb, length, get_or, take, Option, Some, None, Result, Ok, Err}
use Rattle.seqs.specs.Choose.{pick}
use Rattle.pieces.specs.Whole.{gathered_in, in_full}
use Rattle.rows.specs.declared.Row.{Row}
use Rattle.store.specs.Lines.{line_digits, line_bytes, line_read, line_of_row}

-- the leaves of the lines before the first that cannot be read, and whether that is every line
pub record TextRead : Type 0 where
  pub rows : List Row
  pub whole : Bool

-- a line, and what is read of those behind it
abbrev pub line_then : Option Row → TextRead → TextRead
line_then (Some r) t = record { rows = r ∷ t.rows; whole = t.whole }
line_then None t = record { rows = []; whole = false }

-- lines that 0A ended, and what stands behind the last 0A: that is a line too, where it is not empty, and cannot be read
abbrev pub lines_read : List (List ℕ) → (rest : List ℕ) → TextRead
lines_read [] [] = record { rows = []; whole = true }
lines_read [] (b ∷ s) = record { rows = []; whole = false }
lines_read (l ∷ ls) s = line_then (line_read l) (lines_read ls s)

unfoldable pub text_read : List ℕ → TextRead
text_read s = let t = gathered_in in_full s [] in lines_read t.lines t.begun

-- how many lines there are, or how many stand before the first that cannot be read
unfoldable pub lines_in : List ℕ → Result ℕ ℕ
lines_in s = pick (text_read s).whole (Ok (length (text_read s).rows)) (Err (length (text_read s).rows))

-- the text of some leaves
abbrev pub text_of : List Row → List ℕ
text_of [] = []
text_of (r ∷ l) = line_of_row r ++ text_of l

-- ── as a text is gone through, line by line of one length ──

-- the line at the front of a text, 0A included
unfoldable pub front_line : List ℕ → Option Row
front_line t = pick (leb line_bytes (length t)) (pick (eqb (get_or t line_digits 0) 0x0a) (line_read (take line_digits t)) None) None
