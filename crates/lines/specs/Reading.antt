-- What reading a line into a frame space answers and leaves, and what writing a frame as a line does (docs/PROTOCOL.md, 4.2 and
-- 4.3). The refusals are `paper`'s.
use Rattle.std.specs.Prelude.{List, ◌++◌, ℕ, ◌+◌, ◌*◌, eqb, leb, length, drop, Option, None, Some, Result, Ok, Err}
use Rattle.seqs.specs.Choose.{pick}
use Rattle.hexadecimal.specs.Hex.{bytes_of, line_of}
use Rattle.paper.specs.Requests.{kind_of}
use Rattle.paper.specs.Module.{read_refusal, write_refusal}
use Rattle.paper.specs.declared.Refusal.{Refusal}
use Rattle.paper.specs.Numbers.{refusal_number, kind_number}
use Rattle.lines.specs.declared.Frame as Declared

-- What reading a line finds, in numbers: a frame of that kind and length, or the number of a refusal; and what writing a frame
-- does: a line of that length, or the number of a refusal (§10.1.7).
pub data Read : Type 0 where
  Frame : (kind : ℕ) (size : ℕ) → Read
  Refused : (number : ℕ) → Read

pub data Wrote : Type 0 where
  Line : (size : ℕ) → Wrote
  Rejected : (number : ℕ) → Wrote

abbrev pub read_told : Result Declared.Frame Refusal → Read
read_told (Ok f) = Frame (kind_number f.kind) f.length
read_told (Err e) = Refused (refusal_number e)

abbrev pub wrote_told : Result ℕ Refusal → Wrote
wrote_told (Ok n) = Line n
wrote_told (Err e) = Rejected (refusal_number e)

-- the number of a refusal, 0 where there is none
abbrev pub number_or_zero : Option Refusal → ℕ
number_or_zero None = 0
number_or_zero (Some e) = refusal_number e

-- §4.2.2, §4.2.3: the kind and the length, or a refusal's number; the bytes stay in the lent buffer (§10.1.3)
unfoldable pub read_of : (line : List ℕ) (space : ℕ) → Read
read_of line space =
    let n = read_refusal line space in
    pick (eqb n 0) (Frame (kind_of (bytes_of line)) (length (bytes_of line))) (Refused n)

-- the frame space then: nothing is written where it is refused (§4.2.3), and else the frame and nothing more (§4.2.2)
abbrev pub frame_after : Read → (line space : List ℕ) → List ℕ
frame_after (Frame k n) line d = bytes_of line ++ drop n d
frame_after (Refused n) line d = d

-- §4.3.2, §4.3.3: the length of the line written, with its 0A, or a refusal's number; then the line's space, nothing written where it is
-- refused
unfoldable pub wrote_of : (frame : List ℕ) (space : ℕ) → Wrote
wrote_of f space = let n = write_refusal f space in pick (eqb n 0) (Line (2 * length f + 1)) (Rejected n)

abbrev pub line_after : Wrote → (frame space : List ℕ) → List ℕ
line_after (Line n) f d = line_of f ++ drop n d
line_after (Rejected n) f d = d

-- the length of a reply's line where it fits the space
unfoldable pub reply_length : (reply : List ℕ) (space : ℕ) → Option ℕ
reply_length r space = pick (leb (2 * length r + 1) space) (Some (2 * length r + 1)) None
