-- A request written as a line (§4.1.1, §4.1.2), by the column "carries" of the table of kinds. Paper's table reads a frame; this
-- one writes it, and `proofs/Frames` shows that what is written reads back as the same request.
use Rattle.std.specs.Prelude.{List, [], ◌∷◌, ◌++◌, ℕ, length}
use Rattle.seqs.specs.Bytes.{be64}
use Rattle.hexadecimal.specs.Hex.{digits_of}
use Rattle.paper.specs.declared.Record.{Record}
use Rattle.paper.specs.declared.Values.{Values}
use Rattle.paper.specs.Strings.{Dig, numbers, nums, spread}
use Rattle.paper.specs.Requests.{Request, path, witness, join, pair, raise, swap, first, place, turn, chain, adopt, set_to, clear, ask, ask_none, unlock}
use Rattle.paper.specs.Refusals.{reply_room}
use Rattle.runs.specs.Run.{LineTurn}

-- lists of bytes one behind the other
abbrev pub together : List (List ℕ) → List ℕ
together [] = []
together (p ∷ ps) = p ++ together ps

-- a record's four numbers; a set's three; a path's n, sides and siblings
abbrev pub record_bytes : Record → List ℕ
record_bytes r = spread (nums (numbers r))

abbrev pub values_bytes : Values → List ℕ
values_bytes v = spread (nums (v.mass.0 ∷ v.offset.0 ∷ v.rigging.0 ∷ []))

abbrev pub path_bytes : (sides : ℕ) → List Dig → List ℕ
path_bytes sides l = length l ∷ (be64 sides ++ together l)

-- a kind, and the things that it carries, each as bytes
pub record FrameParts : Type 0 where
  pub kind : ℕ
  pub parts : List (List ℕ)

abbrev pub parts_of : Request → FrameParts
parts_of (path x x' sides l) = record { kind = 0x01; parts = x ∷ x' ∷ path_bytes sides l ∷ [] }
parts_of (witness x y m) = record { kind = 0x02; parts = x ∷ y ∷ m ∷ [] }
parts_of (join x y x' y' m1 z z' m2) = record { kind = 0x03; parts = x ∷ y ∷ x' ∷ y' ∷ m1 ∷ z ∷ z' ∷ m2 ∷ [] }
parts_of (pair x1 y x1' y' m1 x2 z x2' z' m2) =
    record { kind = 0x04; parts = x1 ∷ y ∷ x1' ∷ y' ∷ m1 ∷ x2 ∷ z ∷ x2' ∷ z' ∷ m2 ∷ [] }
parts_of (raise x1 x2 y x1' x2' y' m1 z z' m2) =
    record { kind = 0x05; parts = x1 ∷ x2 ∷ y ∷ x1' ∷ x2' ∷ y' ∷ m1 ∷ z ∷ z' ∷ m2 ∷ [] }
parts_of (swap x1 x2 y y' m) = record { kind = 0x06; parts = x1 ∷ x2 ∷ y ∷ y' ∷ m ∷ [] }
parts_of (first A) = record { kind = 0x07; parts = be64 A ∷ [] }
parts_of (place A A' B' ω y y' m) =
    record { kind = 0x08; parts = be64 A ∷ be64 A' ∷ be64 B' ∷ ω ∷ y ∷ y' ∷ m ∷ [] }
parts_of (turn x y m) = record { kind = 0x09; parts = x ∷ y ∷ m ∷ [] }
parts_of (chain x y m1 z m2) = record { kind = 0x0a; parts = x ∷ y ∷ m1 ∷ z ∷ m2 ∷ [] }
parts_of (adopt y y' m) = record { kind = 0x0b; parts = y ∷ y' ∷ m ∷ [] }
parts_of (set_to A A' old v y y' m) =
    record { kind = 0x0c; parts = be64 A ∷ be64 A' ∷ record_bytes old ∷ values_bytes v ∷ y ∷ y' ∷ m ∷ [] }
parts_of (clear A A' old y y' m) =
    record { kind = 0x0d; parts = be64 A ∷ be64 A' ∷ record_bytes old ∷ y ∷ y' ∷ m ∷ [] }
parts_of (ask q A A' r y m) =
    record { kind = 0x0e; parts = be64 q ∷ be64 A ∷ be64 A' ∷ record_bytes r ∷ y ∷ m ∷ [] }
parts_of (ask_none q) = record { kind = 0x0f; parts = be64 q ∷ [] }
parts_of (unlock k) = record { kind = 0x10; parts = k ∷ [] }

-- the frame of a request
abbrev pub frame_of : Request → List ℕ
frame_of q = (parts_of q).kind ∷ together (parts_of q).parts

-- its line, without 0A
abbrev pub line_for : Request → List ℕ
line_for q = digits_of (frame_of q)

abbrev pub lines_of : List Request → List (List ℕ)
lines_of [] = []
lines_of (q ∷ qs) = line_for q ∷ lines_of qs

-- with the reply space that is enough (§7.4.4)
abbrev pub turn_of : Request → LineTurn
turn_of q = record { line = line_for q; space = reply_room }

abbrev pub turns_of : List Request → List LineTurn
turns_of [] = []
turns_of (q ∷ qs) = turn_of q ∷ turns_of qs
