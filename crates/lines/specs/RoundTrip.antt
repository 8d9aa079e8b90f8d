-- Lines and frames both ways (§4.4.1 to §4.4.3, §8.2.2), as statements over what `read_line` and `write_frame` promise;
-- `proofs/RoundTrip` shows all three.
use Rattle.std.specs.Prelude.{◌≡◌, List, [], ◌∷◌, ◌++◌, ℕ, ◌+◌, ◌≤◌, length, drop}
use Rattle.seqs.specs.Bytes.{Bytes}
use Rattle.hexadecimal.specs.Hex.{bytes_of}
use Rattle.paper.specs.Requests.{kind_of}
use Rattle.lines.specs.Reading.{Frame, Line, read_of, frame_after, wrote_of, line_after}

-- A frame f of bytes was written into the space d, n bytes with its 0A. Then a line l and 0A stand there, and reading
-- l into any space e that has room gives f's kind and length and puts f there.
pub record ReadsBack (f d e : List ℕ) : Type 0 where
  pub line : List ℕ
  pub wrote : line_after (wrote_of f (length d)) f d ≡ (line ++ (0x0a ∷ [])) ++ drop (length line + 1) d
  pub read : read_of line (length e) ≡ Frame (kind_of f) (length f)
  pub frame : frame_after (read_of line (length e)) line e ≡ f ++ drop (length f) e

abbrev pub WrittenReads : Type 0
WrittenReads = (f d e : List ℕ) (n : ℕ) → Bytes f → wrote_of f (length d) ≡ Line n → length f ≤ length e → ReadsBack f d e

-- A line l was read into the space d. Then writing the frame that stands there into any space e that has room gives l
-- and 0A.
pub record WritesBack (l d e : List ℕ) : Type 0 where
  pub frame : List ℕ
  pub read : frame_after (read_of l (length d)) l d ≡ frame ++ drop (length frame) d
  pub wrote : wrote_of frame (length e) ≡ Line (length l + 1)
  pub line : line_after (wrote_of frame (length e)) frame e ≡ (l ++ (0x0a ∷ [])) ++ drop (length l + 1) e

abbrev pub ReadWrites : Type 0
ReadWrites =
    (l d e : List ℕ) (k n : ℕ) → read_of l (length d) ≡ Frame k n → length l + 1 ≤ length e → WritesBack l d e

-- Two lines that read as the same frame are equal.
abbrev pub OneLine : Type 0
OneLine =
    (l m d e : List ℕ) (k n k' n' : ℕ) → read_of l (length d) ≡ Frame k n → read_of m (length e) ≡ Frame k' n'
    → bytes_of l ≡ bytes_of m → l ≡ m
