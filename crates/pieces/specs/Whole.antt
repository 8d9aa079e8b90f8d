-- The lines of a whole input, and those that a program finds that is given the input in pieces and calls `next_line`
-- over and over.
-- A last piece without 0A is a line where it is not empty (§4.1.5); of no input there are no lines (§4.1.6).
use Rattle.std.specs.Prelude.{false, List, [], ◌∷◌, ◌++◌, map, ℕ, ltb, take}
use Rattle.seqs.specs.Choose.{pick}
use Rattle.pieces.specs.Feeding.{Taker, feed_bytes}
use Rattle.pieces.specs.Cutting.{Holding, line_held, nothing_held, one_more_held}

-- ── lines gathered ──

-- A way to keep the line that has not ended yet: as a line; what is kept of the next one, nothing yet; and a byte more.
pub record Keeping (H : Type 0) : Type 0 where
  pub as_line : H → List ℕ
  pub emptied : H → H
  pub one_more : H → ℕ → H

-- the lines that ended, and what is kept of the one that has not
pub record Gathered (H : Type 0) : Type 0 where
  pub lines : List (List ℕ)
  pub begun : H

abbrev pub gathering : {H : Type 0} → Keeping H → Taker (Gathered H)
gathering w =
    record {
      line_end = λ t. record { lines = t.lines ++ (w.as_line t.begun ∷ []); begun = w.emptied t.begun };
      line_byte = λ t b. record { lines = t.lines; begun = w.one_more t.begun b };
      stops = λ _. false;
    }

-- no lines yet, with h kept of the first; and what the bytes s then give
abbrev pub no_lines : {H : Type 0} → H → Gathered H
no_lines h = record { lines = []; begun = h }

abbrev pub gathered_in : {H : Type 0} → Keeping H → List ℕ → H → Gathered H
gathered_in w s h = feed_bytes (gathering w) s (no_lines h)

-- what is kept at the end of the input is a line if it isn't empty
abbrev pub last_line : List ℕ → List (List ℕ)
last_line [] = []
last_line (b ∷ l) = (b ∷ l) ∷ []

-- ── the whole input ──

-- a line kept in full
abbrev pub in_full : Keeping (List ℕ)
in_full = record { as_line = λ l. l; emptied = λ _. []; one_more = λ l b. l ++ (b ∷ []) }

-- the lines of a whole input, without their 0A
abbrev pub input_lines : List ℕ → List (List ℕ)
input_lines s = let t = gathered_in in_full s [] in t.lines ++ last_line t.begun

-- the lines that end in a part of an input, l being what was read since the last 0A before it: what follows the last 0A in
-- the part is no line yet
abbrev pub ended_in : List ℕ → List ℕ → List (List ℕ)
ended_in l s = (gathered_in in_full s l).lines

-- every line cut to its first `room` bytes
abbrev pub cut_to : ℕ → List (List ℕ) → List (List ℕ)
cut_to room ls = map (take room) ls

-- ── the input in pieces ──

-- a line kept in a space
abbrev pub in_space : Keeping Holding
in_space = record { as_line = line_held; emptied = nothing_held; one_more = one_more_held }

-- the lines that pieces give, in order, behind what was gathered before them: what is held goes over to the next piece, and makes
-- a last line if any byte is held. That a piece gives the lines that `next_line` finds in it, call by call, is `found_first` of
-- proofs/Whole.antt.
abbrev pub found_in : List (List ℕ) → Gathered Holding → List (List ℕ)
found_in [] t = t.lines ++ pick (ltb 0 t.begun.count) (line_held t.begun ∷ []) []
found_in (p ∷ ps) t = found_in ps (feed_bytes (gathering in_space) p t)

-- and those of a whole input in pieces, in the space d
abbrev pub found_in_all : List (List ℕ) → (d : List ℕ) → List (List ℕ)
found_in_all ps d = found_in ps (no_lines (record { space = d; count = 0 }))
