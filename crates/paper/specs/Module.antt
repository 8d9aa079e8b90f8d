-- The whole answer to a line with its reply space (§1.1.2: it depends on the registers, the line and the space alone, and is there
-- for every line, §8.1.1), and the reader's and the writer's refusals.
use Rattle.std.specs.Prelude.{List, [], ◌∷◌, ◌++◌, ℕ, ◌+◌, ◌*◌, false, eqb, ltb, length, drop}
use Rattle.seqs.specs.Choose.{pick, either}
use Rattle.hexadecimal.specs.Hex.{bytes_of, line_of}
use Rattle.paper.specs.declared.Registers.{Registers}
use Rattle.paper.specs.Strings.{Dig, nought, Str}
use Rattle.paper.specs.Requests.{Request, kind_of, request_of}
use Rattle.paper.specs.Refusals.{Check, plain, order, longest_frame, room_for, reply_room, is_hex, is_kind, is_frame, needs, Verdict, refused_by, all_passed, judge}
use Rattle.paper.specs.Answers.{Effect, none', answer}

-- ── the reader and the writer ──

-- the number of a refusal, 0 where there is none
abbrev pub refusal_of : Verdict → ℕ
refusal_of (refused_by n fs) = n
refusal_of (all_passed fs) = 0

-- the order of both
abbrev pub line_order : List ℕ
line_order = 1 ∷ 2 ∷ 3 ∷ 15 ∷ []

abbrev pub frame_checks : List ℕ → List Check
frame_checks f = is_kind (kind_of f) ∷ is_frame f ∷ []

-- §4.2.1: what reading a line into a frame's space is checked for
abbrev pub read_checks : (line : List ℕ) (space : ℕ) → List Check
read_checks line space = let f = bytes_of line in is_hex line ∷ room_for (length f) space ∷ frame_checks f

unfoldable pub read_refusal : (line : List ℕ) (space : ℕ) → ℕ
read_refusal line space = refusal_of (judge line_order [] (read_checks line space))

-- §4.3.1: what writing a frame is checked for; the line is counted with its 0A (§4.1.4)
abbrev pub is_writable : List ℕ → Check
is_writable f = plain 1 (either (eqb (length f) 0) (ltb longest_frame (length f)))

abbrev pub write_checks : (frame : List ℕ) (space : ℕ) → List Check
write_checks f space = is_writable f ∷ room_for (2 * length f + 1) space ∷ frame_checks f

unfoldable pub write_refusal : (frame : List ℕ) (space : ℕ) → ℕ
write_refusal f space = refusal_of (judge line_order [] (write_checks f space))

-- ── the module ──

-- §2.1.1 to §2.1.4, at first: root and counter zero, not open; the secret's register may hold anything
abbrev pub unopened : (secret : Dig) → Registers
unopened k = record { root = nought; counter = record { 0 = 0 }; secret = k; opened = false }

-- What a request comes to: the number of its refusal or 0, the bytes of its reply, the registers after it, the strings
-- formed, and what it does beyond its reply.
pub record Told : Type 0 where
  pub refusal : ℕ
  pub says : List ℕ
  pub after : Registers
  pub formed : List Str
  pub effect : Effect

module _ (D : List ℕ → Dig) where
  -- a refusal is 00 and its number (§5.3.2), leaves the registers as they were (§6.1.2) and does nothing else (§7.2.8); a reply has
  -- the kind with 80 hexadecimal added, and what the answer lists (§5.3.1)
  abbrev pub told_by : Registers → (kind : ℕ) → Request → Verdict → Told
  told_by s kind q (refused_by n fs) = record { refusal = n; says = 0x00 ∷ n ∷ []; after = s; formed = fs; effect = none' }
  told_by s kind q (all_passed fs) =
      let a = answer D s q in
      record {
        refusal = 0;
        says = (0x80 + kind) ∷ a.lists;
        after = a.after;
        formed = a.forms ++ fs;
        effect = a.effect;
      }

  -- a frame, well formed or not
  unfoldable pub answer_frame : Registers → (frame : List ℕ) → Told
  answer_frame s f = told_by s (kind_of f) (request_of f) (judge (drop 2 order) [] (frame_checks f ++ needs D s (request_of f)))

  -- a line with its reply space: every check that it comes under, then its answer by the first that fails
  abbrev pub checks_of : Registers → (line : List ℕ) (space : ℕ) → List Check
  checks_of s line space =
      let f = bytes_of line in
      room_for reply_room space ∷ is_hex line ∷ (frame_checks f ++ needs D s (request_of f))

  unfoldable pub answer_to : Registers → (line : List ℕ) (space : ℕ) → Told
  answer_to s line space =
      let f = bytes_of line in
      told_by s (kind_of f) (request_of f) (judge order [] (checks_of s line space))

-- the reply's line, with its 0A; of 15 there is none (§6.1.3)
abbrev pub reply_line : Told → List ℕ
reply_line t = pick (eqb t.refusal 15) [] (line_of t.says)

-- the reply space after it: the reply over its front, every other byte as it was (§5.3.4, §8.1.4)
abbrev pub space_after : Told → List ℕ → List ℕ
space_after t d = reply_line t ++ drop (length (reply_line t)) d
