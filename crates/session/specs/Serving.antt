-- What `serve` and `finish` do, for every input.
use Rattle.std.specs.Prelude.{◌≡◌, false, None, List, [], ◌∷◌, ◌++◌, ℕ, ◌+◌, ◌-◌, min, ltb, length, take, drop}
use Rattle.pieces.specs.Feeding.{Taker, feed_bytes}
use Rattle.pieces.specs.Cutting.{Holding, line_held, nothing_held, one_more_held}
use Rattle.sha256.specs.Hash.{sha256}
use Rattle.paper.specs.declared.Registers.{Registers}
use Rattle.paper.specs.Refusals.{reply_room}
use Rattle.paper.specs.Module.{Told, answer_to, reply_line, space_after}
use Rattle.module.specs.declared.Answered.{Answered}
use Rattle.module.specs.Answering.{answered_of}
use Rattle.session.specs.declared.Served.{Served}
use Rattle.session.specs.Replies.{told_of}

-- ── the input of a session ──

-- Where a session stands in its input: the registers, and what is held of a line.
pub record SessionAt : Type 0 where
  pub registers : Registers
  pub held : Holding

abbrev pub session_with : Registers → (space : List ℕ) (count : ℕ) → SessionAt
session_with s d n = record { registers = s; held = record { space = d; count = n } }

-- A line that ends is answered: the registers are those after it, and nothing is held. A byte of a line is held.
abbrev pub carrying : Taker SessionAt
carrying =
    record {
      line_end = λ t. record { registers = (told_of t.registers (line_held t.held)).after; held = nothing_held t.held };
      line_byte = λ t b. record { registers = t.registers; held = one_more_held t.held b };
      stops = λ _. false;
    }

-- ── serving a piece ──

-- Where serving stands: also the place in the piece, the output, and how much of it is replies.
pub record Stand : Type 0 where
  pub session : SessionAt
  pub next : ℕ
  pub out : List ℕ
  pub filled : ℕ

-- the output o with the reply to a line behind w bytes of replies
abbrev pub out_after : Told → (o : List ℕ) (w : ℕ) → List ℕ
out_after t o w = take w o ++ space_after t (drop w o)

-- The reply to a line that ends goes behind the others. Where fewer than 195 bytes of the output are left, serving stops, so that
-- a line that it answers has the room that every reply fits.
abbrev pub serving : Taker Stand
serving =
    record {
      line_end = λ t.
          let told = told_of t.session.registers (line_held t.session.held) in
          record {
            session = carrying.line_end t.session;
            next = t.next + 1;
            out = out_after told t.out t.filled;
            filled = t.filled + length (reply_line told);
          };
      line_byte = λ t b.
          record { session = carrying.line_byte t.session b; next = t.next + 1; out = t.out; filled = t.filled };
      stops = λ t. ltb (length t.out - t.filled) reply_room;
    }

-- a call: from place `at` of a piece, with no replies in the output yet; a count of held bytes beyond the space stands
-- for the whole space, and a place beyond the piece for its end
abbrev pub served_of : Registers → (piece : List ℕ) (at : ℕ) (line : List ℕ) (held : ℕ) (out : List ℕ) → Stand
served_of s p at d n o =
    feed_bytes serving (drop at p) (record { session = session_with s d (min n (length d)); next = at; out = o; filled = 0 })

-- what `serve` promises: what it returns, and every byte of the line's space and of the output
pub record ServedAs (t : Stand) (r : Served) (line out : List ℕ) : Type 0 where
  pub returned : r ≡ record { registers = t.session.registers; next = t.next; held = t.session.held.count; filled = t.filled }
  pub line_left : line ≡ t.session.held.space
  pub out_left : out ≡ t.out

-- what it makes of one line, for itself: the answer behind w bytes of replies
pub record RepliedAs (s : Registers) (l : List ℕ) (w : ℕ) (o : List ℕ) (a : Answered) (o' : List ℕ) : Type 0 where
  pub returned : a ≡ answered_of (answer_to sha256 s l (length o - w))
  pub left : o' ≡ out_after (answer_to sha256 s l (length o - w)) o w

-- ── the end of the input ──

-- A last piece without 0A (§4.1.5): what it comes to in an output of so many bytes, which is its reply space. So an output of 194 bytes or less gets refusal 15, as any reply space of the module: nothing
-- is written, and the registers are as they were (`FinishWithoutRoom` of Program). Where nothing is held there is no line: the
-- registers are as they were, and there is no refusal, no reply and no block.
abbrev pub answer_at_end : Registers → (held : List ℕ) (room : ℕ) → Answered
answer_at_end s [] room = record { registers = s; reply = record { refused = None; length = 0; blocks = 0 } }
answer_at_end s (b ∷ l) room = answered_of (answer_to sha256 s (b ∷ l) room)

-- and the bytes of its reply
abbrev pub reply_at_end : Registers → (held : List ℕ) (room : ℕ) → List ℕ
reply_at_end s [] room = []
reply_at_end s (b ∷ l) room = reply_line (answer_to sha256 s (b ∷ l) room)

-- what `finish` promises: what it returns, and every byte of the output
pub record FinishedAs (s : Registers) (held out : List ℕ) (a : Answered) (out' : List ℕ) : Type 0 where
  pub returned : a ≡ answer_at_end s held (length out)
  pub left : out' ≡ reply_at_end s held (length out) ++ drop (length (reply_at_end s held (length out))) out
