-- What a program writes that is given its input in pieces and calls `serve` and `finish`; and the law of it.
-- The definitions follow the program's loop (`run` and `serve_piece` of `knotcinder`), each call being what the contract of
-- `serve` or `finish` says: there is one thing that it can return, and one thing that it can leave in each space.
use Rattle.std.specs.Prelude.{◌≡◌, Some, ℕ, zero, suc, ◌*◌, ◌<◌, ◌≤◌, ltb, length, take, drop}
use mathlib.Core.List.{List, [], ◌∷◌, ◌++◌, flatten}
use Rattle.seqs.specs.Choose.{pick}
use Rattle.pieces.specs.Cutting.{line_held}
use Rattle.pieces.specs.Whole.{input_lines}
use Rattle.paper.specs.declared.Registers.{Registers}
use Rattle.paper.specs.Refusals.{longest_frame, reply_room}
use Rattle.module.specs.declared.Answered.{Answered}
use Rattle.session.specs.declared.Served.{Served}
use Rattle.session.specs.Replies.{replies_to}
use Rattle.session.specs.Serving.{SessionAt, session_with, Stand, served_of, ServedAs, reply_at_end, FinishedAs}

-- Where the program stands: in its input, the output, and all that it wrote.
pub record Progress : Type 0 where
  pub session : SessionAt
  pub out : List ℕ
  pub wrote : List ℕ

-- a call of `serve` came to u, and its replies were written
abbrev pub wrote_on : Progress → Stand → Progress
wrote_on t u = record { session = u.session; out = u.out; wrote = t.wrote ++ take u.filled u.out }

-- A piece p from place `at` on: while there are bytes left, `serve` is called, the replies in the output are written,
-- and it goes on from the place where the call stopped. There are at most k calls.
abbrev pub piece_from : (k : ℕ) (p : List ℕ) (at : ℕ) → Progress → Progress
piece_from zero p at t = t
piece_from (suc k) p at t =
    let u = served_of t.session.registers p at t.session.held.space t.session.held.count t.out in
    pick (ltb at (length p)) (piece_from k p u.next (wrote_on t u)) t

-- a whole piece: each call takes a byte of it or more, so that it has no more calls than bytes
abbrev pub piece_of : (p : List ℕ) → Progress → Progress
piece_of p t = piece_from (length p) p 0 t

-- the end of the input: what `finish` leaves at the front of the output is written
abbrev pub wrote_at_end : Progress → List ℕ
wrote_at_end t =
    let reply = reply_at_end t.session.registers (line_held t.session.held) (length t.out) in
    t.wrote ++ take (length reply) (reply ++ drop (length reply) t.out)

-- all that is written for pieces; and for a whole input in pieces, from registers s
abbrev pub wrote_for : List (List ℕ) → Progress → List ℕ
wrote_for [] t = wrote_at_end t
wrote_for (p ∷ ps) t = wrote_for ps (piece_of p t)

abbrev pub written_for : List (List ℕ) → Registers → (line out : List ℕ) → List ℕ
written_for ps s d o = wrote_for ps (record { session = session_with s d 0; out = o; wrote = [] })

-- ── the statements ──

-- The law (§4.1.6, §8.1.1): however the input is cut into pieces, what is written is the replies to the lines of the whole input, one for
-- each. The line's space has a byte more than the longest line, the output has room for a reply or more, and
-- neither what they hold at first nor how large they are beyond that shows.
abbrev pub WholeInput : Type 0
WholeInput = (ps : List (List ℕ)) (s : Registers) (line out : List ℕ)
    → 2 * longest_frame < length line → reply_room ≤ length out
    → written_for ps s line out ≡ replies_to s (input_lines (flatten ps))

-- §8.4.2: two outcomes that the contract of `serve`, or of `finish`, allows are equal
abbrev pub OneServing : Type 0
OneServing = (t : Stand) (r r' : Served) (line line' out out' : List ℕ) → ServedAs t r line out → ServedAs t r' line' out'
    → (r ≡ r') × (line ≡ line') × (out ≡ out')

abbrev pub OneFinish : Type 0
OneFinish = (s : Registers) (held out : List ℕ) (a a' : Answered) (o o' : List ℕ)
    → FinishedAs s held out a o → FinishedAs s held out a' o' → (a ≡ a') × (o ≡ o')

-- `finish` with something held and an output of 194 bytes or less: refusal 15, nothing changed and nothing written
abbrev pub FinishWithoutRoom : Type 0
FinishWithoutRoom = (s : Registers) (b : ℕ) (l out : List ℕ) (a : Answered) (o : List ℕ) → length out < reply_room
    → FinishedAs s (b ∷ l) out a o
    → (a ≡ record { registers = s; reply = record { refused = Some 15; length = 0; blocks = 0 } }) × (o ≡ out)
