-- What the program's functions ask of each other and promise each other: the bytes that may be written, the states that a call
-- may start from, and what the loop over a piece of input hands on.
-- Of the bytes that a call of the system writes no contract can speak: what is demanded here of the caller stands for that.
use Rattle.std.specs.Prelude.{◌≡◌, List, ℕ, ◌<◌, ◌≤◌, length}
use Rattle.pieces.specs.Feeding.{feed_bytes}
use Rattle.pieces.specs.Whole.{ended_in}
use Rattle.paper.specs.declared.Registers.{Registers}
use Rattle.paper.specs.Strings.{nought}
use Rattle.paper.specs.Module.{unopened}
use Rattle.session.specs.Replies.{replies_to, registers_behind}
use Rattle.session.specs.Serving.{session_with, carrying}
use Rattle.knotcinder.specs.declared.Left.{Left}

-- ── what may be written ──

-- Registers that some lines lead to from a module that nobody has opened.
pub record ReachedByLines (s : Registers) : Type 0 where
  pub lines : List (List ℕ)
  pub after : s ≡ registers_behind (unopened nought) lines

-- A session stands at registers s with the bytes `held` of a line, and went through the bytes `part` of its input behind these:
-- then b is due, exactly the replies to the lines that end in the part, each on the registers that the one before it left.
-- So there is one b that may be written, and it is empty only where no line ends in the part. The part is not empty.
pub record Due (s : Registers) (held part b : List ℕ) : Type 0 where
  pub reached : ReachedByLines s
  pub onward : 0 < length part
  pub bytes : b ≡ replies_to s (ended_in held part)

-- ── where a call may start from ──

-- A session can stand at registers s with n bytes of a line held in d: some input leads there, from a module that nobody has opened
-- and with nothing held in some space.
pub record Standing (s : Registers) (d : List ℕ) (n : ℕ) : Type 0 where
  pub input : List ℕ
  pub space : List ℕ
  pub leads : feed_bytes carrying input (session_with (unopened nought) space 0) ≡ session_with s d n

-- ── a piece ──

-- The piece p was gone through from registers s, with n bytes of a line held in d, and its replies were written: the
-- registers, the line's space and what is held of it are those of a session that took the piece.
pub record Through (s : Registers) (p d : List ℕ) (n : ℕ) (o : Left) (d' : List ℕ) : Type 0 where
  pub fits : o.held ≤ length d
  pub came : session_with o.registers d' o.held ≡ feed_bytes carrying p (session_with s d n)
