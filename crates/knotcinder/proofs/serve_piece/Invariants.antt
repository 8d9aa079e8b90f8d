-- Each turn serves the rest of the piece from where the last one stopped, and goes on in it; the registers and the line's space are
-- those of a session that took the piece so far; and what a turn writes is the replies to the lines that end in its part.
use Rattle.std.proofs.Common.{◌≡◌, ◌-◌, ◌<◌, ◌≤◌, length, take}
use Rattle.pieces.specs.Feeding.{feed_bytes}
use Rattle.paper.specs.Refusals.{longest_line, reply_room}
use Rattle.session.specs.Serving.{session_with, carrying}
use Rattle.knotcinder.specs.Loop.{ReachedByLines}
use Rattle.knotcinder.proofs.serve_piece.Given as goal

abbrev pub invariant-loop-at : goal.invariant-loop-at
invariant-loop-at l =
    record {
      line : length l.line ≡ length l.initial.line;
      longer : longest_line < length l.line;
      kept : length l.kept ≡ length l.initial.kept;
      keeps : length l.line ≤ length l.kept;
      out : length l.out ≡ length l.initial.out;
      room : reply_room ≤ length l.out;
      held : l.left.held ≤ length l.line;
      came : session_with l.left.registers l.line l.left.held
          ≡ feed_bytes carrying (take l.at l.piece) (session_with l.initial.left.registers l.initial.line l.initial.left.held);
      reached : ReachedByLines l.left.registers;
    }

abbrev pub decreases-loop-at : goal.decreases-loop-at
decreases-loop-at l = length l.piece - l.at
