-- Each cuts a line and answers it behind the replies so far, or uses the piece up; what the whole comes to is
-- what serving the rest comes to from where the turn left it.
use Rattle.std.proofs.Common.{◌≡◌, ◌-◌, ◌≤◌, length, drop}
use Rattle.pieces.specs.Feeding.{feed_bytes}
use Rattle.session.specs.Serving.{serving, served_of}
use Rattle.session.proofs.Laws.{standing_at}
use Rattle.session.proofs.serve.Given as goal

abbrev pub invariant-loop-served : goal.invariant-loop-served
invariant-loop-served l =
    record {
      held : l.served.held ≤ length l.line;
      line : length l.line ≡ length l.initial.line;
      filled : l.served.filled ≤ length l.out;
      out : length l.out ≡ length l.initial.out;
      comes_to : served_of l.fn.r l.piece l.fn.at l.initial.line l.fn.held l.initial.out
          ≡ feed_bytes serving (drop l.served.next l.piece)
          (standing_at l.served.registers l.served.next l.line l.served.held l.out l.served.filled);
    }

abbrev pub decreases-loop-served : goal.decreases-loop-served
decreases-loop-served l = length l.piece - l.served.next
