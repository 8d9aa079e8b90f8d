-- A session stands where a turn starts: at first with nothing held, then behind the piece that the turn before went through.
-- What is held fits the line's space, and the spaces keep their lengths.
use Rattle.std.proofs.Common.{◌≡◌, ◌<◌, ◌≤◌, length}
use Rattle.paper.specs.Refusals.{longest_line, reply_room}
use Rattle.knotcinder.specs.Loop.{Standing}
use Rattle.knotcinder.proofs.run.Given as goal

abbrev pub invariant-loop : goal.invariant-loop
invariant-loop l =
    record {
      held : l.left.held ≤ length l.line;
      longer : longest_line < length l.line;
      keeps : length l.line ≤ length l.kept;
      room : reply_room ≤ length l.out;
      input : length l.input ≡ length l.initial.input;
      line : length l.line ≡ length l.initial.line;
      kept : length l.kept ≡ length l.initial.kept;
      out : length l.out ≡ length l.initial.out;
      standing : Standing l.left.registers l.line l.left.held;
    }
