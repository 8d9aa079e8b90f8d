-- The piece at hand fits the input's buffer, and the spaces keep their lengths.
use Rattle.std.proofs.Common.{◌≡◌, ◌≤◌, length}
use Rattle.trace.proofs.run.Given as goal

abbrev pub invariant-loop : goal.invariant-loop
invariant-loop l =
    record {
      piece : l.size ≤ length l.input;
      input : length l.input ≡ length l.initial.input;
      line : length l.line ≡ length l.initial.line;
    }
