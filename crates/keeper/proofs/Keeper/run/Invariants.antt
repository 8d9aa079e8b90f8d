-- What is held is in the line's space.
use Rattle.std.proofs.Common.{length, ◌≤◌}
use Rattle.keeper.proofs.Keeper.run.Given as goal

abbrev pub invariant-loop : goal.invariant-loop
invariant-loop l = l.held ≤ length l.line
