-- What is held is in the line's space.
use Rattle.std.proofs.Common.{length, ◌-◌, ◌≤◌}
use Rattle.keeper.proofs.Keeper.serve_piece.Given as goal

abbrev pub invariant-loop-at : goal.invariant-loop-at
invariant-loop-at l = l.n ≤ length l.line

abbrev pub decreases-loop-at : goal.decreases-loop-at
decreases-loop-at l = length l.piece - l.at
