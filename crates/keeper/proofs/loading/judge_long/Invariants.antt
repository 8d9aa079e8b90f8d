-- The bytes read are in the buffer.
use Rattle.std.proofs.Common.{length, ◌≤◌}
use Rattle.keeper.proofs.loading.judge_long.Given as goal

abbrev pub invariant-loop : goal.invariant-loop
invariant-loop l = l.m ≤ length l.more
