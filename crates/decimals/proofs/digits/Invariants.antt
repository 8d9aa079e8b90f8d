-- After some turns as many digits are read, and are n.
use Rattle.std.proofs.Common.{◌^◌, ◌<◌}
use Rattle.decimals.proofs.Decimals.{Read}
use Rattle.decimals.proofs.digits.Given as goal

abbrev pub invariant-loop-c : goal.invariant-loop-c
invariant-loop-c l = (l.n < 2 ^ 64) × Read l.s l.c-index l.n
