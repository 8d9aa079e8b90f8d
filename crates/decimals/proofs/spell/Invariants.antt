-- At place i the digits behind it are there, and those of the rest come in front.
use Prim.Native.Nat.{◌<◌}
use Rattle.decimals.proofs.Spelling.{Spelled}
use Rattle.decimals.proofs.spell.Given as goal

abbrev pub invariant-loop-rest : goal.invariant-loop-rest
invariant-loop-rest l = (l.from < 20) × Spelled l.n l.bytes l.from l.rest

abbrev pub decreases-loop-rest : goal.decreases-loop-rest
decreases-loop-rest l = l.from
