-- Behind the first sixteen, the words before word k are due and there.
use Rattle.std.proofs.Common.{ℕ, List}
use Rattle.sha256.specs.Work.{Rolling}
use Rattle.sha256.proofs.schedule.roll_four.Given as goal

abbrev pub invariant-loop-k : goal.invariant-loop-k
invariant-loop-k l = (p : List ℕ) (i : ℕ) → Rolling p i l.fn.t l.fn.ws → Rolling p i l.k l.ws
