-- None of the leaves passed over is what is sought.
use Rattle.rows.specs.Rows.{passing}
use Rattle.rows.proofs.Finding.{NonePass}
use Rattle.rows.proofs.find.Given as goal

abbrev pub invariant-loop-i : goal.invariant-loop-i
invariant-loop-i l = NonePass (passing l.by l.a.0) l.leaves l.i
