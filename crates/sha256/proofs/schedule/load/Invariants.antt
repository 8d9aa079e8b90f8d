-- The words before word t are there, and each turn puts one more.
use Rattle.sha256.specs.Padding.{pad}
use Rattle.sha256.specs.Work.{Rolling}
use Rattle.sha256.proofs.schedule.load.Given as goal

abbrev pub invariant-loop-t : goal.invariant-loop-t
invariant-loop-t l = Rolling (pad l.message) l.i l.t l.ws
