use Rattle.std.proofs.Common.{arith}
use Rattle.sha256.proofs.Scheduling.{loaded, none_due}
use Rattle.sha256.proofs.schedule.load.Goals as goal

pub loop-t-init : goal.loop-t-init
loop-t-init c = none_due _ _ _ c.told-ws

pub loop-t-preserved : goal.loop-t-preserved
loop-t-preserved c = loaded _ _ _ _ c.loop-t.invariant _ (omega arith) c.word_at.ensures
