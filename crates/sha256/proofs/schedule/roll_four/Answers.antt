-- Nothing is due among the first sixteen; behind them four words are put, one after the other.
use Rattle.std.proofs.Common.{◌≡◌, ◌+◌, arith}
use Rattle.sha256.specs.Work.{due}
use Rattle.sha256.proofs.Scheduling.{renumbered}
use Rattle.sha256.proofs.schedule.roll_four.Goals as goal

pub loop-k-preserved : goal.loop-k-preserved
loop-k-preserved c p i r = c.roll.ensures p i (c.loop-k.invariant p i r)

pub returns : goal.returns
returns c p i r =
    let t = c.args.t in
    let from : due t ≡ t = omega arith in
    let to : c.loop-k.k ≡ due (t + 4) = omega arith in
    renumbered to (c.loop-k.invariant p i (renumbered from r))
