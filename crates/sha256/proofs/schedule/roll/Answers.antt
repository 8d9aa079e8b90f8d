-- The four words that the next one is made of are still there, each at its place.
use Rattle.sha256.specs.Work.{rolled}
use Rattle.sha256.proofs.Scheduling.{over}
use Rattle.sha256.proofs.schedule.roll.Goals as goal

pub returns : goal.returns
unfolding rolled
returns c p i r =
    let start = c in
    let a = start.args in
    over p i a.ws.now a.t r c.next.result start.requires.0 start.requires.1 c.next.ensures
