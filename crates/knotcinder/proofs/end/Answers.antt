-- What is to be written stands in the output, and is the reply to what is held, as if 0A followed.
use Rattle.std.proofs.Common.{◌<◌, arith, length, take}
use Rattle.std.proofs.Math.Seq.{length-take-le}
use Rattle.session.proofs.Whole.{finish_bytes}
use Rattle.knotcinder.proofs.Laws.{standing_reached, due_last}
use Rattle.knotcinder.proofs.end.Goals as goal

pub say-requires : goal.say-requires
say-requires c =
    let a = c.args in
    let r = c.requires in
    let held = take a.left.held a.line.now in
    let some : 0 < length held = omega (arith, length-take-le a.left.held a.line.now r.held_in_bounds.0, c.if-left-eq0.false) in
    due_last (standing_reached r.standing) held _ c.finish-a.result.reply.length some
    (finish_bytes a.left.registers held a.out.now c.finish-a.result _ c.finish-a.ensures r.held_in_bounds.2)
