use Rattle.std.proofs.Common.{◌≡◌, ◌∙◌, arith, ◌+◌, ◌≤◌, length, drop}
use borrow.Author.Tests.{lt-ltb}
use Rattle.pieces.specs.declared.Cut.{Cut}
use Rattle.pieces.proofs.Laws.{stays, Tells, call_tells}
use Rattle.module.proofs.Laws.{taken}
use Rattle.session.specs.Serving.{serving}
use Rattle.session.proofs.Laws.{reply_fits, told, turn_line, turn_more}
use Rattle.session.proofs.serve.Goals as goal
use Rattle.session.proofs.serve.Goals.{After-next_line, After-reply_at-a}

-- behind a call of `next_line`: what the call tells
tells : (c : After-next_line) (s : Cut) → c.next_line.result ≡ s
    → Tells c.args.piece.now c.loop-served.line c.next_line.new.line c.loop-served.served.next c.loop-served.served.held s
tells c s e =
    let k = c.loop-served in
    call_tells c.args.piece.now k.line _ k.served.next k.served.held c.next_line.ensures.line_after (omega arith)
    k.invariant.held c.next_line.result c.next_line.ensures.value s e

-- behind a reply: it fits the output
fits : (r : After-reply_at-a) → r.loop-served.served.filled + r.reply_at-a.result.reply.length ≤ length r.loop-served.out
fits r =
    let k = r.loop-served in
    let t = r.reply_at-a in
    reply_fits k.served.registers _ k.out k.served.filled t.result _ t.ensures k.invariant.filled t.auto.out

pub slice_bounds-reply_at-end : goal.slice_bounds-reply_at-end
slice_bounds-reply_at-end c =
    let w = tells (goal.at.slice_bounds-reply_at-end c).After-next_line _ c.in-Line.is in
    omega (arith, c.next_line.auto.line)

pub slice_bounds-reply_at-end-in-Line : goal.slice_bounds-reply_at-end-in-Line
slice_bounds-reply_at-end-in-Line c =
    let w = tells (goal.at.slice_bounds-reply_at-end-in-Line c).After-next_line _ c.in-Line.is in
    taken _ _ (omega (arith, c.next_line.auto.line))

pub loop-served-smaller-in-Line : goal.loop-served-smaller-in-Line
loop-served-smaller-in-Line c =
    let w = tells (goal.at.loop-served-smaller-in-Line c).After-next_line _ c.in-Line.is in
    omega (arith, c.loop-served-test.true)

pub loop-served-preserved-in-Line : goal.loop-served-preserved-in-Line
loop-served-preserved-in-Line c =
    let k = c.loop-served in
    let f = fits (goal.at.loop-served-preserved-in-Line c).After-reply_at-a in
    let w = tells (goal.at.loop-served-preserved-in-Line c).After-next_line _ c.in-Line.is in
    record {
      held = omega arith;
      line = c.next_line.auto.line ∙ k.invariant.line;
      filled = omega (arith, c.reply_at-a.auto.out);
      out = c.reply_at-a.auto.out ∙ k.invariant.out;
      comes_to = turn_line _ c.args.piece.now k.line k.out k.served.registers k.served.next k.served.held k.served.filled
          k.invariant.comes_to c.if-out-served-ge-REPLY_ROOM.true _ _ _ c.reply_at-a.result _ w.0 c.reply_at-a.ensures;
    }

pub loop-served-preserved : goal.loop-served-preserved
loop-served-preserved c =
    let k = c.loop-served in
    let w = tells (goal.at.loop-served-preserved c).After-next_line _ c.in-More.is in
    record {
      held = omega (arith, c.next_line.auto.line);
      line = c.next_line.auto.line ∙ k.invariant.line;
      filled = k.invariant.filled;
      out = k.invariant.out;
      comes_to = turn_more _ c.args.piece.now k.line k.out k.served.registers k.served.next k.served.held k.served.filled
          k.invariant.comes_to c.if-out-served-ge-REPLY_ROOM.true _ _ w.0;
    }

pub returns-else-out-served-ge-REPLY_ROOM : goal.returns-else-out-served-ge-REPLY_ROOM
returns-else-out-served-ge-REPLY_ROOM c =
    let k = c.loop-served in
    told _ _ _ _ _ _ _
    (k.invariant.comes_to ∙ stays serving (drop k.served.next c.args.piece.now) _ (lt-ltb _ _ c.if-out-served-ge-REPLY_ROOM.false))
