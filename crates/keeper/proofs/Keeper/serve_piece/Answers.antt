use Rattle.std.proofs.Common.{◌≡◌, arith, length-take}
use Rattle.pieces.specs.declared.Cut.{Cut}
use Rattle.pieces.proofs.Laws.{Tells, call_tells}
use Rattle.keeper.proofs.Keeper.serve_piece.Goals as goal
use Rattle.keeper.proofs.Keeper.serve_piece.Goals.{After-next_line}

-- behind a call of `next_line`: what it tells
tells : (c : After-next_line) (s : Cut) → c.next_line.result ≡ s
    → Tells c.args.piece.now c.loop-at.line c.next_line.new.line c.loop-at.at c.loop-at.n s
tells c s e =
    call_tells c.args.piece.now c.loop-at.line _ c.loop-at.at c.loop-at.n c.next_line.ensures.line_after (omega (arith, c.loop-at-test.true))
    c.loop-at.invariant c.next_line.result c.next_line.ensures.value s e

pub slice_bounds-answer-end : goal.slice_bounds-answer-end
slice_bounds-answer-end c =
    let w = tells (goal.at.slice_bounds-answer-end c).After-next_line _ c.in-Line.is in
    omega (arith, c.next_line.auto.line)

pub slice_bounds-answer-end-in-Line : goal.slice_bounds-answer-end-in-Line
slice_bounds-answer-end-in-Line c =
    let w = tells (goal.at.slice_bounds-answer-end-in-Line c).After-next_line _ c.in-Line.is in
    simp length-take (omega (arith, c.next_line.auto.line))

pub loop-at-smaller-in-Line : goal.loop-at-smaller-in-Line
loop-at-smaller-in-Line c =
    let w = tells (goal.at.loop-at-smaller-in-Line c).After-next_line _ c.in-Line.is in
    omega (arith, c.loop-at-test.true)

pub loop-at-preserved : goal.loop-at-preserved
loop-at-preserved c =
    let w = tells (goal.at.loop-at-preserved c).After-next_line _ c.in-More.is in
    omega (arith, c.next_line.auto.line)
