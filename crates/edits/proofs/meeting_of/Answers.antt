use Rattle.std.proofs.Common.{◌≡◌, ℕ, ◌-◌, ap, ◌∙◌, arith}
use Rattle.slots.specs.Nodes.{meeting}
use Rattle.slots.proofs.Turns.{start, ended}
use Rattle.edits.proofs.Turns.{meeting_here, meeting_next}
use Rattle.edits.proofs.meeting_of.Goals as goal

pub loop-k-init : goal.loop-k-init
loop-k-init c = ap (λ (n : ℕ). meeting n c.args.u c.args.v) (start c.args.most) ∙ omega arith

pub returns-then-p-q : goal.returns-then-p-q
returns-then-p-q c =
    let k = c.loop-k in
    omega (arith, meeting_here c.args.most k.k k.p k.q (omega arith) c.if-p-q.true)

pub loop-k-preserved : goal.loop-k-preserved
loop-k-preserved c =
    let k = c.loop-k in
    omega (arith, meeting_next c.args.most k.k k.p k.q (omega arith) c.if-p-q.false)

pub returns : goal.returns
returns c =
    let k = c.loop-k in
    let none : meeting (c.args.most - k.k) k.p k.q ≡ 0 =
    ap (λ (n : ℕ). meeting n k.p k.q) (ended c.args.most k.k (omega arith)) in
    omega arith
