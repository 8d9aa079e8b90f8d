use Rattle.std.proofs.Common.{◌≡◌, ℕ, ◌+◌, ◌-◌, ◌/◌, sym, ap, ◌∙◌, arith}
use Rattle.seqs.specs.Over.{put_at}
use Rattle.slots.specs.Nodes.{sibling_at, siblings_put}
use Rattle.slots.proofs.Turns.{start, put_next, ended, put_past}
use Rattle.slots.proofs.put_siblings.Goals as goal

pub loop-init : goal.loop-init
loop-init c =
    let a = c.args in
    ap (λ (n : ℕ). siblings_put a.nodes.now n a.v a.at a.frame.now) (start a.levels)

pub returns-then-frame-p : goal.returns-then-frame-p
returns-then-frame-p c =
    let a = c.args in
    let k = c.loop in
    sym (k.invariant ∙ put_past a.nodes.now (a.levels - k.counter) k.u k.p k.frame c.if-frame-p.true)

pub loop-preserved : goal.loop-preserved
loop-preserved c =
    let a = c.args in
    let k = c.loop in
    let m = a.nodes.now in
    let e : c.put.new.buffer ≡ put_at k.frame k.p (sibling_at m k.u) = c.put.ensures ∙ ap (put_at k.frame k.p) c.sibling.ensures in
    k.invariant ∙ put_next m a.levels k.counter k.u k.p k.frame (omega arith)
    ∙ ap (siblings_put m (a.levels - (k.counter + 1)) (k.u / 2) (k.p + 32)) (sym e)

pub returns : goal.returns
returns c =
    let a = c.args in
    let k = c.loop in
    sym (k.invariant ∙ ap (λ (n : ℕ). siblings_put a.nodes.now n k.u k.p k.frame) (ended a.levels k.counter (omega arith)))
