use Rattle.std.proofs.Common.{ℕ, ◌+◌, ◌-◌, ◌/◌, sym, ap, ◌∙◌, arith}
use Rattle.sha256.specs.Hash.{sha256}
use Rattle.slots.specs.Nodes.{climbed}
use Rattle.slots.proofs.Turns.{start, climb_next, ended}
use Rattle.slots.proofs.climb.Goals as goal

pub loop-init : goal.loop-init
loop-init c =
    let a = c.args in
    ap (λ (n : ℕ). climbed sha256 a.nodes.now n a.v a.x) (start a.levels)

pub loop-preserved : goal.loop-preserved
loop-preserved c =
    let a = c.args in
    let k = c.loop in
    k.invariant ∙ climb_next sha256 a.nodes.now a.levels k.counter k.u k.y (omega arith)
    ∙ ap (climbed sha256 a.nodes.now (a.levels - (k.counter + 1)) (k.u / 2)) (sym c.step_up-z.ensures)

pub returns : goal.returns
returns c =
    let a = c.args in
    let k = c.loop in
    sym (k.invariant ∙ ap (λ (n : ℕ). climbed sha256 a.nodes.now n k.u k.y) (ended a.levels k.counter (omega arith)))
