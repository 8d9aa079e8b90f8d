use Rattle.std.proofs.Common.{ℕ, ap, sym, ◌∙◌, arith}
use Rattle.slots.specs.Nodes.{ancestor}
use Rattle.slots.proofs.Turns.{start, ended}
use Rattle.edits.proofs.Turns.{ancestor_next}
use Rattle.edits.proofs.ancestor_of.Goals as goal

pub loop-init : goal.loop-init
loop-init c = ap (λ (n : ℕ). ancestor n c.args.v) (start c.args.levels)

pub loop-preserved : goal.loop-preserved
loop-preserved c = c.loop.invariant ∙ ancestor_next c.args.levels c.loop.counter c.loop.u (omega arith)

pub returns : goal.returns
returns c =
    let k = c.loop in
    sym (k.invariant ∙ ap (λ (n : ℕ). ancestor n k.u) (ended c.args.levels k.counter (omega arith)))
