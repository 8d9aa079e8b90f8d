use Rattle.std.proofs.Common.{ℕ, sym, ap, ◌∙◌, arith}
use Rattle.sha256.specs.Hash.{sha256}
use Rattle.slots.specs.Nodes.{rehashed}
use Rattle.slots.proofs.Turns.{start, rehash_turn, ended}
use Rattle.slots.proofs.rehash.Goals as goal

pub loop-init : goal.loop-init
loop-init c =
    let a = c.args in
    (omega arith, ap (λ (n : ℕ). rehashed sha256 n a.v a.nodes.now) (start a.levels))

pub loop-preserved : goal.loop-preserved
loop-preserved c =
    let k = c.loop in (
      omega arith,
      k.invariant.1
          ∙ rehash_turn c.args.levels k.counter k.u k.nodes _ _ _ c.parent-d.result (omega arith) c.node_at.ensures c.node_at-in-loop.ensures
          c.parent-d.ensures c.put_node.ensures,
    )

pub returns : goal.returns
returns c =
    let a = c.args in
    let k = c.loop in
    sym (k.invariant.1 ∙ ap (λ (n : ℕ). rehashed sha256 n k.u k.nodes) (ended a.levels k.counter (omega arith)))
