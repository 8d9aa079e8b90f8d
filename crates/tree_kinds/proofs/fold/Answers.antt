-- One level more.
use Rattle.std.proofs.Common.{refl, ◌∙◌, arith}
use Rattle.digests.proofs.Fit.{blocks_of}
use Rattle.tree_kinds.proofs.PathLaws.{up_next, forms_next}
use Rattle.tree_kinds.proofs.fold.Goals as goal

pub loop-sibling-preserved : goal.loop-sibling-preserved
loop-sibling-preserved c =
    let k = c.loop-sibling in
    let l = c.args.siblings.now in
    let e = c.level-node.ensures.is in (
      omega (arith, blocks_of e, c.level-node.ensures.few),
      k.invariant.1 ∙ up_next k.up.bytes k.bits l k.sibling-index _ refl c.loop-sibling-test.true c.level-node.result e,
      forms_next k.up.bytes k.bits l k.sibling-index _ refl c.loop-sibling-test.true c.level-node.result e k.up.blocks _ k.invariant.2,
    )
