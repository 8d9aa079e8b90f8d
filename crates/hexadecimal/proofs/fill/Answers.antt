use Rattle.std.proofs.Common.{◌≡◌, ◌/◌, length, ◌∙◌, arith}
use Rattle.seqs.specs.Over.{over_next, over_all}
use Rattle.hexadecimal.specs.Hex.{bytes_of}
use Rattle.hexadecimal.proofs.Laws.{bytes_length}
use Rattle.hexadecimal.proofs.fill.Goals as goal

pub loop-i-preserved : goal.loop-i-preserved
loop-i-preserved c =
    let l = c.args.line.now in
    let k = c.loop-i in
    over_next k.i (bytes_of l) c.args.space.now k.space c.byte_at.result 0 k.invariant c.byte_at.ensures
    (omega (arith, bytes_length l)) (omega arith)

pub returns : goal.returns
returns c =
    let l = c.args.line.now in
    let k = c.loop-i in
    let e : k.i ≡ length l / 2 = omega arith in
    k.invariant ∙ rw e (over_all (length l / 2) (bytes_of l) c.args.space.now (bytes_length l))
