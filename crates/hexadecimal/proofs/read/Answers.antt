-- By whether the space has room.
use Rattle.std.proofs.Common.{◌/◌, length, sym, ◌∙◌, arith}
use Rattle.seqs.specs.Over.{written_fits, written_not}
use Rattle.hexadecimal.proofs.Laws.{bytes_length}
use Rattle.hexadecimal.proofs.read.Goals as goal

pub returns-then-space-line-clause-space_after : goal.returns-then-space-line-clause-space_after
returns-then-space-line-clause-space_after c =
    let l = c.args.line.now in
    sym (written_not _ c.args.space.now (length l / 2) (bytes_length l) (omega arith))

pub returns-clause-space_after : goal.returns-clause-space_after
returns-clause-space_after c =
    let l = c.args.line.now in
    c.fill.ensures ∙ sym (written_fits _ c.args.space.now (length l / 2) (bytes_length l) (omega arith))
