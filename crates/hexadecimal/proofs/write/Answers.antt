-- By whether the space has room: twice the bytes, and one more.
use Rattle.std.proofs.Common.{◌+◌, ◌*◌, length, sym, ◌∙◌, arith}
use Rattle.seqs.specs.Over.{written_fits, written_not}
use Rattle.hexadecimal.proofs.Laws.{line_length}
use Rattle.hexadecimal.proofs.write.Goals as goal

pub returns-then-div_ceil-bytes-clause-space_after : goal.returns-then-div_ceil-bytes-clause-space_after
returns-then-div_ceil-bytes-clause-space_after c =
    let f = c.args.bytes.now in
    sym (written_not _ c.args.space.now (2 * length f + 1) (line_length f) (omega arith))

pub returns-clause-space_after : goal.returns-clause-space_after
returns-clause-space_after c =
    let f = c.args.bytes.now in
    c.spell.ensures ∙ sym (written_fits _ c.args.space.now (2 * length f + 1) (line_length f) (omega arith))
