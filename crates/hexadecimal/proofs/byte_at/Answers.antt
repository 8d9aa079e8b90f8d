-- A byte is its two digits' values together, and 0 past the last.
use Rattle.std.proofs.Common.{◌+◌, ◌*◌, get_or, sym, arith}
use Rattle.hexadecimal.proofs.Laws.{value_small, bytes_at_lem, bytes_past}
use Rattle.hexadecimal.proofs.byte_at.Goals as goal

pub returns-then-line-i : goal.returns-then-line-i
returns-then-line-i c = sym (bytes_past c.args.line.now c.args.i c.if-line-i.true)

pub overflow_mul-result : goal.overflow_mul-result
overflow_mul-result c = omega (arith, value_small (get_or c.args.line.now (2 * c.args.i) 0))

pub overflow_add-result : goal.overflow_add-result
overflow_add-result c =
    let a = c.args in
    omega (arith, value_small (get_or a.line.now (2 * a.i) 0), value_small (get_or a.line.now (2 * a.i + 1) 0))

pub returns : goal.returns
returns c = omega (arith, bytes_at_lem c.args.line.now c.args.i (omega arith))
