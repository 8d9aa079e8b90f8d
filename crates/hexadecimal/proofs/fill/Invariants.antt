-- After i turns the first i bytes stand over the space.
use Rattle.std.proofs.Common.{◌≡◌}
use Rattle.seqs.specs.Over.{over}
use Rattle.hexadecimal.specs.Hex.{bytes_of}
use Rattle.hexadecimal.proofs.fill.Given as goal

abbrev pub invariant-loop-i : goal.invariant-loop-i
invariant-loop-i l = l.space ≡ over l.i (bytes_of l.line) l.fn.space
