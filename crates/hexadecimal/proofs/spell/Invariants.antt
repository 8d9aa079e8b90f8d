-- After i turns the digits of the first i bytes stand over the space; the last store is the 0A.
use Rattle.std.proofs.Common.{◌≡◌, ◌*◌}
use Rattle.seqs.specs.Over.{over}
use Rattle.hexadecimal.specs.Hex.{line_of}
use Rattle.hexadecimal.proofs.spell.Given as goal

abbrev pub invariant-loop-i : goal.invariant-loop-i
invariant-loop-i l = l.space ≡ over (2 * l.i) (line_of l.bytes) l.fn.space
