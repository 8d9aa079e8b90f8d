-- After i turns the first i bytes of the last 32 stand in the array.
use Rattle.std.proofs.Common.{◌≡◌, replicate}
use Rattle.seqs.specs.Bytes.{digest_at}
use Rattle.seqs.specs.Over.{over}
use Rattle.hexadecimal.specs.Hex.{bytes_of}
use Rattle.hearing.proofs.memo_in.Given as goal

abbrev pub invariant-loop-i : goal.invariant-loop-i
invariant-loop-i l = l.out ≡ over l.i (digest_at (bytes_of l.reply) l.at) (replicate 32 0)
