-- At each turn what is left of both is compared.
use Rattle.std.proofs.Common.{◌≡◌, length, take, drop}
use Rattle.seqs.specs.Bytes.{same}
use Rattle.hexadecimal.specs.Hex.{bytes_of}
use Rattle.hearing.proofs.same_front.Given as goal

abbrev pub invariant-loop-i : goal.invariant-loop-i
invariant-loop-i l =
    same (take (length l.known) (bytes_of l.reply)) l.known ≡ same (drop l.i (take (length l.known) (bytes_of l.reply))) (drop l.i l.known)
