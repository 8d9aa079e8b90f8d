-- After i blocks the hash value is that of the definition.
use Rattle.std.proofs.Common.{◌≡◌}
use Rattle.sha256.specs.Padding.{pad}
use Rattle.sha256.specs.Hash.{hash}
use Rattle.sha256.proofs.digest.Given as goal

abbrev pub invariant-loop-i : goal.invariant-loop-i
invariant-loop-i l = l.s ≡ hash (pad l.message) l.i
