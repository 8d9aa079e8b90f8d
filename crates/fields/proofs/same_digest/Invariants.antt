-- The digests are the same exactly where no bit that differs was gathered and the rest is the same.
use Rattle.std.proofs.Common.{◌≡◌, drop}
use lib.Dec.{eqb}
use Rattle.seqs.specs.Bytes.{same}
use Rattle.seqs.specs.Choose.{both}
use Rattle.fields.proofs.same_digest.Given as goal

abbrev pub invariant-loop-at : goal.invariant-loop-at
invariant-loop-at l = same l.a l.b ≡ both (eqb l.differ 0) (same (drop l.at l.a) (drop l.at l.b))
