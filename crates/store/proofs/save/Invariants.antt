-- After i turns the text of the first i leaves stands over the front of the space.
use mathlib.Core.Path.{◌≡◌}
use Prim.Native.Nat.{◌*◌, ◌≤◌}
use lib.ListN.{length}
use Rattle.seqs.specs.Over.{Front}
use Rattle.rows.specs.Rows.{rows_from}
use Rattle.store.specs.Texts.{text_of}
use Rattle.store.proofs.save.Given as goal

abbrev pub invariant-loop-i : goal.invariant-loop-i
invariant-loop-i l =
    (length l.space ≡ length l.initial.space) × (97 * l.k ≤ length l.initial.space)
    × Front l.initial.space l.space (text_of (rows_from l.leaves l.i 0)) (97 * l.i)
