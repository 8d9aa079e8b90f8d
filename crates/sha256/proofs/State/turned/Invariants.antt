-- After four turns for each j, the variables are those of so many rounds, and the words that are due are there.
use Rattle.std.proofs.Common.{◌≡◌, ◌+◌, ◌*◌}
use Rattle.sha256.specs.Padding.{pad}
use Rattle.sha256.specs.Hash.{rounds, schedule}
use Rattle.sha256.specs.Work.{Rolling, due}
use Rattle.sha256.proofs.State.turned.Given as goal

abbrev pub invariant-loop-j : goal.invariant-loop-j
invariant-loop-j l =
    Rolling (pad l.message) l.i (due (4 * l.j)) l.ws × (l.v ≡ rounds (4 * l.j) (schedule (pad l.message) l.i 64) l.fn.self)

abbrev pub invariant-loop-t : goal.invariant-loop-t
invariant-loop-t l =
    Rolling (pad l.message) l.i (due (4 * l.j + 4)) l.ws × (l.v ≡ rounds l.t (schedule (pad l.message) l.i 64) l.fn.self)
