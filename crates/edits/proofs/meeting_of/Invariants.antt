-- So many levels were passed on which the two still stand apart.
use Rattle.std.proofs.Common.{◌≡◌, ◌+◌, ◌-◌}
use Rattle.slots.specs.Nodes.{meeting}
use Rattle.edits.proofs.meeting_of.Given as goal

abbrev pub invariant-loop-k : goal.invariant-loop-k
invariant-loop-k l = meeting l.most l.fn.u l.fn.v ≡ l.k + meeting (l.most - l.k) l.p l.q
