-- As many levels as are left at a turn lead from where it stands to the same node.
use Rattle.std.proofs.Common.{◌≡◌, ◌-◌}
use Rattle.slots.specs.Nodes.{ancestor}
use Rattle.edits.proofs.ancestor_of.Given as goal

abbrev pub invariant-loop : goal.invariant-loop
invariant-loop l = ancestor l.levels l.fn.v ≡ ancestor (l.levels - l.counter) l.u
