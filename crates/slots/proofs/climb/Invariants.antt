-- As many levels as are left at a turn, climbed from where it stands, lead to the same.
use Rattle.std.proofs.Common.{◌≡◌, ◌-◌}
use Rattle.sha256.specs.Hash.{sha256}
use Rattle.slots.specs.Nodes.{climbed}
use Rattle.slots.proofs.climb.Given as goal

abbrev pub invariant-loop : goal.invariant-loop
invariant-loop l = climbed sha256 l.nodes l.levels l.v l.fn.x ≡ climbed sha256 l.nodes (l.levels - l.counter) l.u l.y
