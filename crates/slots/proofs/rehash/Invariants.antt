-- As many levels as are left at a turn, worked anew from where it stands, leave the same bytes.
use Rattle.std.proofs.Common.{◌≡◌, ◌-◌, ◌^◌, ◌<◌}
use Rattle.sha256.specs.Hash.{sha256}
use Rattle.slots.specs.Nodes.{rehashed}
use Rattle.slots.proofs.rehash.Given as goal

abbrev pub invariant-loop : goal.invariant-loop
invariant-loop l =
    (l.u < 2 ^ 64) × (rehashed sha256 l.levels l.v l.fn.nodes ≡ rehashed sha256 (l.levels - l.counter) l.u l.nodes)
