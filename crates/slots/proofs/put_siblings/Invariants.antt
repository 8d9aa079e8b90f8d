-- As many siblings as are left at a turn, put from where it stands, leave the same bytes; past the frame's end none fits.
use Rattle.std.proofs.Common.{◌≡◌, ◌-◌}
use Rattle.slots.specs.Nodes.{siblings_put}
use Rattle.slots.proofs.put_siblings.Given as goal

abbrev pub invariant-loop : goal.invariant-loop
invariant-loop l =
    siblings_put l.nodes l.levels l.v l.at l.fn.frame ≡ siblings_put l.nodes (l.levels - l.counter) l.u l.p l.frame
