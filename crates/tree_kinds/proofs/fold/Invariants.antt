-- After some levels the whole fold is what the siblings left give from here, and the count is what was worked so far.
use Rattle.std.proofs.Common.{◌≡◌, ◌+◌, ◌*◌, ◌≤◌, drop}
use Rattle.sha256.specs.Hash.{sha256}
use Rattle.paper.specs.Strings.{cost, fold_up, fold_forms}
use Rattle.tree_kinds.proofs.fold.Given as goal

abbrev pub invariant-loop-sibling : goal.invariant-loop-sibling
invariant-loop-sibling l =
    (l.up.blocks ≤ 2 * l.sibling-index)
    × (fold_up sha256 l.initial.up.bytes l.sides l.siblings ≡ fold_up sha256 l.up.bytes l.bits (drop l.sibling-index l.siblings))
    × (cost (fold_forms sha256 l.initial.up.bytes l.sides l.siblings)
    ≡ l.up.blocks + cost (fold_forms sha256 l.up.bytes l.bits (drop l.sibling-index l.siblings)))
