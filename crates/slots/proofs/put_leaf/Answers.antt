-- A slot's node is put, and then what stands above it is worked anew; of no slot nothing is.
use Rattle.std.proofs.Common.{◌+◌, refl, ap, ◌∙◌, arith}
use borrow.Author.Tests.{lt-ltb, le-ltb}
use Rattle.sha256.specs.Hash.{sha256}
use Rattle.slots.specs.Nodes.{slot_count, level_count, rehashed, leaf_put}
use Rattle.slots.proofs.put_leaf.Goals as goal

pub returns-then-slot-lt-SLOTS : goal.returns-then-slot-lt-SLOTS
unfolding leaf_put
returns-then-slot-lt-SLOTS c =
    let a = c.args in
    c.rehash.ensures
    ∙ rw (lt-ltb a.slot slot_count c.if-slot-lt-SLOTS.true) (ap (rehashed sha256 level_count (slot_count + a.slot)) c.put_node.ensures)

pub returns-else-slot-lt-SLOTS : goal.returns-else-slot-lt-SLOTS
unfolding leaf_put
returns-else-slot-lt-SLOTS c = rw (le-ltb c.args.slot slot_count (omega arith)) refl
