-- The record's hash in a leaf.
use native.Mathlib.Omega.{arith}
use Rattle.digests.proofs.Fit.{blocks_of, record_cost, leaf_law}
use Rattle.digests.proofs.leaf_of.Goals as goal

-- both digests worked
pub overflow_add-leaf : goal.overflow_add-leaf
overflow_add-leaf c = omega (arith, record_cost _ c.record_hash-hash.ensures, blocks_of c.leaf-leaf.ensures)

pub returns : goal.returns
returns c =
    let a = c.args in
    leaf_law a.a.0 a.b.0 a.rec c.record_hash-hash.ensures c.leaf-leaf.ensures
