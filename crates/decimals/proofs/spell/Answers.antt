use mathlib.Core.Path.{refl}
use native.Mathlib.Omega.{arith}
use Rattle.decimals.proofs.Spelling.{spelled_none, room, spelled_next, spelled_all}
use borrow.Author.Rules.{rules}
use Rattle.decimals.proofs.spell.Goals as goal

pub loop-rest-init : goal.loop-rest-init
loop-rest-init c = (omega arith, spelled_none _ _ (search rules) refl)

pub overflow_sub-from : goal.overflow_sub-from
overflow_sub-from c = let k = c.loop-rest in room k.from k.rest k.invariant.1.small c.loop-rest-test.true

pub loop-rest-smaller : goal.loop-rest-smaller
loop-rest-smaller c = omega (arith, overflow_sub-from c)

pub loop-rest-preserved : goal.loop-rest-preserved
loop-rest-preserved c =
    let k = c.loop-rest in
    (omega (arith, k.invariant.0), spelled_next _ k.from k.rest k.bytes k.invariant.1 c.loop-rest-test.true)

pub returns : goal.returns
returns c =
    let k = c.loop-rest in
    spelled_all _ k.from k.rest k.bytes k.invariant.1 (omega (arith, c.loop-rest-test.false))
