use Rattle.std.proofs.Common.{◌≡◌, ℕ, ◌+◌, ◌*◌, refl, ap, ◌∙◌, add-one, arith}
use Rattle.sha256.specs.Padding.{pad}
use Rattle.sha256.specs.Hash.{after_turn, rounds, schedule}
use Rattle.sha256.specs.Work.{rolled, due}
use Rattle.sha256.proofs.Scheduling.{renumbered}
use Rattle.sha256.proofs.State.turned.Goals as goal

pub loop-j-init : goal.loop-j-init
unfolding rounds
loop-j-init c = (c.load.ensures, refl)

pub loop-t-init : goal.loop-t-init
loop-t-init c = (c.roll_four.ensures _ _ c.loop-j.invariant.0, c.loop-j.invariant.1)

pub loop-t-preserved : goal.loop-t-preserved
unfolding rounds rolled
loop-t-preserved c =
    let k = c.loop-t in
    let word = k.invariant.0.holds k.t (omega arith) (omega arith) in
    (k.invariant.0, rw add-one (c.turn-v.ensures ∙ (λ i. after_turn (k.invariant.1 i) (c.constant.ensures i) (word i))))

pub loop-j-preserved : goal.loop-j-preserved
loop-j-preserved c =
    let a = c.args in
    let k = c.loop-t in
    let j = c.loop-j.j in
    let then : due (4 * j + 4) ≡ due (4 * (j + 1)) = omega arith in
    let done : k.t ≡ 4 * (j + 1) = omega arith in
    (renumbered then k.invariant.0, k.invariant.1 ∙ ap (λ (n : ℕ). rounds n (schedule (pad a.message.now) a.i 64) a.self) done)

pub returns : goal.returns
returns c =
    let a = c.args in
    let done : 4 * c.loop-j.j ≡ 64 = omega arith in
    c.loop-j.invariant.1 ∙ ap (λ (n : ℕ). rounds n (schedule (pad a.message.now) a.i 64) a.self) done
