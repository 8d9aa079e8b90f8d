use Rattle.std.proofs.Common.{◌≡◌, ◌/◌, length, refl, ap, ◌∙◌, add-one, arith}
use Rattle.sha256.specs.declared.State.{State}
use Rattle.sha256.specs.Padding.{pad}
use Rattle.sha256.specs.Hash.{added, schedule, rounds, hash, words_as_bytes, sha256}
use Rattle.sha256.proofs.Padding.{pad_length}
use Rattle.sha256.proofs.digest.Goals as goal

pub loop-i-init : goal.loop-i-init
unfolding hash
loop-i-init c = refl

pub loop-i-preserved : goal.loop-i-preserved
unfolding hash
loop-i-preserved c =
    let k = c.loop-i in
    let p = pad c.args.message.now in
    rw add-one (c.plus-s.ensures ∙ ap (added k.s) c.turned.ensures ∙ ap (λ (s : State). added s (rounds 64 (schedule p k.i 64) s)) k.invariant)

pub returns : goal.returns
unfolding sha256
returns c =
    let k = c.loop-i in
    let m = c.args.message.now in
    let done : k.i ≡ length (pad m) / 64 = omega (arith, pad_length m) in
    c.to_bytes.ensures ∙ ap words_as_bytes (k.invariant ∙ ap (hash (pad m)) done)
