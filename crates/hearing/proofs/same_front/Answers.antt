use Rattle.std.proofs.Common.{sym, ◌∙◌, false, arith}
use borrow.Author.Tests.{eq-eqb, ne_eqb}
use Rattle.hexadecimal.specs.Hex.{bytes_of}
use Rattle.hearing.proofs.Fronts.{front_step, front_end}
use Rattle.hearing.proofs.same_front.Goals as goal

pub returns-then-byte_at-byte : goal.returns-then-byte_at-byte
returns-then-byte_at-byte c =
    let a = c.args in
    sym (c.loop-i.invariant ∙ front_step (bytes_of a.reply.now) a.known.now c.requires c.loop-i.i false c.loop-i-test.true
    (ne_eqb _ _ (λ h. c.if-byte_at-byte.true (c.byte_at.ensures ∙ h))))

pub loop-i-preserved : goal.loop-i-preserved
loop-i-preserved c =
    let a = c.args in
    c.loop-i.invariant ∙ front_step (bytes_of a.reply.now) a.known.now c.requires c.loop-i.i _ c.loop-i-test.true
    (eq-eqb _ _ (sym c.byte_at.ensures ∙ c.if-byte_at-byte.false))

pub returns : goal.returns
returns c =
    let a = c.args in
    sym (c.loop-i.invariant ∙ front_end (bytes_of a.reply.now) a.known.now c.requires c.loop-i.i (omega (arith, c.loop-i-test.false)))
