use mathlib.Core.Path.{sym, ◌∙◌}
use native.Mathlib.Omega.{arith}
use Rattle.store.specs.Texts.{text_read}
use Rattle.store.proofs.Judging.{broken_there, ring_broken}
use Rattle.store.proofs.Lines.ring.Goals as goal

pub returns-then-breaks : goal.returns-then-breaks
returns-then-breaks c =
    let s = c.args.self.now in
    let rs = (text_read s.text.now).rows in
    let breaks = sym (broken_there rs c.loop-i.i c.loop-j.j _ _ _ _ c.item.ensures c.item-item.ensures c.next-next.ensures c.has-led.ensures)
    ∙ sym c.breaks.ensures ∙ c.if-breaks.true in
    sym (ring_broken rs c.loop-i.i c.loop-j.j s.count s.counted (omega arith) (omega arith) breaks c.loop-i.invariant c.loop-j.invariant)
