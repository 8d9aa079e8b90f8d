-- No line passed over breaks with any, and line i with none of those passed over.
use Rattle.store.specs.Texts.{text_read}
use Rattle.store.proofs.Judging.{NoneBreaks, BreaksNone}
use Rattle.store.proofs.Lines.ring.Given as goal

abbrev pub invariant-loop-i : goal.invariant-loop-i
invariant-loop-i l = NoneBreaks (text_read l.self.text.now).rows l.i

abbrev pub invariant-loop-j : goal.invariant-loop-j
invariant-loop-j l = BreaksNone (text_read l.self.text.now).rows l.i l.j
