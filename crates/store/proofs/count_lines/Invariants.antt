-- As many lines as were passed can be read, and what stands behind them decides.
use Prim.Native.Nat.{◌*◌}
use Rattle.store.proofs.Texts.{Passed}
use Rattle.store.proofs.count_lines.Given as goal

abbrev pub invariant-loop-n : goal.invariant-loop-n
invariant-loop-n l = Passed l.text (97 * l.n) l.n
