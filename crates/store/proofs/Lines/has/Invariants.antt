-- None of the lines passed over is of the item.
use mathlib.Core.Path.{◌≡◌}
use mathlib.Core.Bool.{false}
use Prim.Native.Nat.{ℕ, ◌<◌}
use Rattle.rows.specs.Rows.{of_item}
use Rattle.rows.specs.Pairs.{row_of}
use Rattle.store.specs.Texts.{text_read}
use Rattle.store.proofs.Lines.has.Given as goal

abbrev pub invariant-loop-i : goal.invariant-loop-i
invariant-loop-i l = (b : ℕ) → b < l.i → of_item l.a.0 (row_of (text_read l.self.text.now).rows b) ≡ false
