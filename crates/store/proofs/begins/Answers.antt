-- Where there is room for a line, its digits are so many.
use mathlib.Core.Path.{sym, ◌∙◌}
use mathlib.Core.Bool.{true≢false}
use native.Mathlib.Omega.{arith}
use borrow.Author.Tests.{lt-leb}
use lib.ListN.{length, length-take}
use Rattle.store.proofs.begins.Goals as goal
use Rattle.store.proofs.begins.Goals.{then-text-ge-LINE, else-text-ge-LINE}

pub slice_bounds-read_line-end : goal.slice_bounds-read_line-end
slice_bounds-read_line-end c =
    elim c.if-text-ge-LINE.branch [
      | then-text-ge-LINE w ↦ simp length-take (omega arith)
      | else-text-ge-LINE w ↦ absurd (true≢false (sym c.if-text-eq10.true ∙ w.value-is ∙ lt-leb 97 (length c.args.text.now) (omega arith)))
    ]
