-- The leaf whose numbers stand in the bytes of all the digits.
use mathlib.Core.Path.{◌≡◌, sym, ap, ◌∙◌}
use mathlib.Core.Bool.{Bool, true, false}
use mathlib.Core.List.{List, append-nil}
use Rattle.std.specs.Prelude.{Some, None}
use Prim.Native.Nat.{ℕ}
use native.Mathlib.Omega.{arith}
use borrow.Author.Tests.{eq-eqb}
use lib.ListN.{length, replicate}
use Rattle.seqs.specs.Choose.{pick}
use Rattle.seqs.specs.Over.{written, written_fits}
use Rattle.hexadecimal.specs.Hex.{all_digits, bytes_of}
use Rattle.hexadecimal.proofs.Laws.{bytes_length}
use Rattle.rows.specs.declared.Row.{Row}
use Rattle.store.specs.Lines.{row_in, may_stand, line_read}
use Rattle.store.proofs.read_line.Goals as goal

-- the bytes of a whole line fill their space
filled : (l : List ℕ) → length l ≡ 96 → written (bytes_of l) (replicate 48 0) ≡ bytes_of l
filled l e = written_fits (bytes_of l) (replicate 48 0) 48 (bytes_length l ∙ omega arith) (omega arith) ∙ append-nil (bytes_of l)

-- a line of digits, by the test on its leaf
read_by : (l b : List ℕ) (r : Row) (t : Bool) → length l ≡ 96 → all_digits l ≡ true → b ≡ written (bytes_of l) (replicate 48 0) → r ≡ row_in b
    → may_stand r ≡ t → pick t (Some r) None ≡ line_read l
unfolding line_read
read_by l b r t long digits eb er h =
    let e : r ≡ row_in (bytes_of l) = er ∙ ap row_in (eb ∙ filled l long) in
    rw (eq-eqb (length l) 96 long, digits, sym e, h)

pub returns-then-may_stand : goal.returns-then-may_stand
returns-then-may_stand c =
    let long : length c.args.line.now ≡ 96 = omega arith in
    read_by _ _ _ true long (sym c.all_digits.ensures ∙ c.if-not-all_digits.false) c.read.ensures.space_after
    c.row_in-r.ensures (sym c.may_stand.ensures ∙ c.if-may_stand.true)

pub returns-else-may_stand : goal.returns-else-may_stand
returns-else-may_stand c =
    let long : length c.args.line.now ≡ 96 = omega arith in
    read_by _ _ _ false long (sym c.all_digits.ensures ∙ c.if-not-all_digits.false) c.read.ensures.space_after
    c.row_in-r.ensures (sym c.may_stand.ensures ∙ c.if-may_stand.false)
