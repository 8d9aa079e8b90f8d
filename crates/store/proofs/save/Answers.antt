use mathlib.Core.Path.{◌≡◌, refl, sym, ap, subst, ◌∙◌}
use mathlib.Core.List.{List, ◌++◌}
use Prim.Native.Nat.{ℕ, ◌+◌, ◌-◌, ◌*◌, ◌≤◌}
use native.Mathlib.Omega.{arith}
use borrow.Author.Tests.{le-leb}
use lib.ListN.{length, take, drop, length-append, length-drop, length-take}
use Rattle.seqs.specs.Over.{written_fits, written_not, Front}
use Rattle.rows.specs.Rows.{row_at, rows_from}
use Rattle.store.specs.Lines.{line_of_row}
use Rattle.store.specs.Texts.{text_of}
use borrow.Rule.Slice.PartMut.{put_mid}
use Rattle.store.proofs.Saved.{line_long, text_long, text_next, front_mid, filled}
use Rattle.store.proofs.save.Goals as goal

pub returns-then-space-k-clause-space_after : goal.returns-then-space-k-clause-space_after
returns-then-space-k-clause-space_after c =
    let a = c.args in
    sym (written_not _ a.space.now (97 * a.k) (text_long a.leaves.now a.k 0) (omega arith))

pub loop-i-init : goal.loop-i-init
loop-i-init c = (refl, omega arith, record { here = refl; long = refl })

pub loop-i-preserved : goal.loop-i-preserved
loop-i-preserved c =
    let k = c.loop-i in
    let a = c.args in
    let text = text_of (rows_from a.leaves.now k.i 0) in
    let wide = 97 * k.i + 97 - 97 * k.i in
    let room : 97 * (k.i + 1) ≤ length a.space.now = omega (arith, k.invariant.1, c.loop-i-test.true) in
    let inside : 97 * (k.i + 1) ≤ length k.space = omega (arith, k.invariant.0, room) in
    let part : length (take wide (drop (97 * k.i) k.space)) ≡ 97 = simp (length-take, length-drop) (omega (arith, inside)) in
    let is_line_lem = c.write_line.ensures.space_after ∙ filled _ _ part ∙ ap line_of_row c.row_at.ensures in
    let size : length c.write_line.new.space ≡ wide = ap length is_line_lem ∙ line_long (row_at a.leaves.now k.i) ∙ omega arith in
    let next = front_mid (put_mid (97 * k.i) wide k.space c.write_line.new.space) c.write_line.new.space wide (97 * (k.i + 1)) k.invariant.2 refl size (omega arith) room inside in
    let grown = ap (λ (l : List ℕ). text ++ l) is_line_lem ∙ text_next a.leaves.now k.i in (
      ap length next.here ∙ simp (length-append, length-drop) (omega (arith, next.long, room)),
      k.invariant.1,
      subst (λ (l : List ℕ). Front a.space.now (put_mid (97 * k.i) wide k.space c.write_line.new.space) l (97 * (k.i + 1))) grown next,
    )

pub shape_of-space : goal.shape_of-space
shape_of-space c = c.loop-i.invariant.0

pub returns : goal.returns
returns c =
    let k = c.loop-i in
    let a = c.args in
    let all : k.i ≡ a.k = omega arith in
    let text = text_of (rows_from a.leaves.now a.k 0) in record {
      value = sym (le-leb (97 * a.k) (length a.space.now) k.invariant.1);
      space_after = k.invariant.2.here ∙ ap (λ (n : ℕ). text_of (rows_from a.leaves.now n 0) ++ drop (97 * n) a.space.now) all
          ∙ sym (written_fits text a.space.now (97 * a.k) (text_long a.leaves.now a.k 0) k.invariant.1);
    }
