-- By what the lines are: too many, or so many, each of one length, whose ring is judged.
use mathlib.Core.Path.{◌≡◌, sym, ap, ◌∙◌}
use Prim.Native.Nat.{ℕ, ◌*◌}
use Rattle.std.specs.Prelude.{Ok}
use Rattle.store.specs.Texts.{lines_in}
use Rattle.store.proofs.Judging.{all_readable, whole_size, judged_many}
use Rattle.store.proofs.judge.Goals as goal

pub returns-in-Ok : goal.returns-in-Ok
returns-in-Ok c =
    let lines : lines_in c.args.text.now ≡ Ok c.in-Ok.count = sym c.count_lines.ensures ∙ c.in-Ok.is in
    judged_many c.args.text.now c.args.most c.in-Ok.count lines c.if-most-count.true

pub invariant_of-ring : goal.invariant_of-ring
invariant_of-ring c =
    let lines : lines_in c.args.text.now ≡ Ok c.in-Ok.count = sym c.count_lines.ensures ∙ c.in-Ok.is in
    let l = all_readable c.args.text.now c.in-Ok.count lines in
    record { whole = l.0; counted = l.1; sized = whole_size c.args.text.now l.0 ∙ ap (λ (k : ℕ). 97 * k) (sym l.1) }
