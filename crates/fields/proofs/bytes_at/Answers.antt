-- What is there is cut off at N, and zeros stand behind it.
use Rattle.std.proofs.Common.{◌++◌, List, ℕ, drop, replicate, ap, ◌∙◌}
use Rattle.std.proofs.lemmas.List.{drop_min}
use Rattle.fields.proofs.Bytes.{front, rest}
use Rattle.fields.proofs.bytes_at.Goals as goal

pub returns : goal.returns
returns g c =
    ap (λ (l : List ℕ). l ++ drop c.min-n.result (replicate g.row.N 0)) c.copy_from_slice.ensures.after
    ∙ rw (c.min-n.ensures, rest c.args.s.now c.min.result, c.min.ensures, drop_min) (front _ _)
