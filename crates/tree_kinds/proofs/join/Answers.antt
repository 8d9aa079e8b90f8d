-- The kind's row of the table, on the fields of the frame.
use Rattle.std.proofs.Common.{◌∙◌}
use Rattle.paper.specs.Requests as Q
use Rattle.checks.proofs.Steps.{answered}
use Rattle.places.specs.Places.{bytes_at, request_at}
use Rattle.tree_kinds.proofs.join.Goals as goal

pub returns : goal.returns
unfolding bytes_at request_at Q.kinds
returns c =
    answered c.args.r 3 c.args.f.now (λ i. Q.join (c.digest.ensures i) (c.digest-2.ensures i) (c.digest-3.ensures i) (c.digest-4.ensures i) (c.digest-5.ensures i) (c.digest-6.ensures i) (c.digest-7.ensures i) (c.digest-8.ensures i)) c.new-desk.ensures
    (c.outcome.ensures ∙ c.join_row-answer.ensures)
