-- The kind's row of the table, on the fields of the frame.
use Rattle.std.proofs.Common.{◌∙◌}
use Rattle.paper.specs.Requests as Q
use Rattle.checks.proofs.Steps.{answered}
use Rattle.places.specs.Places.{bytes_at, request_at}
use Rattle.list_kinds.proofs.unlock.Goals as goal

pub returns : goal.returns
unfolding bytes_at request_at Q.kinds
returns c =
    answered c.args.r 16 c.args.f.now (λ i. Q.unlock (c.digest.ensures i)) c.new-desk.ensures
    (c.outcome.ensures ∙ c.unlock_row-answer.ensures)
