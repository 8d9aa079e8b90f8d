-- The kind's row of the table, on the fields of the frame.
use Rattle.std.proofs.Common.{◌∙◌}
use Rattle.paper.specs.Requests as Q
use Rattle.checks.proofs.Steps.{answered}
use Rattle.places.specs.Places.{bytes_at, request_at}
use Rattle.question_kinds.proofs.ask_none.Goals as goal

pub returns : goal.returns
unfolding bytes_at request_at Q.kinds
returns c =
    answered c.args.r 15 c.args.f.now (λ i. Q.ask_none (c.item.ensures i)) c.new-desk.ensures
    (c.outcome.ensures ∙ c.ask_none_row-answer.ensures)
