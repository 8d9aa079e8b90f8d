-- The kind's row of the table, on the fields of the frame.
use Rattle.std.proofs.Common.{◌∙◌}
use Rattle.paper.specs.Requests as Q
use Rattle.checks.proofs.Steps.{answered}
use Rattle.places.specs.Places.{bytes_at, request_at}
use Rattle.list_kinds.proofs.clear_record.Goals as goal

pub returns : goal.returns
unfolding bytes_at request_at Q.kinds
returns c =
    answered c.args.r 13 c.args.f.now (λ i. Q.clear (c.item.ensures i) (c.item-2.ensures i) (c.record_at.ensures i) (c.digest.ensures i) (c.digest-2.ensures i) (c.digest-3.ensures i)) c.new-desk.ensures
    (c.outcome.ensures ∙ c.clear_row-answer.ensures)
