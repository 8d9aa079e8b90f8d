-- The kind's row of the table, on the fields of the frame.
use Rattle.std.proofs.Common.{refl, ◌∙◌}
use Rattle.paper.specs.Requests as Q
use Rattle.checks.proofs.Steps.{answered}
use Rattle.places.specs.Places.{bytes_at, request_at}
use Rattle.list_kinds.proofs.set_record.Goals as goal

pub returns : goal.returns
unfolding bytes_at request_at Q.kinds
returns c =
    answered c.args.r 12 c.args.f.now
    {q = Q.set_to c.item.result.0 c.item-2.result.0 c.record_at.result c.values_at.result c.digest.result c.digest-2.result c.digest-3.result}
    (rw (c.item.ensures, c.item-2.ensures, c.record_at.ensures, c.values_at.ensures, c.digest.ensures, c.digest-2.ensures, c.digest-3.ensures) refl)
    c.new-desk.ensures
    (c.outcome.ensures ∙ c.set_row-answer.ensures)
