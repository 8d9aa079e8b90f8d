-- The kind's row of the table, on the fields of the frame.
use Rattle.std.proofs.Common.{◌∙◌}
use Rattle.paper.specs.Requests as Q
use Rattle.checks.proofs.Steps.{answered}
use Rattle.places.specs.Places.{bytes_at, request_at}
use Rattle.ring_kinds.proofs.turn.Goals as goal

pub returns : goal.returns
unfolding bytes_at request_at Q.kinds
returns c =
    answered c.args.r 9 c.args.f.now (λ i. Q.turn (c.digest.ensures i) (c.digest-2.ensures i) (c.digest-3.ensures i)) c.new-desk.ensures
    (c.outcome.ensures ∙ c.turn_row-answer.ensures)
