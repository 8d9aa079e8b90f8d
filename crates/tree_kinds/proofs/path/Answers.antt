-- More siblings than there are are all of them.
use Rattle.std.proofs.Common.{◌≤◌, List, length, take, ap, subst, ◌∙◌}
use Rattle.std.specs.Prelude.{OnOk}
use Rattle.sha256.specs.Hash.{sha256}
use Rattle.paper.specs.Strings.{Dig}
use Rattle.paper.specs.Requests as Q
use Rattle.paper.specs.Answers.{answer}
use Rattle.replies.specs.Outcomes.{outcome_for}
use Rattle.checks.specs.declared.Desk.{Desk}
use Rattle.checks.specs.Steps.{row}
use Rattle.checks.proofs.Steps.{concluded}
use Rattle.tree_kinds.proofs.PathLaws.{take_least}
use Rattle.tree_kinds.proofs.path.Goals as goal

pub returns : goal.returns
returns c =
    let a = c.args in
    let q = Q.path a.x a.xn a.sides (take c.min.result a.siblings) in
    let p = c.path_row-answer in
    c.outcome.ensures
    ∙ concluded a.r 1 q p.result _ (p.ensures.is ∙ ap (λ (d : Desk). row d.registers 1 q) c.new-desk.ensures)
    (subst (λ (d : Desk). OnOk p.result (length (answer sha256 d.registers q).lists ≤ 96)) c.new-desk.ensures p.ensures.room)
    ∙ ap (λ (l : List Dig). outcome_for a.r 1 (Q.path a.x a.xn a.sides l))
    (take_least a.siblings a.n c.min.result c.well_formed.1.1.1.1.1.0.1.0.1 c.min.ensures)
