-- By whether the reply is as awaited and whether its line commits.
use Rattle.std.proofs.Common.{◌≡◌, sym, ap, ◌∙◌}
use Rattle.sha256.specs.Hash.{sha256}
use Rattle.hearing.specs.Awaiting.{Awaited, awaited_as, awaited_at, replies, as_awaited}
use Rattle.hearing.specs.Hearing.{committing, answered_by, committed_talk}
use Rattle.hearing.proofs.Outcomes.{not_heard, going_heard, committed_heard}
use Rattle.hearing.proofs.hear.Goals as goal
use Rattle.hearing.proofs.hear.Goals.{After-fits}

-- what is awaited at the talk's step
heard_is : (c : After-fits) → c.fits.result ≡ as_awaited c.args.t c.args.reply.now
unfolding awaited_at
heard_is c =
    c.fits.ensures
    ∙ ap (λ (w : Awaited). replies w c.args.reply.now) (c.awaited-known.ensures ∙ ap (awaited_as c.args.t) c.part_at-part.ensures)

pub returns-then-not-fits : goal.returns-then-not-fits
returns-then-not-fits c =
    let a = c.args in
    let h = not_heard sha256 a.t a.count a.counter a.reply.now a.leaves.now a.nodes.now
    (sym (heard_is (goal.at.returns-then-not-fits c).After-fits) ∙ c.if-not-fits.true) in
    record { value = c.not_awaited.ensures ∙ h.0; leaves_after = h.1; nodes_after = h.2 }

pub returns-then-not-commits : goal.returns-then-not-commits
returns-then-not-commits c =
    let a = c.args in
    let part = c.part_at-part.ensures in
    let h = going_heard sha256 a.t a.count a.counter a.reply.now a.leaves.now a.nodes.now
    (sym (heard_is (goal.at.returns-then-not-commits c).After-fits) ∙ c.if-not-fits.false) (ap committing (sym part) ∙ sym c.commits.ensures ∙ c.if-not-commits.true) in
    record { value = c.answered.ensures ∙ (λ i. answered_by (part i) a.t a.count a.counter a.reply.now) ∙ h.0; leaves_after = h.1; nodes_after = h.2 }

pub returns : goal.returns
returns c =
    let a = c.args in
    let part = c.part_at-part.ensures in
    let leaves = c.commit_leaves.ensures in
    let nodes = c.commit_nodes.ensures in
    let h = committed_heard sha256 a.t a.count a.counter a.reply.now a.leaves.now a.nodes.now
    (sym (heard_is (goal.at.returns c).After-fits) ∙ c.if-not-fits.false) (ap committing (sym part) ∙ sym c.commits.ensures ∙ c.if-not-commits.false) in
    record { value = c.committed.ensures ∙ (λ i. committed_talk sha256 a.t (leaves i) (nodes i)) ∙ h.0; leaves_after = leaves ∙ h.1; nodes_after = nodes ∙ h.2 }
