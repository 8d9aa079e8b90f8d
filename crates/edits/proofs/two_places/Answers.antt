-- The leaves in both slots, and what changes above them.
use Rattle.std.proofs.Common.{ℕ, ◌+◌, ap, ◌∙◌}
use Rattle.sha256.specs.Hash.{sha256}
use Rattle.edits.specs.Changes.{forked_at}
use Rattle.edits.proofs.Places.{two_none_left, two_none_right, two_is}
use Rattle.edits.proofs.two_places.Goals as goal
use Rattle.edits.proofs.two_places.Goals.{then-i-ge-SLOTS-via-then-i-ge-SLOTS, then-i-ge-SLOTS-via-else-i-ge-SLOTS+then-j-ge-SLOTS}

pub returns-then-i-ge-SLOTS : goal.returns-then-i-ge-SLOTS
returns-then-i-ge-SLOTS c =
    let a = c.args in
    c.no_place.ensures
    ∙ elim c.then-i-ge-SLOTS.branch [
      | then-i-ge-SLOTS-via-then-i-ge-SLOTS w ↦ two_none_left sha256 a.nodes.now a.i a.j a.x a.w w.if-i-ge-SLOTS.true
      | then-i-ge-SLOTS-via-else-i-ge-SLOTS+then-j-ge-SLOTS w ↦
          two_none_right sha256 a.nodes.now a.i a.j a.x a.w w.if-i-ge-SLOTS.false w.if-j-ge-SLOTS.true
    ]

pub returns : goal.returns
returns c =
    let a = c.args in
    let k_is = c.meeting_of-k.ensures in
    let f-is = c.above_two-f.ensures ∙ ap (λ (k : ℕ). forked_at sha256 a.nodes.now (1024 + a.i) (1024 + a.j) k a.x a.w) k_is in
    (λ i. record {
      left = a.i;
      right = a.j;
      levels = k_is i;
      a = c.risen.ensures i;
      b = c.risen-2.ensures i;
      y = (f-is i).y;
      z = (f-is i).z;
      node = (f-is i).node;
      root = (f-is i).root;
    })
    ∙ two_is sha256 a.nodes.now a.i a.j a.x a.w c.if-i-ge-SLOTS.false c.if-j-ge-SLOTS.false
