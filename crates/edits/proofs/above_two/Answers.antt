-- The halves rise from the leaves, the node is their parent, and the root rises from that.
use Rattle.std.proofs.Common.{◌≡◌, ℕ, ◌-◌, List, ap, ◌∙◌, add-one}
use mathlib.Core.Path.{ap₂}
use Rattle.sha256.specs.Hash.{sha256}
use Rattle.paper.specs.Strings.{Dig, H}
use Rattle.digests.specs.declared.Digest.{Digest}
use Rattle.slots.specs.Nodes.{ancestor, climbed}
use Rattle.edits.specs.declared.Edit.{Edit}
use Rattle.edits.specs.Changes.{risen_at, forked_at}
use Rattle.edits.proofs.above_two.Goals as goal

-- what climbs is what will stand there
climbs : (m : List ℕ) (v n : ℕ) (x : Dig) (e : Edit) → e ≡ risen_at sha256 m v n x → e.becomes ≡ climbed sha256 m n v x
unfolding risen_at
climbs m v n x e h = ap (λ (y : Edit). y.becomes) h

pub returns : goal.returns
unfolding forked_at
returns c =
    let a = c.args in
    let m = a.nodes.now in
    let ry = c.risen-y.ensures in
    let rz = c.risen-z.ensures in
    let n-is = ap (λ (d : Digest). d.bytes) c.parent.ensures
    ∙ ap₂ (H sha256) (climbs m a.u a.k a.x _ ry) (climbs m a.v a.k a.w _ rz) in
    let top_is = c.ancestor_of-top.ensures ∙ ap (λ (n : ℕ). ancestor n a.u) (add-one a.k) in
    let node_is = c.risen.ensures ∙ ap₂ (λ (t : ℕ) (n : Dig). risen_at sha256 m t 0 n) top_is n-is in
    let root_is = c.risen-2.ensures ∙ ap₂ (λ (t : ℕ) (n : Dig). risen_at sha256 m t (9 - a.k) n) top_is n-is in
    λ i. record { y = ry i; z = rz i; node = node_is i; root = root_is i }
