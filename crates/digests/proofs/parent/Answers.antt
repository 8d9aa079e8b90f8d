-- A zero half gives the other; else tag and both halves stand one behind the other.
use mathlib.Core.Path.{◌≡◌, refl, sym, ap, ◌∙◌}
use mathlib.Core.List.{List, [], ◌∷◌}
use Prim.Native.Nat.{ℕ}
use native.Mathlib.Omega.{arith}
use lib.ListN.{replicate}
use Rattle.seqs.specs.Over.{Front, front_next}
use Rattle.sha256.specs.Hash.{sha256}
use Rattle.paper.specs.Strings.{enc, node, H, parent_forms}
use Rattle.records.proofs.Regroup.{behind2}
use Rattle.digests.proofs.parent.Goals as goal

pub returns-then-is_zero : goal.returns-then-is_zero
unfolding H parent_forms
returns-then-is_zero c = c.given.ensures ∙ rw (sym c.is_zero.ensures ∙ c.if-is_zero.true)

pub returns-then-is_zero-2 : goal.returns-then-is_zero-2
unfolding H parent_forms
returns-then-is_zero-2 c =
    let b = c in
    c.given-then-is_zero-2.ensures ∙ rw (sym b.is_zero.ensures ∙ b.if-is_zero.false, sym c.is_zero-2.ensures ∙ c.if-is_zero-2.true)

pub returns : goal.returns
unfolding H parent_forms enc
returns c =
    let p2 = c in
    let p1 = p2 in
    let right = p1 in
    let left = right in
    let start = left in
    let a = start.args in
    let d : List ℕ = replicate 65 2 in
    let r0 : Front d d (2 ∷ []) 1 = record { here = refl; long = refl } in
    let r1 = front_next _ _ 32 33 r0 p1.put.ensures start.well_formed.0.1.0.1 refl (omega arith) in
    let r2 = front_next _ _ 32 65 r1 p2.put-2.ensures start.well_formed.1.0.1.0.1 refl (omega arith) in
    let e : c.digest.result ≡ sha256 (enc (node a.u a.v)) =
    c.digest.ensures ∙ ap sha256 (r2.here ∙ behind2 (2 ∷ []) a.u a.v) in
    rw (sym left.is_zero.ensures ∙ left.if-is_zero.false, sym right.is_zero-2.ensures ∙ right.if-is_zero-2.false)
    (λ i. record { bytes = e i; blocks = 2 })
