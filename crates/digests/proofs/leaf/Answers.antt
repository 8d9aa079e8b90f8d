-- Tag, both numbers and the hash stand one behind the other.
use mathlib.Core.Path.{◌≡◌, refl, ap, ◌∙◌}
use mathlib.Core.List.{List, [], ◌∷◌, ◌++◌}
use Prim.Native.Nat.{ℕ}
use native.Mathlib.Omega.{arith}
use lib.ListN.{replicate}
use Rattle.seqs.specs.Over.{Front, front_next}
use Rattle.sha256.specs.Hash.{sha256}
use Rattle.paper.specs.Strings.{enc, leaf}
use Rattle.records.proofs.Regroup.{behind3}
use Rattle.digests.proofs.leaf.Goals as goal

pub returns : goal.returns
unfolding enc
returns c =
    let p3 = c in
    let p2 = p3 in
    let p1 = p2 in
    let n = p1 in
    let n2 = n.spelled-2 in
    let n1 = n.spelled in
    let s = n in
    let a = s.args in
    let d : List ℕ = replicate 49 1 in
    let r0 : Front d d (1 ∷ []) 1 = record { here = refl; long = refl } in
    let r1 = front_next _ _ 8 9 r0 p1.put.ensures (omega (arith, n1.type_inv)) refl (omega arith) in
    let r2 = front_next _ _ 8 17 r1 p2.put-2.ensures (omega (arith, n2.type_inv)) refl (omega arith) in
    let r3 = front_next _ _ 32 49 r2 p3.put-3.ensures s.well_formed.1.1.0.1.0.1 refl (omega arith) in
    let e : c.digest.result ≡ sha256 (enc (leaf a.a.0 a.b.0 a.hash)) =
    c.digest.ensures
    ∙ ap sha256
    (r3.here ∙ behind3 (1 ∷ []) n1.result n2.result a.hash
    ∙ (λ i. 1 ∷ (n1.ensures i ++ (n2.ensures i ++ (a.hash ++ []))))) in
    λ i. record { bytes = e i; blocks = 1 }
