-- An empty record gives 0; else tag and the four numbers stand one behind the other.
use mathlib.Core.Path.{◌≡◌, refl, sym, ap, ◌∙◌}
use mathlib.Core.List.{List, [], ◌∷◌, append-nil}
use Prim.Native.Nat.{ℕ}
use native.Mathlib.Omega.{arith}
use lib.ListN.{replicate}
use Rattle.seqs.specs.Over.{Front, front_next}
use Rattle.sha256.specs.Hash.{sha256}
use Rattle.paper.specs.Strings.{enc, entry, record_hash, record_forms}
use Rattle.digests.proofs.record_hash.Goals as goal

pub returns-then-is_blank : goal.returns-then-is_blank
unfolding record_hash record_forms
returns-then-is_blank c = c.given.ensures ∙ rw (sym c.is_blank.ensures ∙ c.if-is_blank.true)

pub returns : goal.returns
unfolding record_hash record_forms enc
returns c =
    let p = c in
    let n = p in
    let b = n in
    let d : List ℕ = replicate 33 3 in
    let r0 : Front d d (3 ∷ []) 1 = record { here = refl; long = refl } in
    let r1 = front_next _ _ 32 33 r0 p.put.ensures (omega (arith, n.record_bytes.type_inv)) refl (omega arith) in
    let e : c.digest.result ≡ sha256 (enc (entry b.args.r)) =
    c.digest.ensures ∙ ap sha256 (r1.here ∙ ap (λ (l : List ℕ). 3 ∷ l) (append-nil _ ∙ n.record_bytes.ensures)) in
    rw (sym b.is_blank.ensures ∙ b.if-is_blank.false) (λ i. record { bytes = e i; blocks = 1 })
