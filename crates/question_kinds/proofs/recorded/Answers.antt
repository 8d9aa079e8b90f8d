-- Tag, item and record stand one behind the other.
use Rattle.std.proofs.Common.{refl, ℕ, List, [], ◌∷◌, ◌++◌, replicate, ◌∙◌, arith}
use Rattle.seqs.specs.Over.{Front, front_next}
use mathlib.Core.List.{append-nil}
use Rattle.question_kinds.proofs.recorded.Goals as goal

pub returns : goal.returns
returns c =
    let d : List ℕ = replicate 41 1 in
    let r0 : Front d d (1 ∷ []) 1 = record { here = refl; long = refl } in
    let r1 = front_next _ _ 8 9 r0 c.put.ensures (omega (arith, c.spelled.type_inv)) refl (omega arith) in
    let r2 = front_next _ _ 32 41 r1 c.put-2.ensures (omega (arith, c.record_bytes.type_inv)) refl (omega arith) in
    r2.here ∙ append-nil (1 ∷ (c.spelled.result ++ c.record_bytes.result))
    ∙ (λ i. 1 ∷ (c.spelled.ensures i ++ c.record_bytes.ensures i))
