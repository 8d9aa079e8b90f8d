-- Tag and both items stand one behind the other.
use Rattle.std.proofs.Common.{refl, ℕ, List, [], ◌∷◌, ◌++◌, replicate, ◌∙◌, arith}
use Rattle.seqs.specs.Over.{Front, front_next}
use Rattle.records.proofs.Regroup.{behind2}
use Rattle.question_kinds.proofs.gap.Goals as goal

pub returns : goal.returns
returns c =
    let d : List ℕ = replicate 17 3 in
    let r0 : Front d d (3 ∷ []) 1 = record { here = refl; long = refl } in
    let r1 = front_next _ _ 8 9 r0 c.put.ensures (omega (arith, c.spelled.type_inv)) refl (omega arith) in
    let r2 = front_next _ _ 8 17 r1 c.put-2.ensures (omega (arith, c.spelled-2.type_inv)) refl (omega arith) in
    r2.here ∙ behind2 (3 ∷ []) c.spelled.result c.spelled-2.result
    ∙ (λ i. 3 ∷ (c.spelled.ensures i ++ (c.spelled-2.ensures i ++ [])))
