-- Tag and item stand one behind the other.
use Rattle.std.proofs.Common.{refl, ℕ, List, [], ◌∷◌, ◌++◌, replicate, ◌∙◌, arith}
use Rattle.seqs.specs.Over.{Front, front_next}
use Rattle.question_kinds.proofs.listed.Goals as goal

pub returns : goal.returns
returns c =
    let d : List ℕ = replicate 9 2 in
    let r0 : Front d d (2 ∷ []) 1 = record { here = refl; long = refl } in
    let r1 = front_next _ _ 8 9 r0 c.put.ensures (omega (arith, c.spelled.type_inv)) refl (omega arith) in
    r1.here ∙ (λ i. 2 ∷ (c.spelled.ensures i ++ []))
