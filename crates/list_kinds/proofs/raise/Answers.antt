-- Two puts, the second where the first ended, fill the array.
use Rattle.std.proofs.Common.{refl, ℕ, List, [], ◌++◌, replicate, ap, ◌∙◌, arith}
use mathlib.Core.List.{append-nil}
use Rattle.seqs.specs.Over.{Front, front_next}
use Rattle.list_kinds.proofs.raise.Goals as goal

pub returns-clause-is : goal.returns-clause-is
returns-clause-is c =
    let d : List ℕ = replicate 40 0 in
    let r0 : Front d d [] 0 = record { here = refl; long = refl } in
    let r1 = front_next _ _ 32 32 r0 c.put.ensures c.well_formed.1.0.1.0.1 refl (omega arith) in
    let r2 = front_next _ _ 8 40 r1 c.put-2.ensures (omega (arith, c.spelled.type_inv)) refl (omega arith) in
    r2.here ∙ append-nil _ ∙ ap (λ (l : List ℕ). c.args.yn ++ l) c.spelled.ensures
