-- Three puts, each where the last one ended, fill the array.
use mathlib.Core.Path.{refl, ◌∙◌}
use mathlib.Core.List.{List, [], append-nil}
use Prim.Native.Nat.{ℕ}
use native.Mathlib.Omega.{arith}
use lib.ListN.{replicate}
use Rattle.seqs.specs.Over.{Front, front_next}
use Rattle.tree_kinds.proofs.path_lists.Goals as goal

pub returns : goal.returns
returns c =
    let p3 = c in
    let p2 = p3 in
    let p1 = p2 in
    let s = p1 in
    let d : List ℕ = replicate 96 0 in
    let r0 : Front d d [] 0 = record { here = refl; long = refl } in
    let r1 = front_next _ _ 32 32 r0 p1.put.ensures s.well_formed.0.1.0.1 refl (omega arith) in
    let r2 = front_next _ _ 32 64 r1 p2.put-2.ensures s.well_formed.1.0.1.0.1 refl (omega arith) in
    let r3 = front_next _ _ 32 96 r2 p3.put-3.ensures s.well_formed.1.1.0.1.0.1 refl (omega arith) in
    r3.here ∙ append-nil _
