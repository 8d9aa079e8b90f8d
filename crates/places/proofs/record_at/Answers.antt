-- The four numbers at their places.
use mathlib.Core.Path.{◌∙◌}
use native.Mathlib.Nat.{add-zero}
use native.Mathlib.Omega.{arith}
use Rattle.places.proofs.Places.{number_inside}
use borrow.Author.Rules.{rules}
use Rattle.places.proofs.record_at.Goals as goal

pub returns : goal.returns
returns c =
    let c1 = c in
    let a = c1.args in
    let there = number_inside a.f.now a.at 32 in
    let revision = c1.number_at.ensures ∙ simp add-zero at (there 0 (omega arith)) in
    let mass = c.number_at-2.ensures ∙ there 8 (omega arith) in
    let offset = c.number_at-3.ensures ∙ there 16 (omega arith) in
    let rigging = c.number_at-4.ensures ∙ there 24 (omega arith) in
    λ i.
    record {
      revision = record { 0 = revision i };
      mass = record { 0 = mass i };
      offset = record { 0 = offset i };
      rigging = record { 0 = rigging i };
    }
