-- One level of a path's fold, its end, and what a parent and a level cost.
use mathlib.Core.Path.{◌≡◌, refl, sym, ap, ◌∙◌}
use mathlib.Core.Bool.{Bool, true, false}
use mathlib.Core.List.{List, [], ◌∷◌}
use native.Mathlib.Decide.{dec_le}
use Prim.Native.Nat.{min, ℕ, suc, ◌+◌, ◌/◌, ◌%◌, ◌<◌, ◌≤◌}
use native.Mathlib.Numerals.{add-one}
use native.Mathlib.Omega.{arith}
use lib.Dec.{eqb}
use lib.ListN.{length, get_or, take, drop, drop_of_length-le}
use lib.Seq.{drop-cons, take_all}
use Rattle.seqs.specs.Choose.{pick}
use Rattle.seqs.specs.Bytes.{all_zero}
use Rattle.sha256.specs.Hash.{sha256}
use Rattle.paper.specs.Strings.{Dig, node, cost, parent_forms, up, up_forms, fold_up, fold_forms}
use Rattle.digests.specs.declared.Digest.{Digest}
use Rattle.digests.specs.Worked.{worked}
use Rattle.paper.proofs.Ceilings.{cost_append}

parent_by : (u v : Dig) (a b : Bool) → cost (pick a [] (pick b [] (node u v ∷ []))) ≤ 2
parent_by u v true b = omega arith
parent_by u v false true = omega arith
parent_by u v false false = omega arith

pub parent_cost : (u v : Dig) → cost (parent_forms u v) ≤ 2
unfolding parent_forms
parent_cost u v = parent_by u v (all_zero v) (all_zero u)

level_by : (u s : Dig) (b : Bool) → cost (pick b (parent_forms s u) (parent_forms u s)) ≤ 2
level_by u s true = parent_cost s u
level_by u s false = parent_cost u s

pub level_cost : (u s : Dig) (bit : ℕ) → cost (up_forms sha256 u s bit) ≤ 2
level_cost u s bit = level_by u s (eqb bit 1)

-- one level: d is what was worked for the sibling s at place i
module _ (u : Dig) (bits : ℕ) (l : List Dig) (i : ℕ) (s : Dig) (g : get_or l i [] ≡ s) (h : i < length l) (d : Digest)
    (e : d ≡ worked (up sha256 u s (bits % 2)) (up_forms sha256 u s (bits % 2))) where
  pub up_next : fold_up sha256 u bits (drop i l) ≡ fold_up sha256 d.bytes (bits / 2) (drop (i + 1) l)
  up_next = rw (drop-cons l i [] h, add-one, g, e) refl

  pub forms_next : (b n : ℕ) → n ≡ b + cost (fold_forms sha256 u bits (drop i l))
      → n ≡ b + d.blocks + cost (fold_forms sha256 d.bytes (bits / 2) (drop (i + 1) l))
  forms_next b n k =
      let rest = fold_forms sha256 (up sha256 u s (bits % 2)) (bits / 2) (drop (suc i) l) in
      let q : cost (fold_forms sha256 u bits (drop i l))
      ≡ d.blocks + cost (fold_forms sha256 d.bytes (bits / 2) (drop (i + 1) l)) =
      rw (drop-cons l i [] h, add-one, g, e) (cost_append (up_forms sha256 u s (bits % 2)) rest) in
      omega (arith, k, q)

pub up_end : (u : Dig) (bits : ℕ) (l : List Dig) (i : ℕ) → length l ≤ i → fold_up sha256 u bits (drop i l) ≡ u
up_end u bits l i h = rw (drop_of_length-le l h)

pub forms_end : (u : Dig) (bits : ℕ) (l : List Dig) (i : ℕ) → length l ≤ i → cost (fold_forms sha256 u bits (drop i l)) ≡ 0
forms_end u bits l i h = rw (drop_of_length-le l h)

-- more siblings than there are are all of them
pub take_least : (l : List Dig) (n k : ℕ) → length l ≡ 64 → k ≡ min n 64 → take k l ≡ take n l
take_least l n k h e =
    elim (dec_le n 64) [
      | yes m ↦ ap (λ (i : ℕ). take i l) (omega (arith, e, m))
      | no m ↦ take_all k l (omega (arith, e, m)) ∙ sym (take_all n l (omega (arith, m)))
    ]
