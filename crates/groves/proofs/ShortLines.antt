-- The ways of a tree of ten levels are short: each is one path. So an insert has eight lines, and an exchange and a removal of the last
-- leaf have seven.
use mathlib.Core.Path.{◌≡◌, refl}
use mathlib.Core.List.{List, [], ◌∷◌, ◌++◌}
use Prim.Native.Nat.{ℕ, zero, suc, ◌-◌, ◌/◌, ◌≤◌}
use native.Mathlib.Nat.{not-suc-le-zero}
use native.Mathlib.Omega.{arith}
use lib.ListN.{length}
use Rattle.paper.specs.declared.Registers.{Registers}
use Rattle.paper.specs.Strings.{Dig}
use Rattle.rings.specs.Trees.{Tree}
use Rattle.runs.specs.Ways.{Way, in_paths, Fork, Edit, risen, parents}
use Rattle.runs.specs.Honest.{path_up, one_place, pair_up, raise_up, two_places}
use Rattle.slots.specs.Nodes.{ancestor, meeting}
use Rattle.slots.proofs.Turns.{meeting_most}
use Rattle.groves.specs.Grove.{way_up, fork_at}

pub way_length : (f : ℕ → Tree) (n h v : ℕ) → length (way_up f n h v) ≡ n
way_length f zero h v = refl
way_length f (suc n) h v = omega (arith, way_length f n (suc h) (v / 2))

one_part : (room : ℕ) (p : Way) → length p ≤ room → in_paths room p ≡ record { lowest = p; higher = [] }
one_part room [] h = refl
one_part zero (v ∷ p) h = absurd (not-suc-le-zero h)
one_part (suc room) (v ∷ p) h = rw (one_part room p (omega arith)) refl

-- every way of a fork is short
pub record Short (f : Fork) : Type 0 where
  pub left : length f.left ≤ 10
  pub right : length f.right ≤ 10
  pub above : length f.above ≤ 10

pub fork_short : (f : ℕ → Tree) (u v : ℕ) → Short (fork_at f u v)
fork_short f u v =
    let k = meeting_most 9 u v in
    record {
      left = omega (arith, k, way_length f (meeting 9 u v) 0 u);
      right = omega (arith, k, way_length f (meeting 9 u v) 0 v);
      above = omega (arith, way_length f (9 - meeting 9 u v) (suc (meeting 9 u v)) (ancestor (suc (meeting 9 u v)) u));
    }

module _ (D : List ℕ → Dig) (s : Registers) where
  pub one_path : (p : Way) (x : Edit) → length p ≤ 10 → one_place D s p x ≡ path_up D s p x ∷ []
  one_path p x h = rw (one_part 64 p (omega arith)) refl

  pub five_lines : (f : Fork) (a b : Edit) → Short f
      → (let y = risen D f.left a in let z = risen D f.right b in let n = parents D y z in
      two_places D s f a b
      ≡ path_up D s f.left a ∷ path_up D s f.right b ∷ pair_up D s a y b z ∷ path_up D s f.above n
      ∷ raise_up D s a b n (risen D f.above n) ∷ [])
  five_lines f a b k =
      let y = risen D f.left a in
      let z = risen D f.right b in
      let n = parents D y z in
      (λ i.
      one_path f.left a k.left i
      ++ (one_path f.right b k.right i
      ++ (pair_up D s a y b z ∷ (one_path f.above n k.above i ++ (raise_up D s a b n (risen D f.above n) ∷ [])))))
