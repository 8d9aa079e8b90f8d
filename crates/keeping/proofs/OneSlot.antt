-- A plan that changes one slot: memory once it has been accepted. And trees of one leaf or none, whose root is that leaf's digest or zero.
use mathlib.Core.Path.{◌≡◌, refl, sym, ap, ◌∙◌}
use mathlib.Core.Bool.{Bool, true, false}
use mathlib.Core.List.{List, [], ◌∷◌}
use Prim.Native.Nat.{ℕ, zero, suc, ◌+◌, ◌*◌, ◌/◌, ◌%◌, ◌<◌}
use native.Mathlib.Omega.{arith}
use borrow.Author.Tests.{ne_eqb}
use lib.Dec.{ltb}
use Rattle.seqs.specs.Choose.{pick}
use Rattle.paper.specs.declared.Registers.{Registers}
use Rattle.paper.specs.Strings.{Dig, nought, H}
use Rattle.rings.specs.Trees.{TreeLeaf, Tree, empty, tip, hash_of}
use Rattle.runs.specs.Ways as W
use Rattle.runs.specs.Ways.{Way, rise}
use Rattle.runs.specs.Honest.{alone}
use Rattle.runs.proofs.Parts.{IsDigest}
use Rattle.runs.proofs.Climbs.{nought_digest, IsEdit}
use Rattle.slots.specs.Nodes.{leaf_put}
use Rattle.groves.specs.Grove.{tree_at, grove, slots_of, tree_of, way_up, Kept}
use Rattle.groves.proofs.Groves.{rises, way_same}
use Rattle.groves.proofs.Stored.{append_other}
use Rattle.rows.specs.Rows.{row_put}
use Rattle.edits.specs.declared.Change.{Change}
use Rattle.edits.specs.Changes.{one_place}
use Rattle.edits.proofs.Places.{one_is}
use Rattle.plans.specs.declared.Plan.{Plan}
use Rattle.hearing.specs.Hearing.{of_two, committed_leaves, committed_nodes}
use Rattle.rising.proofs.Rising.{one_risen}
use Rattle.keeping.specs.Talking.{Tablet}
use Rattle.keeping.proofs.Ends.{committed}

-- slot i changes: its row and its digest put
pub committed_one : (D : List ℕ → Dig) (x : Tablet) (F : ℕ → Tree) → Kept D F x.nodes → (i : ℕ) (d : Dig) (P : Plan) → i < 1024
    → P.change ≡ one_place D x.nodes i d → of_two P.script ≡ false
    → committed D x P
    ≡ record {
      count = P.after.count;
      counter = P.after.counter;
      leaves = row_put x.leaves i P.after.left;
      nodes = leaf_put D x.nodes i d;
    }
unfolding committed_leaves committed_nodes
committed_one D x F k i d P room change_is only =
    let at : P.change.left ≡ i = ap (λ (e : Change). e.left) (change_is ∙ sym (one_is D x.nodes i d room)) in
    let becomes : P.change.a.becomes ≡ d =
    ap (λ (e : Change). e.a.becomes) change_is ∙ ap (λ (e : W.Edit). e.becomes) (one_risen D F x.nodes k i d room).leaf in
    (λ n.
    let one = row_put x.leaves P.change.left P.after.left in
    let node = leaf_put D x.nodes P.change.left P.change.a.becomes in
    record {
      count = P.after.count;
      counter = P.after.counter;
      leaves = pick (only n) (row_put one P.change.right P.after.right) one;
      nodes = pick (only n) (leaf_put D node P.change.right P.change.b.becomes) node;
    })
    ∙ (λ n. record {
      count = P.after.count;
      counter = P.after.counter;
      leaves = row_put x.leaves (at n) P.after.left;
      nodes = leaf_put D x.nodes (at n) (becomes n);
    })

-- ── one leaf or none ──

-- n times doubled
abbrev doubled : ℕ → ℕ → ℕ
doubled zero v = v
doubled (suc n) v = 2 * doubled n v

module _ (D : List ℕ → Dig) where
  none_below : (n v : ℕ) → hash_of D (tree_at (slots_of []) n v) ≡ nought
  unfolding H
  none_below zero v = by_test (ltb v 1024)
    where
      by_test : (b : Bool) → hash_of D (pick b empty empty) ≡ nought
      by_test true = refl
      by_test false = refl
  none_below (suc n) v = (λ e. H D (none_below n (2 * v) e) (none_below n (2 * v + 1) e))

  pub none_root : hash_of D (tree_of []) ≡ nought
  unfolding grove
  none_root = none_below 10 1

  -- up the left side of a tree without leaves nothing changes
  rise_left : (n h v : ℕ) (d : Dig) → rise D (way_up (slots_of []) n h (doubled n v)) d ≡ d
  unfolding H
  rise_left zero h v d = refl
  rise_left (suc n) h v d =
      let m = doubled n v in
      let half : 2 * m / 2 ≡ m = omega arith in
      rw (ne_eqb (2 * m % 2) 1 (λ e. omega arith), half)
      (ap (λ (e : Dig). rise D (way_up (slots_of []) n (suc h) m) (H D d e)) (none_below h (2 * m + 1)) ∙ rise_left n (suc h) v d)

  -- nor beside one leaf in the first slot
  pub rise_first : (z : TreeLeaf) (d : Dig) → rise D (way_up (slots_of (z ∷ [])) 10 0 1024) d ≡ d
  rise_first z d =
      ap (λ (p : Way). rise D p d) (way_same (slots_of (z ∷ [])) (slots_of []) 10 0 1024 (λ w e t. sym (append_other [] z w e)))
      ∙ rise_left 10 0 1 d

  pub rise_none : (d : Dig) → rise D (way_up (slots_of []) 10 0 1024) d ≡ d
  rise_none d = rise_left 10 0 1 d

  pub alone_root : (z : TreeLeaf) → hash_of D (tree_of (z ∷ [])) ≡ hash_of D (tip z)
  unfolding grove
  alone_root z = sym (rises (slots_of (z ∷ [])) D 10 0 1024) ∙ rise_first z (hash_of D (tip z))

-- the digests of a list with one item and of the empty one
pub alone_digests : (D : List ℕ → Dig) → ((l : List ℕ) → IsDigest (D l)) → (s : Registers) (A : ℕ) → IsEdit (alone D s A)
alone_digests D DD s A = record { old = nought_digest; new = DD _ }
