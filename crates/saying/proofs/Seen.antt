-- What a search finds in memory is what the test finds in the tree, and its way is the way up from its slot.
use mathlib.Core.Path.{◌≡◌, refl, ap, ◌∙◌}
use mathlib.Core.Bool.{Bool, true, false}
use mathlib.Core.List.{List}
use Prim.Native.Nat.{ℕ, ◌+◌, ◌-◌, ◌<◌, ◌≤◌}
use native.Mathlib.Omega.{arith}
use native.Mathlib.Decide.{dec_lt}
use borrow.Author.Tests.{lt-ltb}
use Rattle.seqs.specs.First.{first_passes, first_none_before}
use Rattle.paper.specs.Strings.{Dig, record_hash}
use Rattle.rings.specs.Trees.{TreeLeaf, tip}
use Rattle.runs.specs.Ways.{has, found, way_to}
use Rattle.groves.specs.Grove.{grove, slots_of, tree_of, way_up}
use Rattle.groves.proofs.Groves.{slot_level}
use Rattle.groves.proofs.Found.{finds}
use Rattle.groves.proofs.Forks.{top_is}
use Rattle.groves.proofs.SlotLines.{slot_here}
use Rattle.rows.specs.declared.Row.{Row}
use Rattle.rows.specs.Rows.{row_at, rows_from, seek}
use Rattle.ringed.specs.Ringed.{leaf_by, leaves_by}
use Rattle.saying.proofs.Planned.{many, leaf_is}

module _ (D : List ℕ → Dig) (leaves : List ℕ) (k : ℕ) (p : TreeLeaf → Bool) where
  abbrev l : List TreeLeaf
  l = leaves_by (record_hash D) (rows_from leaves k 0)

  abbrev pub test_of : Row → Bool
  test_of r = p (leaf_by (record_hash D) r)

  pub record Seen (j : ℕ) : Type 0 where
    pub has_it : has p (tree_of (leaves_by (record_hash D) (rows_from leaves k 0))) ≡ true
    pub is_it : found p (tree_of (leaves_by (record_hash D) (rows_from leaves k 0))) ≡ leaf_by (record_hash D) (row_at leaves j)
    pub its_way : way_to p (tree_of (leaves_by (record_hash D) (rows_from leaves k 0)))
        ≡ way_up (slots_of (leaves_by (record_hash D) (rows_from leaves k 0))) 10 0 (1024 + j)

  slot_row : (i : ℕ) → i < k → slots_of l (1024 + i) ≡ tip (leaf_by (record_hash D) (row_at leaves i))
  slot_row i h = slot_here l i (omega (arith, many D leaves leaves k)) ∙ ap tip (leaf_is D leaves leaves k i h)

  -- no slot before the one found passes
  early : (j : ℕ) → j ≤ k → ((i : ℕ) → i < j → test_of (row_at leaves i) ≡ false) → (w : ℕ) → w < 1024 + j → has p (slots_of l w) ≡ false
  early j most f w h =
      elim (dec_lt w 1024) [
        | yes b ↦ rw (lt-ltb w 1024 b) refl
        | no b ↦ (
            let i = w - 1024 in
            let e : w ≡ 1024 + i = omega arith in
            ap (λ (u : ℕ). has p (slots_of l u)) e ∙ ap (has p) (slot_row i (omega arith)) ∙ f i (omega arith))
      ]

  pub seen : k ≤ 1024 → seek test_of leaves k 0 < k → Seen (seek test_of leaves k 0)
  unfolding grove
  seen room there =
      let j = seek test_of leaves k 0 in
      let t : ℕ → Bool = λ i. test_of (row_at leaves i) in
      let i = finds (slots_of l) p 10 (1024 + j) (leaf_by (record_hash D) (row_at leaves j)) 1 (slot_row j there)
      (first_passes t k j refl there) (top_is 10 (1024 + j) (slot_level j (omega arith)))
      (λ w b e. early j (omega arith) (first_none_before t k j refl) w b) in
      record { has_it = i.has_it; is_it = i.is_it; its_way = i.its_way }
