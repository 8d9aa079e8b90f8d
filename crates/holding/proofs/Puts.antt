-- Leaves put one after the other into memory with room are there, and their tree is kept.
use mathlib.Core.Path.{◌≡◌, refl, sym, subst, ◌∙◌}
use mathlib.Core.List.{List, [], ◌∷◌, ◌++◌, append-nil, append_assoc}
use Prim.Native.Nat.{ℕ, ◌+◌, ◌*◌, ◌<◌, ◌≤◌}
use native.Mathlib.Omega.{arith}
use lib.ListN.{length, length-append}
use Rattle.paper.specs.Strings.{Dig, record_hash}
use Rattle.rings.specs.Trees.{TreeLeaf, tip}
use Rattle.rows.specs.declared.Row.{Row}
use Rattle.rows.specs.Rows.{row_numbers, row_at, row_digest, rows_from, row_put}
use Rattle.rows.proofs.Puts.{row_there, row_else}
use Rattle.slots.specs.Nodes.{leaf_put}
use Rattle.groves.specs.Grove.{slots_of, Kept}
use Rattle.groves.proofs.Stored.{append_slot, kept_same}
use Rattle.groves.proofs.Puts.{put_kept}
use Rattle.ringed.specs.Ringed.{leaf_by, leaves_by}
use Rattle.memory.specs.Memory.{leaves_put, digests_put}
use Rattle.memory.proofs.Puts.{row_length}

-- ── numbers ──

-- a leaf before them stays
before_them : (rs : List Row) (i j : ℕ) (m : List ℕ) → j < i → row_numbers * (i + length rs) ≤ length m
    → row_at (leaves_put rs i m) j ≡ row_at m j
before_them [] i j m h room = refl
before_them (r ∷ l) i j m h room =
    before_them l (i + 1) j (row_put m i r) (omega arith) (omega (arith, row_length m i r))
    ∙ row_else m i r (omega arith) j (λ e. omega arith)

pub put_there : (rs : List Row) (i : ℕ) (m : List ℕ) → row_numbers * (i + length rs) ≤ length m
    → rows_from (leaves_put rs i m) (length rs) i ≡ rs
put_there [] i m room = refl
put_there (r ∷ l) i m room =
    let kept : row_numbers * (i + 1 + length l) ≤ length (row_put m i r) = omega (arith, row_length m i r) in
    let here : row_at (leaves_put l (i + 1) (row_put m i r)) i ≡ r =
    before_them l (i + 1) i (row_put m i r) (omega arith) kept ∙ row_there m i r (omega arith) in
    let behind = put_there l (i + 1) (row_put m i r) kept in
    (λ t. here t ∷ behind t)

-- ── digests ──

module _ (D : List ℕ → Dig) (D32 : (l : List ℕ) → length (D l) ≡ 32) where
  -- leaves in the slots from 0 on, and more put behind them
  puts_kept : (rs : List Row) (ls : List TreeLeaf) (i : ℕ) (m : List ℕ) → length ls ≡ i → i + length rs ≤ 1024 → Kept D (slots_of ls) m
      → Kept D (slots_of (ls ++ leaves_by (record_hash D) rs)) (digests_put D rs i m)
  puts_kept [] ls i m e h k = subst (λ (x : List TreeLeaf). Kept D (slots_of x) m) (sym (append-nil ls)) k
  puts_kept (r ∷ l) ls i m e h k =
      let x = leaf_by (record_hash D) r in
      let put : Kept D (slots_of (ls ++ (x ∷ []))) (leaf_put D m i (row_digest D r)) =
      subst (λ (n : ℕ). Kept D (slots_of (ls ++ (x ∷ []))) (leaf_put D m n (row_digest D r))) e
      (kept_same D _ _ _ (append_slot ls x) (put_kept D D32 (slots_of ls) m (length ls) (tip x) (omega arith) (D32 _) k)) in
      subst (λ (y : List TreeLeaf). Kept D (slots_of y) (digests_put D (r ∷ l) i m)) (append_assoc ls (x ∷ []) (leaves_by (record_hash D) l))
      (puts_kept l (ls ++ (x ∷ [])) (i + 1) (leaf_put D m i (row_digest D r)) (simp length-append (omega arith)) (omega arith) put)

  pub leaves_kept : (rs : List Row) (m : List ℕ) → length rs ≤ 1024 → Kept D (slots_of []) m
      → Kept D (slots_of (leaves_by (record_hash D) rs)) (digests_put D rs 0 m)
  leaves_kept rs m h k = puts_kept rs [] 0 m refl (omega arith) k
