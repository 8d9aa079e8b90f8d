-- Memory that has rows in its slots from 0 on, and their tree, whether or not they are one ring: a row put, one more, and the last gone.
use mathlib.Core.Path.{◌≡◌, refl, sym, ap, ap₂, subst, ◌∙◌}
use mathlib.Core.List.{List, [], ◌∷◌, ◌++◌}
use Prim.Native.Nat.{ℕ, zero, suc, ◌+◌, ◌*◌, ◌<◌, ◌≤◌}
use native.Mathlib.Omega.{arith}
use native.Mathlib.Decide.{ℕ_discrete}
use borrow.Author.Tests.{eq-eqb, ne_eqb}
use lib.ListN.{length, set, length-set, length-append}
use Rattle.seqs.specs.Choose.{Every}
use Rattle.paper.specs.declared.Record.{Record}
use Rattle.paper.specs.Strings.{Dig, nought, record_hash}
use Rattle.rings.specs.Trees.{TreeLeaf, empty, tip, hash_of}
use Rattle.runs.proofs.Parts.{IsDigest}
use Rattle.slots.specs.Nodes.{slot_count, node_at, leaf_put}
use Rattle.groves.specs.Grove.{with, grove, slots_of, tree_of, Kept}
use Rattle.groves.proofs.Groves.{kept_node}
use Rattle.groves.proofs.Stored.{set_slot, append_slot, append_other, kept_same}
use Rattle.groves.proofs.SlotLines.{slot_past}
use Rattle.groves.proofs.Puts.{put_kept}
use Rattle.rows.specs.declared.Row.{Row}
use Rattle.rows.specs.Rows.{row_numbers, row_at, rows_from, row_put, row_digest}
use Rattle.rows.proofs.Puts.{row_there, row_else, rows_put}
use Rattle.ringed.specs.Ringed.{leaf_by, leaves_by, Closed}
use Rattle.store.specs.RoundTrip.{Storable}
use Rattle.memory.proofs.Puts.{row_length}
use Rattle.holding.specs.Holding.{Holds}

-- all of `Holds` but the ring
pub record Laid (D : List ℕ → Dig) (rs : List Row) (leaves nodes : List ℕ) (k : ℕ) : Type 0 where
  pub size : length rs ≡ k
  pub few : k ≤ slot_count
  pub room : row_numbers * slot_count ≤ length leaves
  pub there : rows_from leaves k 0 ≡ rs
  pub storable : Every Storable rs
  pub kept : Kept D (slots_of (leaves_by (record_hash D) rs)) nodes

module _ {D : List ℕ → Dig} {rs : List Row} {leaves nodes : List ℕ} {k : ℕ} where
  pub laid_by : Holds D rs leaves nodes k → Laid D rs leaves nodes k
  laid_by h =
      record {
        size = h.size;
        few = h.few;
        room = h.room;
        there = h.there;
        storable = h.storable;
        kept = h.kept;
      }

  pub held_by : Laid D rs leaves nodes k → Closed rs → Holds D rs leaves nodes k
  held_by l c =
      record {
        size = l.size;
        few = l.few;
        room = l.room;
        there = l.there;
        storable = l.storable;
        closed = c;
        kept = l.kept;
      }

-- memory's root is that of the tree
pub kept_root : (D : List ℕ → Dig) (l : List TreeLeaf) (m : List ℕ) → Kept D (slots_of l) m → hash_of D (tree_of l) ≡ node_at m 1
unfolding grove
kept_root D l m k = sym (kept_node D (slots_of l) m k 10 0 1 refl (record { from = omega arith; till = omega arith }))

-- a row's digest is one
pub row_digest_lem : {D : List ℕ → Dig} → ((l : List ℕ) → IsDigest (D l)) → (r : Row) → IsDigest (row_digest D r)
row_digest_lem DD r = DD _

-- ── rows and their leaves ──

module _ (h : Record → Dig) where
  pub leaves_many : (l : List Row) → length (leaves_by h l) ≡ length l
  leaves_many [] = refl
  leaves_many (r ∷ l) = omega (arith, leaves_many l)

  pub leaves_set : (l : List Row) (i : ℕ) (r : Row) → leaves_by h (set l i r) ≡ set (leaves_by h l) i (leaf_by h r)
  leaves_set [] i r = refl
  leaves_set (x ∷ l) zero r = refl
  leaves_set (x ∷ l) (suc i) r = ap (λ (t : List TreeLeaf). leaf_by h x ∷ t) (leaves_set l i r)

  pub leaves_append : (l : List Row) (r : Row) → leaves_by h (l ++ (r ∷ [])) ≡ leaves_by h l ++ (leaf_by h r ∷ [])
  leaves_append [] r = refl
  leaves_append (x ∷ l) r = ap (λ (t : List TreeLeaf). leaf_by h x ∷ t) (leaves_append l r)

module _ (P : Row → Type 0) where
  every_set : (l : List Row) (i : ℕ) (r : Row) → P r → Every P l → Every P (set l i r)
  every_set [] i r p k = tt
  every_set (x ∷ l) zero r p k = (p, k.1)
  every_set (x ∷ l) (suc i) r p k = (k.0, every_set l i r p k.1)

  every_append : (l : List Row) (r : Row) → P r → Every P l → Every P (l ++ (r ∷ []))
  every_append [] r p k = (p, tt)
  every_append (x ∷ l) r p k = (k.0, every_append l r p k.1)

  every_front : (l : List Row) (r : Row) → Every P (l ++ (r ∷ [])) → Every P l
  every_front [] r k = tt
  every_front (x ∷ l) r k = (k.0, every_front l r k.1)

-- the rows before one that is put
rows_before : (m : List ℕ) (k : ℕ) (r : Row) → row_numbers * k + row_numbers ≤ length m → (n i : ℕ) → i + n ≤ k
    → rows_from (row_put m k r) n i ≡ rows_from m n i
rows_before m k r room zero i h = refl
rows_before m k r room (suc n) i h =
    (λ t. row_else m k r room i (λ e. omega arith) t ∷ rows_before m k r room n (i + 1) (omega arith) t)

pub rows_last : (m : List ℕ) (n i : ℕ) → rows_from m (suc n) i ≡ rows_from m n i ++ (row_at m (i + n) ∷ [])
rows_last m zero i = let e : i ≡ i + 0 = omega arith in ap (λ (j : ℕ). row_at m j ∷ []) e
rows_last m (suc n) i =
    let e : i + 1 + n ≡ i + suc n = omega arith in
    ap (λ (l : List Row). row_at m i ∷ l) (rows_last m n (i + 1) ∙ ap (λ (j : ℕ). rows_from m n (i + 1) ++ (row_at m j ∷ [])) e)

-- ── changes ──

module _ (D : List ℕ → Dig) (D32 : (l : List ℕ) → length (D l) ≡ 32) where
  -- another row in a slot
  pub put_laid : (rs : List Row) (leaves nodes : List ℕ) (k i : ℕ) (r : Row) → Laid D rs leaves nodes k → i < k → Storable r
      → Laid D (set rs i r) (row_put leaves i r) (leaf_put D nodes i (row_digest D r)) k
  put_laid rs leaves nodes k i r l h t =
      let ls = leaves_by (record_hash D) rs in
      let x = leaf_by (record_hash D) r in
      let most = l.few in
      let z : 0 + i ≡ i = omega arith in
      record {
        size = length-set rs i r ∙ l.size;
        few = l.few;
        room = omega (arith, l.room, row_length leaves i r);
        there =
            rows_put leaves i r (omega (arith, l.room, h, most)) k 0 i z h ∙ ap (λ (a : List Row). set a i r) l.there;
        storable = every_set Storable rs i r t l.storable;
        kept =
            subst (λ (a : List TreeLeaf). Kept D (slots_of a) (leaf_put D nodes i (hash_of D (tip x)))) (sym (leaves_set (record_hash D) rs i r))
            (kept_same D _ _ _ (set_slot ls i x (omega (arith, h, leaves_many (record_hash D) rs, l.size)))
            (put_kept D D32 (slots_of ls) nodes i (tip x) (omega (arith, h, most)) (D32 _) l.kept));
      }

  -- one more, in the first free slot
  pub append_laid : (rs : List Row) (leaves nodes : List ℕ) (k : ℕ) (r : Row) → Laid D rs leaves nodes k → k < slot_count → Storable r
      → Laid D (rs ++ (r ∷ [])) (row_put leaves k r) (leaf_put D nodes k (row_digest D r)) (k + 1)
  append_laid rs leaves nodes k r l h t =
      let ls = leaves_by (record_hash D) rs in
      let x = leaf_by (record_hash D) r in
      let long : length ls ≡ k = leaves_many (record_hash D) rs ∙ l.size in
      let fits : row_numbers * k + row_numbers ≤ length leaves = omega (arith, l.room) in
      let z : 0 + k ≡ k = omega arith in
      let more : k + 1 ≡ suc k = omega arith in
      record {
        size = simp length-append (omega (arith, l.size));
        few = omega arith;
        room = omega (arith, l.room, row_length leaves k r);
        there =
            ap (λ (n : ℕ). rows_from (row_put leaves k r) n 0) more ∙ rows_last (row_put leaves k r) k 0
            ∙ ap₂ (λ (a : List Row) (b : Row). a ++ (b ∷ [])) (rows_before leaves k r fits k 0 (omega arith) ∙ l.there)
            (ap (row_at (row_put leaves k r)) z ∙ row_there leaves k r fits);
        storable = every_append Storable rs r t l.storable;
        kept =
            subst (λ (a : List TreeLeaf). Kept D (slots_of a) (leaf_put D nodes k (hash_of D (tip x)))) (sym (leaves_append (record_hash D) rs r))
            (subst (λ (n : ℕ). Kept D (slots_of (ls ++ (x ∷ []))) (leaf_put D nodes n (hash_of D (tip x)))) long
            (kept_same D _ _ _ (append_slot ls x)
            (put_kept D D32 (slots_of ls) nodes (length ls) (tip x) (omega (arith, long, h)) (D32 _) l.kept)));
      }

  -- the last slot free again, whatever numbers its row then has
  pub drop_laid : (rs : List Row) (leaves nodes : List ℕ) (k : ℕ) (r z : Row) → Laid D (rs ++ (r ∷ [])) leaves nodes (suc k)
      → Laid D rs (row_put leaves k z) (leaf_put D nodes k nought) k
  drop_laid rs leaves nodes k r z l =
      let ls = leaves_by (record_hash D) rs in
      let x = leaf_by (record_hash D) r in
      let size : length rs ≡ k = omega (arith, l.size, length-append rs (r ∷ [])) in
      let long : length ls ≡ k = leaves_many (record_hash D) rs ∙ size in
      let most = l.few in
      let fits : row_numbers * k + row_numbers ≤ length leaves = omega (arith, l.room, most) in
      record {
        size = size;
        few = omega (arith, most);
        room = omega (arith, l.room, row_length leaves k z);
        there = rows_before leaves k z fits k 0 (omega arith) ∙ front rs (rows_from leaves k 0) _ r (sym (rows_last leaves k 0) ∙ l.there);
        storable = every_front Storable rs r l.storable;
        kept =
            subst (λ (n : ℕ). Kept D (slots_of ls) (leaf_put D nodes n nought)) long
            (kept_same D _ _ _ (freed ls x)
            (put_kept D D32 (slots_of (ls ++ (x ∷ []))) nodes (length ls) empty (omega (arith, long, most)) refl
            (subst (λ (a : List TreeLeaf). Kept D (slots_of a) nodes) (leaves_append (record_hash D) rs r) l.kept)));
      }
    where
      -- what stands before the last of two equal lists
      front : (a b : List Row) (u v : Row) → b ++ (u ∷ []) ≡ a ++ (v ∷ []) → b ≡ a
      front [] [] u v e = refl
      front [] (y ∷ b) u v e = absurd (omega (arith, ap length e, length-append b (u ∷ [])))
      front (x ∷ a) [] u v e = absurd (omega (arith, ap length e, length-append a (v ∷ [])))
      front (x ∷ a) (y ∷ b) u v e =
          let p : y ≡ x = cc in
          let q : b ++ (u ∷ []) ≡ a ++ (v ∷ []) = cc in
          ap₂ (λ (c : Row) (d : List Row). c ∷ d) p (front a b u v q)

      freed : (ls : List TreeLeaf) (x : TreeLeaf) (w : ℕ)
          → with (slots_of (ls ++ (x ∷ []))) (1024 + length ls) empty w ≡ slots_of ls w
      freed ls x w =
          elim (ℕ_discrete w (1024 + length ls)) [
            | yes e ↦ rw (eq-eqb w (1024 + length ls) e) (sym (ap (slots_of ls) e ∙ slot_past ls (length ls) (omega arith)))
            | no n ↦ rw (ne_eqb w (1024 + length ls) n) (sym (append_other ls x w n))
          ]
