-- The lines of the plans of insert, exchange and removal, from memory that keeps the tree of its leaves.
use mathlib.Core.Path.{◌≡◌, refl, sym, ap, ap₂, ◌∙◌}
use mathlib.Core.List.{List, [], ◌∷◌, ◌++◌}
use Prim.Native.Nat.{ℕ, zero, suc, ◌+◌, ◌-◌, ◌<◌, ◌≤◌}
use native.Mathlib.Nat.{not-suc-le-zero}
use native.Mathlib.Omega.{arith}
use lib.ListN.{length}
use Rattle.paper.specs.declared.Registers.{Registers}
use Rattle.paper.specs.declared.Record.{Record}
use Rattle.paper.specs.declared.Item.{Item}
use Rattle.paper.specs.declared.Revision.{Revision}
use Rattle.paper.specs.Strings.{Dig, nought, empty_record, record_hash, leaf, digest_of}
use Rattle.paper.specs.Requests.{Request}
use Rattle.rings.specs.Trees.{TreeLeaf, tip, hash_of}
use Rattle.runs.specs.Ways as W
use Rattle.runs.specs.Ways.{item_of, next_of, hash_in, Fork}
use Rattle.runs.specs.Honest.{turned_round, turn_round, take_over, without, placed}
use Rattle.slots.specs.Nodes.{node_at}
use Rattle.groves.specs.Grove.{slots_of, fork_at, Kept}
use Rattle.groves.specs.SlotLines.{leaf_at, slot_fork, insert_at, swap_at, drop_at}
use Rattle.groves.proofs.SlotLines.{slot_here, slot_past}
use Rattle.rows.specs.Rows.{row_at, rows_from, seek, gap_of, leading_to, row_digest}
use Rattle.wishes.specs.Words.{own_place}
use Rattle.ringed.specs.Ringed.{leaf_by, leaves_by}
use Rattle.plans.specs.declared.Script.TheVariants.{Inserting, Swapping, Dropping}
use Rattle.plans.specs.Plans.{place_plan, plain_plan, inserting, swapping, dropping}
use Rattle.asking.specs.Saying.{start_of}
use Rattle.rising.proofs.Rising.{two_risen}
use Rattle.saying.specs.Spoken.{spoken}
use Rattle.saying.proofs.Forked.{Forks}
use Rattle.saying.proofs.Changed.{sent_up, Places, sent_root, insert_spoken, drop_spoken, swap_spoken}

-- ── leaves of memory ──

leaves_length : (h : Record → Dig) (m : List ℕ) (n i : ℕ) → length (leaves_by h (rows_from m n i)) ≡ n
leaves_length h m zero i = refl
leaves_length h m (suc n) i = omega (arith, leaves_length h m n (i + 1))

leaf_there : (h : Record → Dig) (m : List ℕ) (n i j : ℕ) → j < n → leaf_at (leaves_by h (rows_from m n i)) j ≡ leaf_by h (row_at m (i + j))
leaf_there h m zero i j b = absurd (not-suc-le-zero b)
leaf_there h m (suc n) i zero b = let e : i ≡ i + 0 = omega arith in ap (λ (k : ℕ). leaf_by h (row_at m k)) e
leaf_there h m (suc n) i (suc j) b =
    let e : i + 1 + j ≡ i + suc j = omega arith in
    leaf_there h m n (i + 1) j (omega arith) ∙ ap (λ (k : ℕ). leaf_by h (row_at m k)) e

module _ (D : List ℕ → Dig) (leaves m : List ℕ) (k : ℕ) where
  no_record_lem : record_hash D empty_record ≡ nought
  unfolding record_hash
  no_record_lem = refl

  -- the leaves that memory has, as the tree has them
  abbrev pub leaves_in : List TreeLeaf
  leaves_in = leaves_by (record_hash D) (rows_from leaves k 0)

  pub many : length (leaves_by (record_hash D) (rows_from leaves k 0)) ≡ k
  many = leaves_length (record_hash D) leaves k 0

  pub leaf_is : (i : ℕ) → i < k → leaf_at (leaves_by (record_hash D) (rows_from leaves k 0)) i ≡ leaf_by (record_hash D) (row_at leaves i)
  leaf_is i h = let e : 0 + i ≡ i = omega arith in leaf_there (record_hash D) leaves k 0 i h ∙ ap (λ (j : ℕ). leaf_by (record_hash D) (row_at leaves j)) e

  -- what stands in a slot: a row's digest, or nothing
  pub slot_digest : (i : ℕ) → i < k → hash_of D (slots_of leaves_in (1024 + i)) ≡ row_digest D (row_at leaves i)
  slot_digest i h = ap (hash_of D) (slot_here leaves_in i (omega (arith, many)) ∙ ap tip (leaf_is i h))

  pub slot_nothing : (i : ℕ) → k ≤ i → hash_of D (slots_of leaves_in (1024 + i)) ≡ nought
  slot_nothing i h = ap (hash_of D) (slot_past leaves_in i (omega (arith, many)))

  module _ (kept : Kept D (slots_of leaves_in) m) (s : Registers) (c : Revision) (A : Item) where
    -- ── insert ──

    -- the place of a list, up the fork of slots i and n, b being the leaf of slot i
    abbrev placed_at : (i n : ℕ) (b : TreeLeaf) (next : ℕ) → List Request
    placed_at i n b next = placed D s (slot_fork leaves_in i n) (item_of b) A.0 next (hash_in b)

    abbrev without_at : (i n : ℕ) (b : TreeLeaf) (next : ℕ) → W.Edit
    without_at i n b next = without D s (slot_fork leaves_in i n) (item_of b) A.0 next (hash_in b)

    pub insert_lines_lem : seek (gap_of A.0) leaves k 0 < k → k < 1024
        → spoken D s m 8 (start_of (inserting D leaves m k c A)) ≡ insert_at D s A.0 (seek (gap_of A.0) leaves k 0) leaves_in
    unfolding inserting place_plan
    insert_lines_lem there room =
        let i = seek (gap_of A.0) leaves k 0 in
        let here = row_at leaves i in
        let F = slots_of leaves_in in
        let P = inserting D leaves m k c A in
        let x = row_digest D P.after.left in
        let w = row_digest D P.after.right in
        let up = sent_up D F m kept i k x w there room Inserting in
        let r = two_risen D F m kept i k x w there room in
        let parts : Forks P = record { first = refl; second = refl; third = refl; fourth = refl; fifth = refl } in
        let q : Places D s P (fork_at F (1024 + i) (1024 + k)) here.item.0 A.0 here.next.0 (record_hash D here.entry) =
        record {
          sixth = refl;
          behind = refl;
          item = refl;
          next = refl;
          hash = refl;
          left = ap turned_round r.left_leaf ∙ (λ e. record { was = x; becomes = slot_digest i there e });
          right =
              ap turned_round r.right_leaf
              ∙ (λ e. record { was = digest_of D (leaf A.0 here.next.0 (no_record_lem e)); becomes = slot_nothing k (omega arith) e });
        } in
        let root = ap turned_round (sent_root D F m kept s i k there room P parts up _ _ _ _ q) in
        insert_spoken D F m kept s i k there room P parts up _ _ _ _ q refl refl root
        ∙ sym (λ e.
        let b = leaf_is i there e in
        let n = many e in
        placed_at i n b (next_of b)
        ++ (turn_round D s (without_at i n b (next_of b)) ∷ take_over D s (turned_round (without_at i n b (next_of b))) ∷ []))

    -- ── two leaves exchanged ──

    pub swap_lines_lem : own_place leaves k A.0 < k - 1 → k ≤ 1024
        → spoken D s m 7 (start_of (swapping D leaves m k c A)) ≡ swap_at D s (own_place leaves k A.0) (k - 1) leaves_in
    unfolding swapping plain_plan
    swap_lines_lem less room =
        let i = own_place leaves k A.0 in
        let j = k - 1 in
        let F = slots_of leaves_in in
        let P = swapping D leaves m k c A in
        let x = node_at m (1024 + j) in
        let w = node_at m (1024 + i) in
        let in_i : i < k = omega arith in
        let in_j : j < k = omega arith in
        let up = sent_up D F m kept i j x w less (omega arith) Swapping in
        let r = two_risen D F m kept i j x w less (omega arith) in
        let parts : Forks P = record { first = refl; second = refl; third = refl; fourth = refl; fifth = refl } in
        let at_i : hash_of D (F (1024 + i)) ≡ hash_of D (tip (leaf_at leaves_in i)) = ap (hash_of D) (slot_here leaves_in i (omega (arith, many))) in
        let at_j : hash_of D (F (1024 + j)) ≡ hash_of D (tip (leaf_at leaves_in j)) = ap (hash_of D) (slot_here leaves_in j (omega (arith, many))) in
        let node-i = kept.slots i (omega arith) ∙ at_i in
        let node-j = kept.slots j (omega arith) ∙ at_j in
        let e : W.Edit = record { was = hash_of D (tip (leaf_at leaves_in i)); becomes = hash_of D (tip (leaf_at leaves_in j)) } in
        swap_spoken D F m kept s i j less (omega arith) P parts up e
        (r.left_leaf ∙ (λ n. record { was = at_i n; becomes = node-j n }))
        (r.right_leaf ∙ (λ n. record { was = at_j n; becomes = node-i n })) refl refl refl

-- ── the last leaf taken out ──

rows_last : (h : Record → Dig) (m : List ℕ) (n i : ℕ)
    → leaves_by h (rows_from m (suc n) i) ≡ leaves_by h (rows_from m n i) ++ (leaf_by h (row_at m (i + n)) ∷ [])
rows_last h m zero i = let e : i ≡ i + 0 = omega arith in ap (λ (k : ℕ). leaf_by h (row_at m k) ∷ []) e
rows_last h m (suc n) i =
    let e : i + 1 + n ≡ i + suc n = omega arith in
    ap (λ (l : List TreeLeaf). leaf_by h (row_at m i) ∷ l)
    (rows_last h m n (i + 1) ∙ ap (λ (k : ℕ). leaves_by h (rows_from m n (i + 1)) ++ (leaf_by h (row_at m k) ∷ [])) e)

module _ (D : List ℕ → Dig) (leaves m : List ℕ) (k : ℕ) (kept : Kept D (slots_of (leaves_by (record_hash D) (rows_from leaves k 0))) m)
    (s : Registers) (c : Revision) (A : Item) where
  -- the leaves before the last, and the last
  abbrev pub leaves_before : List TreeLeaf
  leaves_before = leaves_by (record_hash D) (rows_from leaves (k - 1) 0)

  abbrev pub last_leaf : TreeLeaf
  last_leaf = leaf_by (record_hash D) (row_at leaves (k - 1))

  pub split : 0 < k → leaves_by (record_hash D) (rows_from leaves k 0) ≡ leaves_before ++ (last_leaf ∷ [])
  split some =
      let e : k ≡ suc (k - 1) = omega arith in
      let z : 0 + (k - 1) ≡ k - 1 = omega arith in
      ap (λ (n : ℕ). leaves_by (record_hash D) (rows_from leaves n 0)) e ∙ rows_last (record_hash D) leaves (k - 1) 0
      ∙ ap (λ (n : ℕ). leaves_before ++ (leaf_by (record_hash D) (row_at leaves n) ∷ [])) z

  pub drop_lines : seek (leading_to A.0) leaves k 0 < k - 1 → k ≤ 1024
      → (row_at leaves (seek (leading_to A.0) leaves k 0)).next.0 ≡ A.0 → (row_at leaves (k - 1)).item.0 ≡ A.0
      → record_hash D (row_at leaves (k - 1)).entry ≡ nought
      → spoken D s m 7 (start_of (dropping D leaves m k c A))
      ≡ drop_at D s A.0 (seek (leading_to A.0) leaves k 0) leaves_before last_leaf
  unfolding dropping place_plan
  drop_lines less room leads own blank =
      let i = seek (leading_to A.0) leaves k 0 in
      let j = k - 1 in
      let l = leaves_by (record_hash D) (rows_from leaves k 0) in
      let here = row_at leaves i in
      let last = row_at leaves j in
      let F = slots_of l in
      let P = dropping D leaves m k c A in
      let x = row_digest D P.after.left in
      let in_i : i < k = omega arith in
      let in_j : j < k = omega arith in
      let up = sent_up D F m kept i j x nought less (omega arith) Dropping in
      let r = two_risen D F m kept i j x nought less (omega arith) in
      let parts : Forks P = record { first = refl; second = refl; third = refl; fourth = refl; fifth = refl } in
      let was-left = slot_digest D leaves m k i in_i ∙ ap (λ (a : ℕ). digest_of D (leaf here.item.0 a (record_hash D here.entry))) leads in
      let was-right = slot_digest D leaves m k j in_j ∙ ap₂ (λ (a : ℕ) (h : Dig). digest_of D (leaf a last.next.0 h)) own blank in
      let q : Places D s P (fork_at F (1024 + i) (1024 + j)) here.item.0 A.0 last.next.0 (record_hash D here.entry) =
      record {
        sixth = refl;
        behind = refl;
        item = refl;
        next = refl;
        hash = refl;
        left = r.left_leaf ∙ (λ e. record { was = was-left e; becomes = x });
        right = r.right_leaf ∙ (λ e. record { was = was-right e; becomes = nought });
      } in
      let root = sent_root D F m kept s i j less (omega arith) P parts up _ _ _ _ q in
      let fork : slot_fork (leaves_before ++ (last_leaf ∷ [])) i (length leaves_before) ≡ slot_fork l i j =
      ap₂ (λ (t : List TreeLeaf) (n : ℕ). slot_fork t i n) (sym (split (omega arith))) (many D leaves m j) in
      let foot : leaf_at leaves_before i ≡ leaf_by (record_hash D) here = leaf_is D leaves m j i less in
      drop_spoken D F m kept s i j less (omega arith) P parts up _ _ _ _ q refl root
      ∙ sym (λ e.
      let f = fork e in
      let b = foot e in
      placed D s f (item_of b) A.0 last.next.0 (hash_in b)
      ++ (take_over D s (without D s f (item_of b) A.0 last.next.0 (hash_in b)) ∷ []))
