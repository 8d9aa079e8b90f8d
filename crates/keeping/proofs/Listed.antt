-- What is listed is found in memory: an item's own leaf, with the record that is listed, and any leaf of the ring that passes a test.
use mathlib.Core.Path.{◌≡◌, refl, sym, ap, subst, ◌∙◌}
use mathlib.Core.Bool.{Bool, true, false}
use mathlib.Core.List.Memᴰ
use mathlib.Core.List.{List, [], ◌∷◌, Memᴰ}
use mathlib.Core.Logic.{inl, inr}
use Prim.Native.Nat.{ℕ, zero, suc, ◌+◌, ◌<◌}
use native.Mathlib.Nat.{not-suc-le-zero}
use native.Mathlib.Omega.{arith}
use borrow.Author.Tests.{eq-eqb, eqb-true}
use lib.Dec.{ltb}
use lib.ListN.{length}
use Rattle.seqs.specs.Choose.{pick}
use Rattle.seqs.specs.First.{first_reaches, first_passes}
use Rattle.paper.specs.declared.Record.{Record}
use Rattle.paper.specs.Strings.{Dig}
use Rattle.rings.specs.Trees.{TreeLeaf, count}
use Rattle.rings.specs.Lists.{item_with, OnList, insert, ring}
use Rattle.runs.specs.Run.{Items, World}
use Rattle.runs.specs.Honest.{record_of}
use Rattle.runs.proofs.Sizes.{record_is}
use Rattle.rows.specs.declared.Row.{Row}
use Rattle.rows.specs.Rows.{row_at, rows_from, seek, of_item}
use Rattle.wishes.specs.Words.{own_place}
use Rattle.ringed.specs.Ringed.{leaf_by, leaves_by, list_of}
use Rattle.ringed.proofs.Ringed.{list_ascending, listed_row, row_listed, leaf_row, ringed}
use Rattle.store.specs.RoundTrip.{Storable}
use Rattle.keeping.specs.Talking.{Tablet}
use Rattle.keeping.specs.Agreeing.{Agrees}
use Rattle.keeping.proofs.Grounds.{of_every}

-- ── rows of memory ──

row_mem : (m : List ℕ) (n i j : ℕ) → j < n → Memᴰ (row_at m (i + j)) (rows_from m n i)
row_mem m zero i j h = absurd (not-suc-le-zero h)
row_mem m (suc n) i zero h = let e : i + 0 ≡ i = omega arith in Memᴰ.head (ap (row_at m) e)
row_mem m (suc n) i (suc j) h =
    let e : i + 1 + j ≡ i + suc j = omega arith in
    Memᴰ.tail (subst (λ (k : ℕ). Memᴰ (row_at m k) (rows_from m n (i + 1))) e (row_mem m n (i + 1) j (omega arith)))

mem_row : (m : List ℕ) (n i : ℕ) (r : Row) → Memᴰ r (rows_from m n i) → (j : ℕ) × (j < n) × (r ≡ row_at m (i + j))
mem_row m zero i r k = elim k [ ]
mem_row m (suc n) i r k =
    elim (Memᴰ.cases_cons k) [
      | inl e ↦ (0, omega arith, (let z : i ≡ i + 0 = omega arith in e ∙ ap (row_at m) z))
      | inr t ↦ (
          let q = mem_row m n (i + 1) r t in
          let z : i + 1 + q.0 ≡ i + suc q.0 = omega arith in
          (suc q.0, omega (arith, q.1), q.2 ∙ ap (row_at m) z))
    ]

-- ── as many items as rows ──

insert_many : (q : ℕ) (r : Record) (l : Items) → length (insert q r l) ≡ suc (length l)
unfolding insert
insert_many q r [] = refl
insert_many q r (item_with b t ∷ l) = by_test (ltb q b) (insert_many q r l)
  where
    by_test : (d : Bool) → length (insert q r l) ≡ suc (length l)
        → length (pick d (item_with q r ∷ item_with b t ∷ l) (item_with b t ∷ insert q r l)) ≡ suc (suc (length l))
    by_test true e = refl
    by_test false e = omega (arith, e)

list_many : (l : List Row) → length (list_of l) ≡ length l
list_many [] = refl
list_many (r ∷ l) = insert_many r.item.0 r.entry (list_of l) ∙ omega (arith, list_many l)

module _ {D : List ℕ → Dig} {w : World} {x : Tablet} (a : Agrees D w x) where
  -- the row of slot i is one of the rows held
  pub held_row : (i : ℕ) → i < x.count → Memᴰ (row_at x.leaves i) a.rows
  held_row i h =
      let e : 0 + i ≡ i = omega arith in
      subst (λ (l : List Row). Memᴰ (row_at x.leaves i) l) a.holds.there
      (subst (λ (k : ℕ). Memᴰ (row_at x.leaves k) (rows_from x.leaves x.count 0)) e (row_mem x.leaves x.count 0 i h))

  -- and each of them stands in a slot
  row_held : (r : Row) → Memᴰ r a.rows → (i : ℕ) × (i < x.count) × (r ≡ row_at x.leaves i)
  row_held r m =
      let q = mem_row x.leaves x.count 0 r (subst (Memᴰ r) (sym a.holds.there) m) in
      let e : 0 + q.0 ≡ q.0 = omega arith in
      (q.0, q.1, q.2 ∙ ap (row_at x.leaves) e)

  -- a leaf that a store can hold
  pub row_stored : (i : ℕ) → i < x.count → Storable (row_at x.leaves i)
  row_stored i h = of_every Storable a.rows a.holds.storable (row_at x.leaves i) (held_row i h)

  -- the record of a row is the one that is listed
  pub row_record : (i : ℕ) → i < x.count → record_of (row_at x.leaves i).item.0 w.items ≡ (row_at x.leaves i).entry
  row_record i h =
      let up = list_ascending a.rows a.holds.closed.distinct a.holds.closed.positive in
      let m = row_listed (row_at x.leaves i) a.rows (held_row i h) in
      ap (record_of (row_at x.leaves i).item.0) a.items ∙ record_is 0 _ _ (list_of a.rows) up m

  -- where an item is listed
  pub record Own (A : ℕ) (r : Record) : Type 0 where
    pub place : own_place x.leaves x.count A < x.count
    pub item : (row_at x.leaves (own_place x.leaves x.count A)).item.0 ≡ A
    pub entry : (row_at x.leaves (own_place x.leaves x.count A)).entry ≡ r
    pub record_same : record_of A w.items ≡ (row_at x.leaves (own_place x.leaves x.count A)).entry

  pub own : (A : ℕ) (r : Record) → OnList A r w.items → Own A r
  own A r m =
      let up = list_ascending a.rows a.holds.closed.distinct a.holds.closed.positive in
      let m' = subst (OnList A r) a.items m in
      let q = listed_row A r a.rows m' in
      let h = row_held q.0 q.1 in
      let t : ℕ → Bool = λ i. of_item A (row_at x.leaves i) in
      let passes : of_item A (row_at x.leaves h.0) ≡ true = eq-eqb A _ (sym q.2 ∙ ap (λ (z : Row). z.item.0) h.2) in
      let near = first_reaches t x.count h.0 h.1 passes in
      let place : own_place x.leaves x.count A < x.count = omega (arith, near, h.1) in
      let item = sym (eqb-true A _ (first_passes t x.count (own_place x.leaves x.count A) refl place)) in
      let here = row_record (own_place x.leaves x.count A) place in
      let same = ap (λ (n : ℕ). record_of n w.items) (sym item) ∙ here in
      let listed : record_of A w.items ≡ r = ap (record_of A) a.items ∙ record_is 0 A r (list_of a.rows) up m' in
      record { place = place; item = item; entry = sym same ∙ listed; record_same = same }

  -- an item whose own leaf is found is listed
  pub found_listed : (A : ℕ) → own_place x.leaves x.count A < x.count
      → OnList A (row_at x.leaves (own_place x.leaves x.count A)).entry w.items
  found_listed A h =
      let r = row_at x.leaves (own_place x.leaves x.count A) in
      let item = eqb-true A _ (first_passes (λ i. of_item A (row_at x.leaves i)) x.count (own_place x.leaves x.count A) refl h) in
      subst (λ (n : ℕ). OnList n r.entry w.items) (sym item)
      (subst (OnList r.item.0 r.entry) (sym a.items) (row_listed r a.rows (held_row _ h)))

  -- where a leaf of the ring passes a test, a search of memory by that test finds one
  pub sought : (h : Record → Dig) (p : TreeLeaf → Bool) (z : TreeLeaf) → p z ≡ true → 0 < count z (ring h w.items)
      → seek (λ r. p (leaf_by h r)) x.leaves x.count 0 < x.count
  sought h p z e m =
      let in_rows : 0 < count z (leaves_by h a.rows) =
      subst (λ (n : ℕ). 0 < n) (ap (λ (l : Items). count z (ring h l)) a.items ∙ sym (ringed a.rows a.holds.closed h z)) m in
      let r = leaf_row h z a.rows in_rows in
      let i = row_held r.0 r.1 in
      let passes = ap (λ (y : Row). p (leaf_by h y)) (sym i.2) ∙ ap p (sym r.2) ∙ e in
      omega (arith, i.1, first_reaches (λ j. p (leaf_by h (row_at x.leaves j))) x.count i.0 i.1 passes)

  -- as many are listed as memory has leaves
  pub listed_many : length w.items ≡ x.count
  listed_many = ap length a.items ∙ list_many a.rows ∙ a.holds.size
