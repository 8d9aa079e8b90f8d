-- Tablet and module agree after a change, where the leaves of memory's rows, with their records in full, are the ring of the new list.
use mathlib.Core.Path.{◌≡◌, refl, sym, ap, ap₂, subst, ◌∙◌}
use mathlib.Core.Bool.{false}
use mathlib.Core.List.{List}
use Prim.Native.Nat.{ℕ, zero, suc, ◌+◌, ◌<◌}
use native.Mathlib.Nat.{not-suc-le-zero}
use native.Mathlib.Omega.{arith}
use borrow.Author.Tests.{ne_eqb}
use lib.ListN.{length, set}
use Rattle.paper.specs.declared.Record.{Record}
use Rattle.paper.specs.declared.Registers.{Registers}
use Rattle.paper.specs.Strings.{Dig, numbers, malformed}
use Rattle.paper.specs.Answers.{rooted}
use Rattle.rings.specs.Trees.{TreeLeaf, Tree, tip, hash_of, one, count, SameLeaves}
use Rattle.rings.specs.Lists.{AscendingFrom, ring}
use Rattle.rings.proofs.Counting.{count_cons}
use Rattle.runs.specs.Run.{Items, World}
use Rattle.runs.specs.Ways.{Way, rise}
use Rattle.slots.specs.Nodes.{node_at}
use Rattle.groves.specs.Grove.{grove, tree_at, slots_of, tree_of, way_up}
use Rattle.groves.proofs.Groves.{slot_level, rises, way_same}
use Rattle.groves.proofs.Stored.{slot_is, in_set_same, set_other}
use Rattle.groves.proofs.Forks.{top_is}
use Rattle.rows.specs.declared.Row.{Row}
use Rattle.rows.specs.Rows.{row_at, rows_from}
use Rattle.ringed.specs.Ringed.{leaf_by, leaves_by}
use Rattle.ringed.proofs.Ringed.{list_ascending, row_leaf, ringed}
use Rattle.ringed.proofs.Rings.{numbers_tell, closed_in, list_in}
use Rattle.store.specs.Lines.{may_stand}
use Rattle.store.specs.RoundTrip.{RowFits, Storable}
use Rattle.keeping.specs.Talking.{Tablet}
use Rattle.keeping.specs.Agreeing.{Agrees}
use Rattle.keeping.proofs.Laid.{Laid, laid_by, held_by}
use Rattle.keeping.proofs.Listed.{held_row}

pub agrees_after : {D : List ℕ → Dig} {z : World} {y : Tablet} (rs : List Row) (l : Items) → Laid D rs y.leaves y.nodes y.count
    → AscendingFrom 0 l → SameLeaves (leaves_by numbers rs) (ring numbers l) → z.items ≡ l → node_at y.nodes 1 ≡ z.registers.root
    → y.counter ≡ z.registers.counter → Agrees D z y
agrees_after rs l laid up same items root counter =
    record {
      rows = rs;
      holds = held_by laid (closed_in numbers l up rs same);
      items = items ∙ sym (list_in numbers l up rs same numbers_tell);
      root = root;
      counter = counter;
    }

-- where nothing of the registers changes but the root
pub agrees_rooted : {D : List ℕ → Dig} {w z : World} {x y : Tablet} → Agrees D w x → (rs : List Row) (l : Items)
    → Laid D rs y.leaves y.nodes y.count → AscendingFrom 0 l → SameLeaves (leaves_by numbers rs) (ring numbers l)
    → y.counter ≡ x.counter
    → z.items ≡ l → z.registers ≡ rooted w.registers (node_at y.nodes 1) → Agrees D z y
agrees_rooted a rs l laid up same kept items registers =
    agrees_after rs l laid up same items (sym (ap (λ (t : Registers). t.root) registers))
    (kept ∙ a.counter ∙ sym (ap (λ (t : Registers). t.counter) registers))

module _ {D : List ℕ → Dig} {w : World} {x : Tablet} (a : Agrees D w x) where
  pub list_up : AscendingFrom 0 w.items
  list_up = rw a.items (list_ascending a.rows a.holds.closed.distinct a.holds.closed.positive)

  -- before the change, by any hash
  pub same_now : (h : Record → Dig) → SameLeaves (leaves_by h (rows_from x.leaves x.count 0)) (ring h w.items)
  same_now h z =
      ap (λ (l : List Row). count z (leaves_by h l)) a.holds.there ∙ ringed a.rows a.holds.closed h z
      ∙ ap (λ (l : Items). count z (ring h l)) (sym a.items)

  pub laid_now : Laid D (rows_from x.leaves x.count 0) x.leaves x.nodes x.count
  laid_now = subst (λ (l : List Row). Laid D l x.leaves x.nodes x.count) (sym a.holds.there) (laid_by a.holds)

  module _ (i : ℕ) (there : i < x.count) where
    -- a row's leaf is in the ring
    pub row_on : (h : Record → Dig) → 0 < count (leaf_by h (row_at x.leaves i)) (ring h w.items)
    row_on h =
        let z = leaf_by h (row_at x.leaves i) in
        let e = ringed a.rows a.holds.closed h z ∙ ap (λ (l : Items). count z (ring h l)) (sym a.items) in
        omega (arith, e, row_leaf h (row_at x.leaves i) a.rows (held_row a i there))

    -- no number of an item in it is 0
    pub item_positive : 0 < (row_at x.leaves i).item.0
    item_positive = a.holds.closed.positive (row_at x.leaves i) (held_row a i there)

    pub next_positive : 0 < (row_at x.leaves i).next.0
    next_positive =
        let t = a.holds.closed.leads (row_at x.leaves i) (held_row a i there) in
        omega (arith, t.2, a.holds.closed.positive t.0 t.1)

-- a leaf that a store can hold, by its numbers
pub storable_by : (r : Row) → RowFits r → 0 < r.item.0 → 0 < r.next.0 → malformed r.entry ≡ false → Storable r
unfolding may_stand
storable_by r fits item next formed =
    record { fits = fits; stands = rw (ne_eqb r.item.0 0 (λ e. omega arith), ne_eqb r.next.0 0 (λ e. omega arith), formed) refl }

-- ── another row in a slot ──

-- its leaf in the place of the one that was there
pub set_count : (h : Record → Dig) (z : TreeLeaf) (r : Row) (m : List ℕ) (n i j : ℕ) → j < n
    → count z (leaves_by h (set (rows_from m n i) j r)) + one z (leaf_by h (row_at m (i + j)))
    ≡ count z (leaves_by h (rows_from m n i)) + one z (leaf_by h r)
set_count h z r m zero i j b = absurd (not-suc-le-zero b)
set_count h z r m (suc n) i zero b =
    let e : i + 0 ≡ i = omega arith in
    let rest = leaves_by h (rows_from m n (i + 1)) in
    omega (
      arith,
      ap (λ (k : ℕ). one z (leaf_by h (row_at m k))) e,
      count_cons z (leaf_by h r) rest,
      count_cons z (leaf_by h (row_at m i)) rest,
    )
set_count h z r m (suc n) i (suc j) b =
    let e : i + 1 + j ≡ i + suc j = omega arith in
    omega (
      arith,
      ap (λ (k : ℕ). one z (leaf_by h (row_at m k))) e,
      set_count h z r m n (i + 1) j (omega arith),
      count_cons z (leaf_by h (row_at m i)) (leaves_by h (set (rows_from m n (i + 1)) j r)),
      count_cons z (leaf_by h (row_at m i)) (leaves_by h (rows_from m n (i + 1))),
    )

-- up the way from its slot it rises to the root of the leaves with it
pub slot_rises : (D : List ℕ → Dig) (l : List TreeLeaf) (i : ℕ) (z : TreeLeaf) → i < length l → i < 1024
    → rise D (way_up (slots_of l) 10 0 (1024 + i)) (hash_of D (tip z)) ≡ hash_of D (tree_of (set l i z))
unfolding grove
slot_rises D l i z h room =
    let F = slots_of (set l i z) in
    let same : way_up (slots_of l) 10 0 (1024 + i) ≡ way_up F 10 0 (1024 + i) =
    way_same (slots_of l) F 10 0 (1024 + i) (λ w e t. set_other l i z w e) in
    let here : tip z ≡ F (1024 + i) = sym (slot_is (set l i z) i ∙ in_set_same l i z h) in
    ap₂ (λ (p : Way) (t : Tree). rise D p (hash_of D t)) same here
    ∙ rises F D 10 0 (1024 + i) ∙ ap (λ (v : ℕ). hash_of D (tree_at F 10 v)) (top_is 10 (1024 + i) (slot_level i room))
