-- Leaves of which no two have one item, none's item lies in a gap and each leads to one of them are the ring of an ascending list.
use mathlib.Core.Path.{◌≡◌, refl, sym, ap, subst, ◌∙◌}
use mathlib.Core.Bool.{Bool, true, false, true≢false}
use mathlib.Core.List.Memᴰ
use mathlib.Core.List.{List, [], ◌∷◌, Memᴰ}
use mathlib.Core.Logic.{◌⊎◌, inl, inr}
use Prim.Native.Nat.{ℕ, ◌<◌, ◌≤◌}
use native.Mathlib.Omega.{arith}
use native.Mathlib.Decide.{dec_lt}
use lib.Dec.{ltb}
use Rattle.seqs.specs.Choose.{pick}
use Rattle.paper.specs.declared.Record.{Record}
use Rattle.paper.specs.Strings.{Dig, in_gap}
use Rattle.rings.specs.Trees.{TreeLeaf, points, count, one, SameLeaves}
use Rattle.rings.specs.Lists.{ListItem, item_with, AscendingFrom, OnList, Unlisted, insert, ring}
use Rattle.rings.proofs.Counting.{one_same, count_nil, count_cons, count_head, count_cases}
use Rattle.rings.proofs.Gaps.{Gap, between, beyond, before, gap_tells}
use Rattle.rings.proofs.Items.{insert_ascending}
use Rattle.rings.proofs.Ring.{gap_free}
use Rattle.rings.proofs.Find.{item_leaf}
use Rattle.runs.specs.Ways.{item_of}
use Rattle.runs.proofs.RingLeaves.{one_most, ring_once, one_of_item, leaf_held, leaf_next}
use Rattle.rows.specs.declared.Row.{Row}
use Rattle.ringed.specs.Ringed.{leaf_by, leaves_by, list_of, Distinct, Closed}

-- ── what an insertion lists ──

module _ {R : Type 0} where
  in_insert : (q : ℕ) (r : R) (l : List (ListItem R)) → OnList q r (insert q r l)
  unfolding insert
  in_insert q r [] = Memᴰ.head refl
  in_insert q r (item_with a s ∷ l) = by_test (ltb q a) (in_insert q r l)
    where
      by_test : (b : Bool) → OnList q r (insert q r l) → OnList q r (pick b (item_with q r ∷ item_with a s ∷ l) (item_with a s ∷ insert q r l))
      by_test true i = Memᴰ.head refl
      by_test false i = Memᴰ.tail i

  still_in : (q : ℕ) (r : R) (a : ℕ) (s : R) (l : List (ListItem R)) → OnList a s l → OnList a s (insert q r l)
  unfolding insert
  still_in q r a s [] m = elim m [ ]
  still_in q r a s (item_with b t ∷ l) m = by_test (ltb q b) m (still_in q r a s l)
    where
      by_test : (d : Bool) → OnList a s (item_with b t ∷ l) → (OnList a s l → OnList a s (insert q r l))
          → OnList a s (pick d (item_with q r ∷ item_with b t ∷ l) (item_with b t ∷ insert q r l))
      by_test true m f = Memᴰ.tail m
      by_test false m f = elim (Memᴰ.cases_cons m) [ inl e ↦ Memᴰ.head e | inr k ↦ Memᴰ.tail (f k) ]

  back_in : (q : ℕ) (r : R) (a : ℕ) (s : R) (l : List (ListItem R)) → OnList a s (insert q r l) → (item_with a s ≡ item_with q r) ⊎ OnList a s l
  unfolding insert
  back_in q r a s [] m = elim (Memᴰ.cases_cons m) [ inl e ↦ inl e | inr k ↦ inr k ]
  back_in q r a s (item_with b t ∷ l) m = by_test (ltb q b) m (back_in q r a s l)
    where
      by_test : (d : Bool) → OnList a s (pick d (item_with q r ∷ item_with b t ∷ l) (item_with b t ∷ insert q r l))
          → (OnList a s (insert q r l) → (item_with a s ≡ item_with q r) ⊎ OnList a s l) → (item_with a s ≡ item_with q r) ⊎ OnList a s (item_with b t ∷ l)
      by_test true m f = Memᴰ.cases_cons m
      by_test false m f =
          elim (Memᴰ.cases_cons m) [
            | inl e ↦ inr (Memᴰ.head e)
            | inr k ↦ elim (f k) [ inl e ↦ inl e | inr j ↦ inr (Memᴰ.tail j) ]
          ]

  unlisted_if : (q : ℕ) (l : List (ListItem R)) → ((r : R) → OnList q r l → ⊥) → Unlisted q l
  unlisted_if q [] f = tt
  unlisted_if q (item_with a r ∷ l) f =
      ((λ e. f r (Memᴰ.head {x = item_with a r} (cc))), unlisted_if q l (λ s m. f s (Memᴰ.tail m)))

  pub listed_not : (q : ℕ) (r : R) (l : List (ListItem R)) → Unlisted q l → OnList q r l → ⊥
  listed_not q r [] u m = elim m [ ]
  listed_not q r (item_with a s ∷ l) u m =
      elim (Memᴰ.cases_cons m) [ inl e ↦ (let p : q ≡ a = cc in u.0 p) | inr k ↦ listed_not q r l u.1 k ]

-- ── rows and the list ──

pub row_listed : (r : Row) (l : List Row) → Memᴰ r l → OnList r.item.0 r.entry (list_of l)
row_listed r [] m = elim m [ ]
row_listed r (s ∷ l) m =
    elim (Memᴰ.cases_cons m) [
      | inl e ↦ subst (λ (x : Row). OnList x.item.0 x.entry (list_of (s ∷ l))) (sym e) (in_insert _ _ (list_of l))
      | inr k ↦ still_in _ _ _ _ (list_of l) (row_listed r l k)
    ]

pub listed_row : (a : ℕ) (s : Record) (l : List Row) → OnList a s (list_of l)
    → (r : Row) × Memᴰ r l × (r.item.0 ≡ a) × (r.entry ≡ s)
listed_row a s [] m = elim m [ ]
listed_row a s (r ∷ l) m =
    elim (back_in _ _ a s (list_of l) m) [
      | inl e ↦ (r, Memᴰ.head refl, cc, cc)
      | inr k ↦ (let i = listed_row a s l k in (i.0, Memᴰ.tail i.1, i.2, i.3))
    ]

pub list_ascending : (l : List Row) → Distinct l → ((r : Row) → Memᴰ r l → 0 < r.item.0) → AscendingFrom 0 (list_of l)
list_ascending [] d p = tt
list_ascending (r ∷ l) d p =
    insert_ascending 0 r.item.0 r.entry (list_of l) (p r (Memᴰ.head refl))
    (unlisted_if _ (list_of l) (λ s m. let i = listed_row _ s l m in d.0 i.0 i.1 i.2))
    (list_ascending l d.1 (λ s m. p s (Memᴰ.tail m)))

-- two numbers, neither in the gap that the other ends
next_is : (a b c : ℕ) → 0 < b → 0 < c → (Gap a b c → ⊥) → (Gap a c b → ⊥) → b ≡ c
next_is a b c pb pc f g = by_order (dec_lt a b) (dec_lt a c)
  where
    by_order : Dec (a < b) → Dec (a < c) → b ≡ c
    by_order (yes h) (yes k) =
        elim (dec_lt c b) [
          | yes l ↦ absurd (f (between k l))
          | no l ↦ elim (dec_lt b c) [ yes u ↦ absurd (g (between h u)) | no u ↦ omega arith ]
        ]
    by_order (yes h) (no k) = absurd (g (beyond (omega arith) h))
    by_order (no h) (yes k) = absurd (f (beyond (omega arith) k))
    by_order (no h) (no k) =
        elim (dec_lt c b) [
          | yes l ↦ absurd (f (before (omega arith) pc l))
          | no l ↦ elim (dec_lt b c) [ yes u ↦ absurd (g (before (omega arith) pb u)) | no u ↦ omega arith ]
        ]

-- rows as leaves, one by one
module _ (h : Record → Dig) where
  pub leaf_row : (x : TreeLeaf) (l : List Row) → 0 < count x (leaves_by h l) → (r : Row) × Memᴰ r l × (x ≡ leaf_by h r)
  leaf_row x [] m = absurd (omega (arith, count_nil x))
  leaf_row x (r ∷ l) m =
      elim (count_cases x (leaf_by h r) (leaves_by h l) m) [
        | inl e ↦ (r, Memᴰ.head refl, e)
        | inr j ↦ (let i = leaf_row x l j in (i.0, Memᴰ.tail i.1, i.2))
      ]

  pub row_leaf : (r : Row) (l : List Row) → Memᴰ r l → 0 < count (leaf_by h r) (leaves_by h l)
  row_leaf r [] m = elim m [ ]
  row_leaf r (s ∷ l) m =
      elim (Memᴰ.cases_cons m) [
        | inl e ↦ count_head (leaf_by h r) (leaf_by h s) (leaves_by h l) (ap (leaf_by h) e)
        | inr j ↦ omega (arith, count_cons (leaf_by h r) (leaf_by h s) (leaves_by h l), row_leaf r l j)
      ]

module _ (l : List Row) (k : Closed l) (h : Record → Dig) where
  up : AscendingFrom 0 (list_of l)
  up = list_ascending l k.distinct k.positive

  -- a row's leaf is in the ring
  in_ring : (r : Row) → Memᴰ r l → 0 < count (leaf_by h r) (ring h (list_of l))
  in_ring r m =
      let i = item_leaf h r.item.0 r.entry (list_of l) (row_listed r l m) in
      let c = i.0 in
      let n = leaf_next h (points r.item.0 c (h r.entry)) (list_of l) i.1 in
      let s = listed_row c n.0 l n.1 in
      let t = k.leads r m in
      let e : c ≡ r.next.0 =
      next_is r.item.0 c r.next.0 (subst (λ (x : ℕ). 0 < x) s.2 (k.positive s.0 s.1))
      (subst (λ (x : ℕ). 0 < x) t.2 (k.positive t.0 t.1))
      (λ g.
      listed_not r.next.0 t.0.entry (list_of l) (gap_free h _ _ c _ (list_of l) up g i.1)
      (subst (λ (x : ℕ). OnList x t.0.entry (list_of l)) t.2 (row_listed t.0 l t.1)))
      (λ g.
      true≢false (sym (gap_tells g) ∙ subst (λ (x : ℕ). in_gap x r.item.0 r.next.0 ≡ false) s.2 (k.clear r s.0 m s.1))) in
      subst (λ (x : ℕ). 0 < count (points r.item.0 x (h r.entry)) (ring h (list_of l))) e i.1

  rows_once : (x : TreeLeaf) (l : List Row) → Distinct l → count x (leaves_by h l) ≤ 1
  rows_once x [] d = omega (arith, count_nil x)
  rows_once x (r ∷ l) d =
      elim (dec_lt 0 (count x (leaves_by h l))) [
        | yes a ↦ (
            let i = leaf_row h x l a in
            elim (dec_lt 0 (one x (leaf_by h r))) [
              | yes b ↦ absurd (d.0 i.0 i.1 (ap item_of (sym i.2 ∙ one_same x (leaf_by h r) b)))
              | no b ↦ omega (arith, count_cons x (leaf_by h r) (leaves_by h l), rows_once x l d.1)
            ])
        | no a ↦ omega (arith, count_cons x (leaf_by h r) (leaves_by h l), one_most x (leaf_by h r))
      ]

  -- a leaf of the ring is a row's
  out_ring : (x : TreeLeaf) → 0 < count x (ring h (list_of l)) → 0 < count x (leaves_by h l)
  out_ring x m =
      let i = leaf_held h x (list_of l) m in
      let r = listed_row (item_of x) i.0 l i.1 in
      let e = one_of_item h x (leaf_by h r.0) (list_of l) up (sym r.2) m (in_ring r.0 r.1) in
      subst (λ (y : TreeLeaf). 0 < count y (leaves_by h l)) (sym e) (row_leaf h r.0 l r.1)

  pub ringed : SameLeaves (leaves_by h l) (ring h (list_of l))
  ringed x =
      elim (dec_lt 0 (count x (leaves_by h l))) [
        | yes a ↦ (
            let r = leaf_row h x l a in
            let b = subst (λ (y : TreeLeaf). 0 < count y (ring h (list_of l))) (sym r.2) (in_ring r.0 r.1) in
            omega (arith, a, b, rows_once x l k.distinct, ring_once h x (list_of l) up))
        | no a ↦ elim (dec_lt 0 (count x (ring h (list_of l)))) [
          | yes b ↦ absurd (omega (arith, out_ring x b))
          | no b ↦ omega arith
        ]
      ]
