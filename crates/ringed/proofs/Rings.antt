-- Rows whose leaves are the ring of an ascending list, by a hash that tells records apart, are closed, and are that list. So each change
-- of the list that `rings` has is one of rows, without a premise on digests: their leaves with their records in full are compared.
use mathlib.Core.Path.{◌≡◌, refl, sym, ap, subst, ◌∙◌}
use mathlib.Core.Bool.{Bool, true, false}
use mathlib.Core.List.{List, [], ◌∷◌, Memᴰ}
use mathlib.Core.Logic.{◌≢◌}
use Prim.Native.Nat.{ℕ, ◌<◌, ◌≤◌}
use native.Mathlib.Omega.{arith}
use lib.ListN.{get_or}
use Rattle.paper.specs.declared.Record.{Record}
use Rattle.paper.specs.Strings.{Dig, numbers, in_gap}
use Rattle.rings.specs.Trees.{TreeLeaf, points, count, SameLeaves}
use Rattle.rings.specs.Lists.{ListItem, AscendingFrom, OnList, ring}
use Rattle.rings.proofs.Counting.{one_self, count_cons, count_head}
use Rattle.rings.proofs.Gaps.{gap_holds_lem}
use Rattle.rings.proofs.Items.{listed_above, Into, same_items}
use Rattle.rings.proofs.Ring.{gap_free}
use Rattle.rings.proofs.Find.{item_leaf}
use Rattle.runs.specs.Ways.{item_of, hash_in}
use Rattle.runs.proofs.RingLeaves.{ring_once, one_of_item, leaf_held, leaf_next}
use Rattle.rows.specs.declared.Row.{Row}
use Rattle.ringed.specs.Ringed.{leaf_by, leaves_by, list_of, Distinct, Closed}
use Rattle.ringed.proofs.Ringed.{listed_not, row_listed, listed_row, list_ascending, leaf_row, row_leaf}

-- a record's four numbers tell it
pub numbers_tell : (r s : Record) → numbers r ≡ numbers s → r ≡ s
numbers_tell r s e =
    λ i.
    record {
      revision = record { 0 = get_or (e i) 0 0 };
      mass = record { 0 = get_or (e i) 1 0 };
      offset = record { 0 = get_or (e i) 2 0 };
      rigging = record { 0 = get_or (e i) 3 0 };
    }

module _ (h : Record → Dig) (l : List (ListItem Record)) (up : AscendingFrom 0 l) where
  -- leaves that are all in a ring, each as often
  distinct_in : (rs : List Row) → ((x : TreeLeaf) → count x (leaves_by h rs) ≤ count x (ring h l)) → Distinct rs
  distinct_in [] f = tt
  distinct_in (r ∷ rs) f = (alone, distinct_in rs (λ x. omega (arith, f x, count_cons x (leaf_by h r) (leaves_by h rs))))
    where
      alone : (s : Row) → Memᴰ s rs → s.item.0 ≢ r.item.0
      alone s m e =
          let x = leaf_by h r in
          let y = leaf_by h s in
          let here = count_head x x (leaves_by h rs) refl in
          let there = row_leaf h s rs m in
          let in-y : 0 < count y (ring h l) = omega (arith, f y, there, count_cons y x (leaves_by h rs)) in
          let same = one_of_item h y x l up e in-y (omega (arith, f x, here)) in
          let again : 0 < count x (leaves_by h rs) = subst (λ (z : TreeLeaf). 0 < count z (leaves_by h rs)) same there in
          omega (arith, again, f x, ring_once h x l up, count_cons x x (leaves_by h rs), one_self x)

  module _ (rs : List Row) (same : SameLeaves (leaves_by h rs) (ring h l)) where
    row_on : (r : Row) → Memᴰ r rs → 0 < count (leaf_by h r) (ring h l)
    row_on r m = omega (arith, same (leaf_by h r), row_leaf h r rs m)

    leaf_of_lem : (x : TreeLeaf) → 0 < count x (ring h l) → (r : Row) × Memᴰ r rs × (x ≡ leaf_by h r)
    leaf_of_lem x m = leaf_row h x rs (omega (arith, same x))

    positive_in : (r : Row) → Memᴰ r rs → 0 < r.item.0
    positive_in r m = let i = leaf_held h (leaf_by h r) l (row_on r m) in listed_above 0 r.item.0 i.0 l up i.1

    pub closed_in : Closed rs
    closed_in =
        record {
          distinct = distinct_in rs (λ x. omega (arith, same x));
          positive = positive_in;
          leads = λ r m.
              let n = leaf_next h (leaf_by h r) l (row_on r m) in
              let i = item_leaf h r.next.0 n.0 l n.1 in
              let t = leaf_of_lem (points r.next.0 i.0 (h n.0)) i.1 in
              (t.0, t.1, sym (ap item_of t.2));
          clear = λ r s m k. no_gap r s m k (in_gap s.item.0 r.item.0 r.next.0) refl;
        }
      where
        no_gap : (r s : Row) → Memᴰ r rs → Memᴰ s rs → (b : Bool) → in_gap s.item.0 r.item.0 r.next.0 ≡ b → b ≡ false
        no_gap r s m k true e =
            let i = leaf_held h (leaf_by h s) l (row_on s k) in
            absurd (listed_not s.item.0 i.0 l
            (gap_free h s.item.0 r.item.0 r.next.0 (h r.entry) l up (gap_holds_lem _ _ _ e) (row_on r m)) i.1)
        no_gap r s m k false e = refl

    pub list_in : ((r s : Record) → h r ≡ h s → r ≡ s) → list_of rs ≡ l
    list_in tells = same_items 0 (list_of rs) l (list_ascending rs closed_in.distinct positive_in) up into back
      where
        into : Into (list_of rs) l
        into a r m =
            let t = listed_row a r rs m in
            let i = leaf_held h (leaf_by h t.0) l (row_on t.0 t.1) in
            subst (λ (n : ℕ). OnList n r l) t.2
            (subst (λ (s : Record). OnList t.0.item.0 s l) (tells i.0 t.0.entry i.2 ∙ t.3) i.1)

        back : Into l (list_of rs)
        back a r m =
            let i = item_leaf h a r l m in
            let t = leaf_of_lem (points a i.0 (h r)) i.1 in
            let k = row_listed t.0 rs t.1 in
            subst (λ (n : ℕ). OnList n r (list_of rs)) (sym (ap item_of t.2))
            (subst (λ (s : Record). OnList t.0.item.0 s (list_of rs)) (sym (tells r t.0.entry (ap hash_in t.2))) k)
