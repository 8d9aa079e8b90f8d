-- An insert or a removal that the tablet does not refuse is granted.
use mathlib.Core.Path.{◌≡◌, refl, sym, ap, subst, ◌∙◌}
use mathlib.Core.Bool.{false, true≢false}
use mathlib.Core.List.{List, [], ◌∷◌}
use mathlib.Core.Logic.{inl, inr, ◌≢◌}
use Rattle.std.specs.Prelude.{Ok}
use Prim.Native.Nat.{ℕ, suc, ◌-◌, ◌<◌, ◌≤◌}
use native.Mathlib.Omega.{arith}
use native.Mathlib.Decide.{ℕ_discrete, dec_le}
use borrow.Author.Tests.{eq-eqb, ne_eqb, eqb-true, eqb-false, le-leb, lt-leb, leb-false, lt-ltb}
use lib.ListN.{length}
use Rattle.seqs.specs.Choose.{opposite}
use Rattle.seqs.specs.First.{first_passes}
use Rattle.paper.specs.declared.Item.{Item}
use Rattle.paper.specs.declared.Record.{Record}
use Rattle.paper.specs.Strings.{Dig, empty_record, record_hash, blank}
use Rattle.rings.specs.Lists.{item_with, OnList, Unlisted}
use Rattle.rings.proofs.Items.{listed?}
use Rattle.runs.specs.Run.{Items, World}
use Rattle.runs.specs.Sizes.{InEightBytes}
use Rattle.runs.specs.Ways.{gap_holds}
use Rattle.runs.proofs.Safe.{blank_empty}
use Rattle.runs.proofs.Reach.{Ready}
use Rattle.runs.proofs.Standing.{spotted}
use Rattle.runs.proofs.Moves.{gap_found}
use Rattle.rows.specs.Rows.{row_at, of_item}
use Rattle.wishes.specs.declared.Wish.TheVariants.{Insert, Remove}
use Rattle.wishes.specs.Words.{own_place, is_listed, entry_of}
use Rattle.plans.specs.declared.Plan.{Plan}
use Rattle.plans.specs.Plans.{beginning, inserting, emptying, swapping, dropping, removing, plan_for}
use Rattle.keeping.specs.Talking.{Tablet, set_out, converse}
use Rattle.keeping.specs.Agreeing.{Agrees}
use Rattle.keeping.specs.Granting.{begins, Grants}
use Rattle.keeping.proofs.Grounds.{not_malformed, ground_there}
use Rattle.keeping.proofs.Listed.{row_stored, own, found_listed, sought, listed_many}
use Rattle.keeping.proofs.Allowed.{no_word, its_plan, was_begun, opposite_false, is_listed_lem}
use Rattle.keeping.proofs.Inserts.{insert_done}
use Rattle.keeping.proofs.Drops.{drop_done}
use Rattle.keeping.proofs.Swaps.{swap_done}
use Rattle.keeping.proofs.FirstItem.{first_done}
use Rattle.keeping.proofs.OnlyItem.{only_done}

-- ── what the tests of memory say of the list ──

module _ {D : List ℕ → Dig} {w : World} {x : Tablet} (a : Agrees D w x) where
  pub not_listed : (A : ℕ) → is_listed x.leaves x.count A ≡ false → Unlisted A w.items
  not_listed A e =
      elim (listed? A w.items) [
        | inl u ↦ u
        | inr t ↦ absurd (true≢false (sym (lt-ltb _ _ (own a A t.0 t.1).place) ∙ e))
      ]

  pub empty_listed : (A : ℕ) → own_place x.leaves x.count A < x.count → opposite (blank (entry_of x.leaves x.count A)) ≡ false
      → OnList A empty_record w.items
  empty_listed A there e =
      let entry = entry_of x.leaves x.count A in
      let none : entry ≡ empty_record =
      blank_empty entry (opposite_false (blank entry) e) (not_malformed _ (row_stored a _ there).stands) in
      subst (λ (r : Record). OnList A r w.items) none (found_listed a A there)

-- ── granted ──

module _ {D : List ℕ → Dig} {w : World} {x : Tablet} (a : Agrees D w x) (ready : Ready D w) (counter : w.registers.counter.0 ≡ w.changed) where
  -- by the number of leaves
  first_plan : (A : Item) → x.count ≡ 0 → plan_for D x.leaves x.nodes x.count x.counter (Insert A) ≡ beginning D x.nodes x.counter A
  first_plan A e = rw (eq-eqb x.count 0 e) refl

  further_plan : (A : Item) → x.count ≢ 0
      → plan_for D x.leaves x.nodes x.count x.counter (Insert A) ≡ inserting D x.leaves x.nodes x.count x.counter A
  further_plan A n = rw (ne_eqb x.count 0 n) refl

  abbrev InsertBy : (A : Item) (r : ℕ) → Plan → Type 0
  InsertBy A r p = Grants D w (Insert A) (converse D (suc (suc (suc (suc (suc (suc (suc (suc r)))))))) w (set_out x p))

  insert_by : (A : Item) → InEightBytes A.0 → 0 < A.0 → Unlisted A.0 w.items → x.count < 1024 → (l : Items) → w.items ≡ l → (r : ℕ)
      → InsertBy A r (plan_for D x.leaves x.nodes x.count x.counter (Insert A))
  insert_by A small positive free room [] e r =
      let none-held : x.count ≡ 0 = sym (listed_many a) ∙ ap length e in
      subst (InsertBy A r) (sym (first_plan A none-held)) (first_done a ready counter A small positive e (suc (suc (suc (suc (suc (suc r)))))))
  insert_by A small positive free room (item_with b q ∷ l) e r =
      let g = ground_there a ready counter in
      let t = spotted g (gap_holds A.0) (gap_found g A.0 b q l positive free e) in
      let there = sought a (record_hash D) (gap_holds A.0) _ t.passes t.in_ring in
      subst (InsertBy A r) (sym (further_plan A (λ z. omega (arith, z, there)))) (insert_done a ready A small positive room there counter r)

  pub insert_granted : (A : Item) → InEightBytes A.0 → (p : Plan) → begins D x (Insert A) ≡ Ok p → (r : ℕ)
      → Grants D w (Insert A) (converse D (suc (suc (suc (suc (suc (suc (suc (suc r)))))))) w (set_out x p))
  insert_granted A small p begun r =
      let tests = no_word D x (Insert A) (was_begun begun) in
      let positive : 0 < A.0 = omega (arith, eqb-false A.0 0 tests.0) in
      let room : x.count < 1024 = leb-false 1024 x.count tests.1.1.1.1.1.1.0 in
      subst (InsertBy A r) (sym (its_plan D x (Insert A) p begun))
      (insert_by A small positive (not_listed a A.0 tests.1.1.0) room w.items refl r)

  -- ── remove ──

  abbrev RemoveBy : (A : Item) (r : ℕ) → Plan → Type 0
  RemoveBy A r p =
      Grants D w (Remove A) (converse D (suc (suc (suc (suc (suc (suc (suc (suc (suc (suc (suc (suc (suc (suc r)))))))))))))) w (set_out x p))

  -- the only item, the last one, or another
  only_plan : (A : Item) → x.count ≤ 1
      → removing D x.leaves x.nodes x.count x.counter A ≡ emptying D x.leaves x.nodes x.counter A
  unfolding removing
  only_plan A e = rw (le-leb x.count 1 e) refl

  last_plan : (A : Item) → 1 < x.count → own_place x.leaves x.count A.0 ≡ x.count - 1
      → removing D x.leaves x.nodes x.count x.counter A ≡ dropping D x.leaves x.nodes x.count x.counter A
  unfolding removing
  last_plan A e n = rw (lt-leb x.count 1 e, eq-eqb _ (x.count - 1) n) refl

  other_plan : (A : Item) → 1 < x.count → own_place x.leaves x.count A.0 ≢ x.count - 1
      → removing D x.leaves x.nodes x.count x.counter A ≡ swapping D x.leaves x.nodes x.count x.counter A
  unfolding removing
  other_plan A e n = rw (lt-leb x.count 1 e, ne_eqb _ (x.count - 1) n) refl

  remove_by : (A : Item) → own_place x.leaves x.count A.0 < x.count → OnList A.0 empty_record w.items → (r : ℕ)
      → RemoveBy A r (removing D x.leaves x.nodes x.count x.counter A)
  remove_by A there on r = by_count (dec_le x.count 1)
    where
      by_place : 1 < x.count → Dec (own_place x.leaves x.count A.0 ≡ x.count - 1)
          → RemoveBy A r (removing D x.leaves x.nodes x.count x.counter A)
      by_place more (yes e) =
          let it = eqb-true A.0 _ (first_passes (λ n. of_item A.0 (row_at x.leaves n)) x.count
          (own_place x.leaves x.count A.0) refl there) in
          let item : (row_at x.leaves (x.count - 1)).item.0 ≡ A.0 = ap (λ (n : ℕ). (row_at x.leaves n).item.0) (sym e) ∙ sym it in
          subst (RemoveBy A r) (sym (last_plan A more e))
          (drop_done a ready A on more item counter (suc (suc (suc (suc (suc (suc (suc r))))))))
      by_place more (no n) =
          subst (RemoveBy A r) (sym (other_plan A more n)) (swap_done a ready A (omega (arith, there, n)) on counter r)

      by_count : Dec (x.count ≤ 1) → RemoveBy A r (removing D x.leaves x.nodes x.count x.counter A)
      by_count (yes e) =
          subst (RemoveBy A r) (sym (only_plan A e))
          (only_done a ready counter A on (omega (arith, e, there)) (suc (suc (suc (suc (suc (suc (suc (suc (suc (suc (suc r))))))))))))
      by_count (no n) =
          by_place (omega (arith, n)) (ℕ_discrete (own_place x.leaves x.count A.0) (x.count - 1))

  pub remove_granted : (A : Item) → (p : Plan) → begins D x (Remove A) ≡ Ok p → (r : ℕ) → RemoveBy A r p
  remove_granted A p begun r =
      let tests = no_word D x (Remove A) (was_begun begun) in
      let there = is_listed_lem a A.0 tests.1.1.1.0 in
      subst (RemoveBy A r) (sym (its_plan D x (Remove A) p begun))
      (remove_by A there (empty_listed a A.0 there tests.1.1.1.1.0) r)
