-- The only item taken out: its leaf leads to itself, and the first slot is free again.
use mathlib.Core.Path.{◌≡◌, refl, sym, ap, subst, ◌∙◌}
use mathlib.Core.List.Memᴰ
use mathlib.Core.List.{List, [], ◌∷◌}
use mathlib.Core.Logic.{inl, inr}
use Prim.Native.Nat.{ℕ, suc, ◌<◌}
use native.Mathlib.Omega.{arith}
use lib.ListN.{length}
use Rattle.paper.specs.declared.Registers.{Registers}
use Rattle.paper.specs.declared.Item.{Item}
use Rattle.paper.specs.declared.Record.{Record}
use Rattle.paper.specs.Strings.{Dig, nought, numbers, empty_record, record_hash, leaf, digest_of}
use Rattle.paper.specs.Requests.{first, turn, adopt}
use Rattle.paper.specs.Answers.{rooted}
use Rattle.rings.specs.Trees.{points, Tree, tip, hash_of, count, SameLeaves}
use Rattle.rings.specs.Lists.{ListItem, item_with, OnList, remove, ring}
use Rattle.rings.proofs.Counting.{count_single}
use Rattle.rings.proofs.Items.{remove_ascending, remove_head}
use Rattle.runs.specs.Run.{Items, World}
use Rattle.runs.specs.Sizes.{InEightBytes}
use Rattle.runs.specs.Ways as W
use Rattle.runs.specs.Ways.{item_of, next_of, hash_in}
use Rattle.runs.specs.Honest.{say_ei, turned_round, note, alone, remove_lines}
use Rattle.runs.specs.TreesAfter.{tree_without}
use Rattle.runs.proofs.Climbs.{IsEdit}
use Rattle.runs.proofs.Fed.{Brings, brings_also}
use Rattle.runs.proofs.Reach.{Ready}
use Rattle.runs.proofs.Removes.{no_record_hash, remove_brings}
use Rattle.slots.specs.Nodes.{node_at, leaf_put}
use Rattle.groves.specs.Grove.{slots_of, tree_of, Kept}
use Rattle.rows.specs.declared.Row.{Row}
use Rattle.rows.specs.Rows.{row_at, rows_from, row_put}
use Rattle.ringed.specs.Ringed.{leaf_by, leaves_by}
use Rattle.ringed.proofs.Rings.{numbers_tell}
use Rattle.edits.specs.Changes.{one_place}
use Rattle.wishes.specs.declared.Wish.TheVariants.{Remove}
use Rattle.plans.specs.declared.Plan.{Plan}
use Rattle.plans.specs.Plans.{no_row, plain_plan, emptying}
use Rattle.asking.specs.declared.Talk.{Talk}
use Rattle.asking.specs.Saying.{start_of, request_at}
use Rattle.rising.specs.Rising.{as_edit}
use Rattle.rising.proofs.Rising.{one_risen}
use Rattle.saying.specs.Spoken.{spoken}
use Rattle.keeping.specs.Talking.{Tablet, set_out, converse}
use Rattle.keeping.specs.Agreeing.{Agrees}
use Rattle.keeping.specs.Granting.{Grants}
use Rattle.keeping.proofs.Goes.{Step, talk_after}
use Rattle.keeping.proofs.Ends.{LastStep}
use Rattle.keeping.proofs.Laid.{Laid, kept_root, drop_laid}
use Rattle.keeping.proofs.Grounds.{kept_there, ground_there}
use Rattle.keeping.proofs.Listed.{listed_many}
use Rattle.keeping.proofs.Grants.{grants_committed}
use Rattle.keeping.proofs.After.{agrees_rooted, list_up, laid_now, row_on}
use Rattle.keeping.proofs.OneSlot.{committed_one, none_root, rise_first, alone_digests}
use Rattle.keeping.proofs.Parts.{turn_step, adopt_step, first_step}

module _ {D : List ℕ → Dig} {w : World} {x : Tablet} (a : Agrees D w x) (ready : Ready D w)
    (counter : w.registers.counter.0 ≡ w.changed) (A : Item) (on : OnList A.0 empty_record w.items) (single : x.count ≡ 1) where
  abbrev s : Registers
  s = w.registers

  abbrev row : Row
  row = row_at x.leaves 0

  abbrev T : Tree
  T = tree_of (leaves_by (record_hash D) (rows_from x.leaves x.count 0))

  only : w.items ≡ item_with A.0 empty_record ∷ []
  only = by_items w.items refl
    where
      by_items : (l : Items) → w.items ≡ l → w.items ≡ item_with A.0 empty_record ∷ []
      by_items [] e = absurd (omega (arith, single, listed_many a, ap length e))
      by_items (item_with b r ∷ item_with c q ∷ l) e = absurd (omega (arith, single, listed_many a, ap length e))
      by_items (item_with b r ∷ []) e =
          elim (Memᴰ.cases_cons (subst (OnList A.0 empty_record) e on)) [
            | inl q ↦ e ∙ ap (λ (z : ListItem Record). z ∷ []) (sym q)
            | inr m ↦ elim m [ ]
          ]

  -- its leaf leads to itself
  leaf_as : leaf_by numbers row ≡ points A.0 A.0 (numbers empty_record)
  leaf_as =
      count_single _ _ (subst (λ (l : Items). 0 < count (leaf_by numbers row) (ring numbers l)) only (row_on a 0 (omega (arith, single)) numbers))

  digest_as : hash_of D (tip (leaf_by (record_hash D) row)) ≡ digest_of D (leaf A.0 A.0 nought)
  digest_as =
      let entry : row.entry ≡ empty_record = numbers_tell row.entry empty_record (ap hash_in leaf_as) in
      let hash = ap (record_hash D) entry ∙ no_record_hash D in
      (λ n. digest_of D (leaf (item_of (leaf_as n)) (next_of (leaf_as n)) (hash n)))

  number_fits : InEightBytes A.0
  number_fits = ((ground_there a ready counter).fits A.0 empty_record on).number_fits

  kept : Kept D (slots_of (leaf_by (record_hash D) row ∷ [])) x.nodes
  kept = subst (λ (k : ℕ). Kept D (slots_of (leaves_by (record_hash D) (rows_from x.leaves k 0))) x.nodes) single (kept_there a)

  abbrev after : Tablet
  after = record { count = 0; counter = x.counter; leaves = row_put x.leaves 0 no_row; nodes = leaf_put D x.nodes 0 nought }

  laid_after : Laid D [] after.leaves after.nodes 0
  laid_after =
      drop_laid D (λ l. (ready.digests l).wide) [] x.leaves x.nodes 0 row no_row
      (subst (λ (k : ℕ). Laid D (rows_from x.leaves k 0) x.leaves x.nodes k) single (laid_now a))

  same_after : SameLeaves (leaves_by numbers []) (ring numbers (remove A.0 w.items))
  same_after z = ap (λ (l : Items). count z (ring numbers l)) (sym (ap (remove A.0) only ∙ remove_head A.0 empty_record []))

  agrees_then : (z : World) → z.items ≡ remove A.0 w.items → z.registers ≡ rooted w.registers (node_at after.nodes 1)
      → Agrees D z after
  agrees_then z =
      agrees_rooted a [] (remove A.0 w.items) laid_after (remove_ascending 0 A.0 w.items (list_up a)) same_after refl

  abbrev P : Plan
  P = emptying D x.leaves x.nodes x.counter A

  abbrev t : ℕ → Talk
  t n = talk_after D s x n (start_of P)

  change_is : P.change ≡ one_place D x.nodes 0 nought
  unfolding emptying plain_plan
  change_is = refl

  root_as : as_edit P.change.root ≡ turned_round (alone D s A.0)
  unfolding emptying plain_plan
  root_as =
      let z = leaf_by (record_hash D) row in
      let r = one_risen D (slots_of (z ∷ [])) x.nodes kept 0 nought (omega arith) in
      r.root
      ∙ (λ n. record { was = rise_first D z (r.leaf n).was n; becomes = rise_first D z (r.leaf n).becomes n })
      ∙ ap (λ (d : Dig). record { was = d; becomes = nought }) digest_as

  root : IsEdit (as_edit P.change.root)
  root =
      let h = alone_digests D ready.digests s A.0 in
      subst IsEdit (sym root_as) (record { old = h.new; new = h.old })

  brings : Brings D w (remove_lines D s A.0 T (item_with A.0 empty_record ∷ [])) (rooted s (node_at after.nodes 1))
      (remove A.0 w.items) w.changed
  brings =
      brings_also D refl (ap (rooted s) (sym (none_root D) ∙ kept_root D [] after.nodes laid_after.kept)) refl
      (subst (λ (l : Items). Brings D w (remove_lines D s A.0 T l) (rooted s (hash_of D (tree_without D A.0 T l)))
      (remove A.0 w.items) w.changed) only
      (remove_brings (ground_there a ready counter) A.0 on))

  lines : spoken D s x.nodes 3 (start_of P) ≡ remove_lines D s A.0 T (item_with A.0 empty_record ∷ [])
  unfolding emptying plain_plan request_at
  lines =
      ap (λ (r : W.Edit).
      first A.0 ∷ turn r.becomes r.was (note D s (say_ei (alone D s A.0))) ∷ adopt r.was r.becomes (note D s (say_ei r)) ∷ [])
      root_as

  begun : Step D s x (t 0)
  unfolding emptying plain_plan
  begun = first_step D ready.digests s x (t 0) (omega arith) refl number_fits

  turned : Step D s x (t 1)
  unfolding emptying plain_plan
  turned = turn_step D ready.digests s x (t 1) (omega arith) root begun.issued refl

  last_line_lem : LastStep D s x (t 2)
  unfolding emptying plain_plan
  last_line_lem = adopt_step D ready.digests s x (t 2) (omega arith) root turned.issued refl

  pub only_done : (r : ℕ) → Grants D w (Remove A) (converse D (suc (suc (suc r))) w (set_out x P))
  unfolding emptying plain_plan
  only_done r =
      grants_committed D w x after (Remove A) 2 w.changed P (remove_lines D s A.0 T (item_with A.0 empty_record ∷ []))
      (begun, (turned, tt)) last_line_lem refl refl
      (committed_one D x (slots_of (leaf_by (record_hash D) row ∷ [])) kept 0 nought P (omega arith) change_is refl)
      lines brings counter agrees_then tt r
