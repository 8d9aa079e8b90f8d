-- An insert into the empty list: the item's leaf leads to itself and takes the first slot.
use mathlib.Core.Path.{◌≡◌, refl, sym, ap, subst, ◌∙◌}
use mathlib.Core.List.{List, [], ◌∷◌}
use Prim.Native.Nat.{ℕ, suc, ◌<◌}
use native.Mathlib.Omega.{arith}
use lib.ListN.{length}
use Rattle.seqs.specs.Choose.{◌and◌}
use Rattle.paper.specs.declared.Registers.{Registers}
use Rattle.paper.specs.declared.Item.{Item}
use Rattle.paper.specs.Strings.{Dig, nought, numbers, empty_record, record_hash, leaf, digest_of}
use Rattle.paper.specs.Requests.{first, adopt}
use Rattle.paper.specs.Answers.{rooted}
use Rattle.rings.specs.Trees.{points, Tree, tip, hash_of, count, SameLeaves}
use Rattle.rings.specs.Lists.{Unlisted, insert, ring}
use Rattle.rings.proofs.Items.{insert_ascending}
use Rattle.runs.specs.Run.{Items, World}
use Rattle.runs.specs.Sizes.{InEightBytes}
use Rattle.runs.specs.Ways as W
use Rattle.runs.specs.Honest.{say_ei, note, alone, insert_lines}
use Rattle.runs.specs.TreesAfter.{tree_with}
use Rattle.runs.proofs.Climbs.{IsEdit}
use Rattle.runs.proofs.Sizes.{none_fits_lem, none_well_formed}
use Rattle.runs.proofs.Fed.{Brings, brings_also}
use Rattle.runs.proofs.Reach.{Ready}
use Rattle.runs.proofs.Moves.{insert_brings}
use Rattle.runs.proofs.Removes.{no_record_hash}
use Rattle.slots.specs.Nodes.{node_at, leaf_put}
use Rattle.groves.specs.Grove.{slots_of, tree_of, Kept}
use Rattle.rows.specs.declared.Row.{Row}
use Rattle.rows.specs.Rows.{rows_from, row_put, row_digest}
use Rattle.ringed.specs.Ringed.{leaf_by, leaves_by}
use Rattle.edits.specs.Changes.{one_place}
use Rattle.wishes.specs.declared.Wish.TheVariants.{Insert}
use Rattle.plans.specs.declared.Plan.{Plan}
use Rattle.plans.specs.Plans.{leaf_of_items, plain_plan, beginning}
use Rattle.asking.specs.declared.Talk.{Talk}
use Rattle.asking.specs.Saying.{start_of, request_at}
use Rattle.rising.specs.Rising.{as_edit}
use Rattle.rising.proofs.Rising.{one_risen}
use Rattle.saying.specs.Spoken.{spoken}
use Rattle.keeping.specs.Talking.{Tablet, set_out, converse}
use Rattle.keeping.specs.Agreeing.{Agrees}
use Rattle.keeping.specs.Granting.{Grants}
use Rattle.keeping.proofs.Goes.{Step, talk_after}
use Rattle.keeping.proofs.Ends.{LastStep}
use Rattle.keeping.proofs.Laid.{Laid, kept_root, append_laid}
use Rattle.keeping.proofs.Grounds.{kept_there, ground_there}
use Rattle.keeping.proofs.Listed.{listed_many}
use Rattle.keeping.proofs.Grants.{grants_committed}
use Rattle.keeping.proofs.After.{agrees_rooted, list_up, laid_now, storable_by}
use Rattle.keeping.proofs.OneSlot.{committed_one, rise_none, alone_root, alone_digests}
use Rattle.keeping.proofs.Parts.{adopt_step, first_step}

module _ {D : List ℕ → Dig} {w : World} {x : Tablet} (a : Agrees D w x) (ready : Ready D w)
    (counter : w.registers.counter.0 ≡ w.changed) (A : Item) (small : InEightBytes A.0) (positive : 0 < A.0) (none : w.items ≡ []) where
  abbrev s : Registers
  s = w.registers

  abbrev row : Row
  row = leaf_of_items A A empty_record

  abbrev T : Tree
  T = tree_of (leaves_by (record_hash D) (rows_from x.leaves x.count 0))

  no_rows : x.count ≡ 0
  no_rows = sym (listed_many a) ∙ ap length none

  kept : Kept D (slots_of []) x.nodes
  kept = subst (λ (k : ℕ). Kept D (slots_of (leaves_by (record_hash D) (rows_from x.leaves k 0))) x.nodes) no_rows (kept_there a)

  abbrev after : Tablet
  after = record { count = 1; counter = x.counter; leaves = row_put x.leaves 0 row; nodes = leaf_put D x.nodes 0 (row_digest D row) }

  laid_after : Laid D (row ∷ []) after.leaves after.nodes 1
  laid_after =
      append_laid D (λ l. (ready.digests l).wide) [] x.leaves x.nodes 0 row
      (subst (λ (k : ℕ). Laid D (rows_from x.leaves k 0) x.leaves x.nodes k) no_rows (laid_now a)) (omega arith)
      (storable_by row (small and small and none_fits_lem.0 and none_fits_lem.1 and none_fits_lem.2 and none_fits_lem.3 and tt)
      positive positive none_well_formed)

  unlisted : Unlisted A.0 w.items
  unlisted = subst (λ (l : Items). Unlisted A.0 l) (sym none) tt

  same_after : SameLeaves (leaves_by numbers (row ∷ [])) (ring numbers (insert A.0 empty_record w.items))
  unfolding insert
  same_after z = ap (λ (l : Items). count z (ring numbers (insert A.0 empty_record l))) (sym none)

  agrees_then : (z : World) → z.items ≡ insert A.0 empty_record w.items → z.registers ≡ rooted w.registers (node_at after.nodes 1)
      → Agrees D z after
  agrees_then z =
      agrees_rooted a (row ∷ []) (insert A.0 empty_record w.items) laid_after
      (insert_ascending 0 A.0 empty_record w.items positive unlisted (list_up a)) same_after refl

  abbrev P : Plan
  P = beginning D x.nodes x.counter A

  abbrev t : ℕ → Talk
  t n = talk_after D s x n (start_of P)

  digest_is : row_digest D row ≡ digest_of D (leaf A.0 A.0 nought)
  digest_is = ap (λ (d : Dig). digest_of D (leaf A.0 A.0 d)) (no_record_hash D)

  change_is : P.change ≡ one_place D x.nodes 0 (row_digest D row)
  unfolding beginning plain_plan
  change_is = refl

  root_as : as_edit P.change.root ≡ alone D s A.0
  unfolding beginning plain_plan
  root_as =
      let r = one_risen D (slots_of []) x.nodes kept 0 (row_digest D row) (omega arith) in
      r.root
      ∙ (λ n. record { was = rise_none D (r.leaf n).was n; becomes = rise_none D (r.leaf n).becomes n })
      ∙ ap (λ (d : Dig). record { was = nought; becomes = d }) digest_is

  root_then : hash_of D (tip (points A.0 A.0 nought)) ≡ node_at after.nodes 1
  root_then =
      ap (λ (d : Dig). hash_of D (tip (points A.0 A.0 d))) (sym (no_record_hash D)) ∙ sym (alone_root D (leaf_by (record_hash D) row))
      ∙ kept_root D (leaf_by (record_hash D) row ∷ []) after.nodes laid_after.kept

  brings : Brings D w (insert_lines D s A.0 T []) (rooted s (node_at after.nodes 1)) (insert A.0 empty_record w.items) w.changed
  brings =
      brings_also D refl (ap (rooted s) root_then) refl
      (subst (λ (l : Items). Brings D w (insert_lines D s A.0 T l) (rooted s (hash_of D (tree_with D A.0 T l)))
      (insert A.0 empty_record w.items) w.changed) none
      (insert_brings (ground_there a ready counter) A.0 small positive unlisted))

  lines : spoken D s x.nodes 2 (start_of P) ≡ insert_lines D s A.0 T []
  unfolding beginning plain_plan request_at
  lines =
      ap (λ (r : W.Edit). first A.0 ∷ adopt r.was r.becomes (note D s (say_ei (alone D s A.0))) ∷ []) root_as

  begun : Step D s x (t 0)
  unfolding beginning plain_plan
  begun = first_step D ready.digests s x (t 0) (omega arith) refl small

  last_line_lem : LastStep D s x (t 1)
  unfolding beginning plain_plan
  last_line_lem =
      adopt_step D ready.digests s x (t 1) (omega arith) (subst IsEdit (sym root_as) (alone_digests D ready.digests s A.0))
      begun.issued refl

  pub first_done : (r : ℕ) → Grants D w (Insert A) (converse D (suc (suc r)) w (set_out x P))
  unfolding beginning plain_plan
  first_done r =
      grants_committed D w x after (Insert A) 1 w.changed P (insert_lines D s A.0 T []) (begun, tt) last_line_lem refl refl
      (committed_one D x (slots_of []) kept 0 (row_digest D row) P (omega arith) change_is refl) lines brings counter agrees_then tt r
