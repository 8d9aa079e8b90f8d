-- An insert into a list with an item: the leaf whose gap holds the number leads to it, and its own leaf takes the first free slot.
use mathlib.Core.Path.{◌≡◌, refl, sym, ap, subst, ◌∙◌}
use mathlib.Core.Bool.{true}
use mathlib.Core.List.{List, [], ◌∷◌, ◌++◌}
use Prim.Native.Nat.{ℕ, suc, ◌+◌, ◌<◌}
use native.Mathlib.Omega.{arith}
use lib.ListN.{length, set}
use Rattle.seqs.specs.Choose.{◌and◌}
use Rattle.seqs.specs.First.{first_passes}
use Rattle.paper.specs.declared.Registers.{Registers}
use Rattle.paper.specs.declared.Item.{Item}
use Rattle.paper.specs.declared.Record.{Record}
use Rattle.paper.specs.Strings.{Dig, numbers, empty_record, record_hash, in_gap}
use Rattle.paper.specs.Answers.{rooted}
use Rattle.rings.specs.Trees.{TreeLeaf, points, hash_of, one, count, SameLeaves}
use Rattle.rings.specs.Lists.{Unlisted, insert, ring}
use Rattle.rings.proofs.Counting.{count_append, count_only}
use Rattle.rings.proofs.Gaps.{Gap, gap_holds_lem}
use Rattle.rings.proofs.Items.{insert_ascending}
use Rattle.rings.proofs.Ring.{gap_free}
use Rattle.rings.proofs.RingChanges.{insert_ring}
use Rattle.runs.specs.Run.{World}
use Rattle.runs.specs.Sizes.{InEightBytes}
use Rattle.runs.specs.Ways.{item_of, next_of, hash_in}
use Rattle.runs.proofs.Parts.{IsDigest}
use Rattle.runs.proofs.Climbs.{record_digest}
use Rattle.runs.proofs.Sizes.{none_fits_lem, none_well_formed}
use Rattle.runs.proofs.Fed.{Brings, brings_also}
use Rattle.runs.proofs.Reach.{Ready}
use Rattle.runs.proofs.Removes.{no_record_hash}
use Rattle.slots.specs.Nodes.{node_at, leaf_put}
use Rattle.groves.specs.Grove.{slots_of, tree_of}
use Rattle.groves.specs.SlotLines.{leaf_at, leaves_with, insert_at}
use Rattle.groves.proofs.SlotLines.{insert_slot}
use Rattle.rows.specs.declared.Row.{Row}
use Rattle.rows.specs.Rows.{row_at, rows_from, row_put, seek, gap_of, row_digest}
use Rattle.ringed.specs.Ringed.{leaf_by, leaves_by}
use Rattle.edits.specs.Changes.{two_places}
use Rattle.wishes.specs.declared.Wish.TheVariants.{Insert}
use Rattle.plans.specs.declared.Plan.{Plan}
use Rattle.plans.specs.Plans.{leaf_of_items, place_plan, inserting}
use Rattle.asking.specs.declared.Talk.{Talk}
use Rattle.asking.specs.Saying.{start_of}
use Rattle.saying.proofs.Forked.{Forks}
use Rattle.saying.proofs.Planned.{many, leaf_is, insert_lines_lem}
use Rattle.store.specs.RoundTrip.{Storable}
use Rattle.keeping.specs.Talking.{Tablet, set_out, converse}
use Rattle.keeping.specs.Agreeing.{Agrees}
use Rattle.keeping.specs.Granting.{Grants}
use Rattle.keeping.proofs.Goes.{Step, talk_after}
use Rattle.keeping.proofs.Ends.{LastStep}
use Rattle.keeping.proofs.Laid.{Laid, kept_root, row_digest_lem, leaves_set, leaves_append, put_laid, append_laid}
use Rattle.keeping.proofs.Grounds.{not_malformed, kept_there, root_there}
use Rattle.keeping.proofs.Listed.{row_stored}
use Rattle.keeping.proofs.Grants.{grants_committed}
use Rattle.keeping.proofs.After.{agrees_rooted, list_up, same_now, laid_now, row_on, item_positive, next_positive, storable_by, set_count}
use Rattle.keeping.proofs.Parts.{turn_step, adopt_step, place_step}
use Rattle.keeping.proofs.TwoSlots.{steps_on, Ahead, ahead, committed_two}

module _ {D : List ℕ → Dig} {w : World} {x : Tablet} (a : Agrees D w x) (ready : Ready D w) (A : Item) (small : InEightBytes A.0)
    (positive : 0 < A.0) (room : x.count < 1024) (there : seek (gap_of A.0) x.leaves x.count 0 < x.count) where
  abbrev s : Registers
  s = w.registers

  abbrev h : Record → Dig
  h = record_hash D

  abbrev i : ℕ
  i = seek (gap_of A.0) x.leaves x.count 0

  abbrev here : Row
  here = row_at x.leaves (seek (gap_of A.0) x.leaves x.count 0)

  abbrev left : Row
  left = leaf_of_items here.item A here.entry

  abbrev right : Row
  right = leaf_of_items A here.next empty_record

  abbrev rs : List Row
  rs = rows_from x.leaves x.count 0

  abbrev ls : List TreeLeaf
  ls = leaves_by (record_hash D) (rows_from x.leaves x.count 0)

  abbrev P : Plan
  P = inserting D x.leaves x.nodes x.count x.counter A

  in_gap_lem : in_gap A.0 here.item.0 here.next.0 ≡ true
  in_gap_lem = first_passes (λ j. gap_of A.0 (row_at x.leaves j)) x.count i refl there

  gap : Gap here.item.0 here.next.0 A.0
  gap = gap_holds_lem A.0 here.item.0 here.next.0 in_gap_lem

  -- ── memory afterwards ──

  abbrev after : Tablet
  after = record {
    count = x.count + 1;
    counter = x.counter;
    leaves = row_put (row_put x.leaves i left) x.count right;
    nodes = leaf_put D (leaf_put D x.nodes i (row_digest D left)) x.count (row_digest D right);
  }

  left_stored : Storable left
  left_stored =
      let t = row_stored a i there in
      let f = t.fits in
      storable_by left (f.0 and small and f.1.1) (item_positive a i there) positive (not_malformed here t.stands)

  right_stored : Storable right
  right_stored =
      let f = (row_stored a i there).fits in
      storable_by right (small and f.1.0 and none_fits_lem.0 and none_fits_lem.1 and none_fits_lem.2 and none_fits_lem.3 and tt)
      positive (next_positive a i there)
      none_well_formed

  laid_after : Laid D (set rs i left ++ (right ∷ [])) after.leaves after.nodes (x.count + 1)
  laid_after =
      let D32 : (l : List ℕ) → length (D l) ≡ 32 = λ l. (ready.digests l).wide in
      append_laid D D32 (set rs i left) (row_put x.leaves i left) (leaf_put D x.nodes i (row_digest D left)) x.count right
      (put_laid D D32 rs x.leaves x.nodes x.count i left (laid_now a) there left_stored) room right_stored

  same_after : SameLeaves (leaves_by numbers (set rs i left ++ (right ∷ []))) (ring numbers (insert A.0 empty_record w.items))
  same_after z =
      let B = here.item.0 in
      let B' = here.next.0 in
      let e : 0 + i ≡ i = omega arith in
      let r = leaf_by numbers right in
      omega (
        arith,
        ap (count z) (leaves_append numbers (set rs i left) right),
        count_append z (leaves_by numbers (set rs i left)) (r ∷ []),
        count_only z r (r ∷ []) refl,
        set_count numbers z left x.leaves x.count 0 i there,
        ap (λ (k : ℕ). one z (leaf_by numbers (row_at x.leaves k))) e,
        same_now a numbers z,
        insert_ring numbers A.0 B B' (numbers here.entry) empty_record w.items (list_up a) gap (row_on a i there numbers) z,
      )

  unlisted : Unlisted A.0 w.items
  unlisted =
      gap_free numbers A.0 here.item.0 here.next.0 (numbers here.entry) w.items (list_up a) gap (row_on a i there numbers)

  agrees_then : (z : World) → z.items ≡ insert A.0 empty_record w.items → z.registers ≡ rooted w.registers (node_at after.nodes 1)
      → Agrees D z after
  agrees_then z =
      agrees_rooted a (set rs i left ++ (right ∷ [])) (insert A.0 empty_record w.items) laid_after
      (insert_ascending 0 A.0 empty_record w.items positive unlisted (list_up a)) same_after refl

  -- ── the module ──

  foot : leaf_at ls i ≡ leaf_by (record_hash D) here
  foot = leaf_is D x.leaves x.nodes x.count i there

  root_then : hash_of D (tree_of (leaves_with A.0 i ls)) ≡ node_at after.nodes 1
  root_then =
      (λ j.
      let b = foot j in
      hash_of D (tree_of (set ls i (points (item_of b) A.0 (hash_in b)) ++ (points A.0 (next_of b) (sym (no_record_hash D) j) ∷ []))))
      ∙ ap (λ (l : List TreeLeaf). hash_of D (tree_of (l ++ (leaf_by h right ∷ [])))) (sym (leaves_set h rs i left))
      ∙ ap (λ (l : List TreeLeaf). hash_of D (tree_of l)) (sym (leaves_append h (set rs i left) right))
      ∙ kept_root D (leaves_by h (set rs i left ++ (right ∷ []))) after.nodes laid_after.kept

  brings : Brings D w (insert_at D w.registers A.0 i ls) (rooted w.registers (node_at after.nodes 1))
      (insert A.0 empty_record w.items) w.changed
  brings =
      let f = (row_stored a i there).fits in
      let long = many D x.leaves x.nodes x.count in
      let by : (Q : TreeLeaf → Type 0) → Q (leaf_by h here) → Q (leaf_at ls i) = λ Q k. subst Q (sym foot) k in
      brings_also D refl (ap (rooted s) root_then) refl
      (insert_slot ready ls A.0 i (omega (arith, long, room)) (omega (arith, long, there)) (root_there a) small
      (by (λ z. InEightBytes (item_of z)) f.0) (by (λ z. InEightBytes (next_of z)) f.1.0)
      (by (λ z. IsDigest (hash_in z)) (record_digest ready.digests here.entry)) positive
      (by (λ z. 0 < item_of z) (item_positive a i there)) (by (λ z. 0 < next_of z) (next_positive a i there))
      (by (λ z. in_gap A.0 (item_of z) (next_of z) ≡ true) in_gap_lem))

  -- ── the conversation ──

  abbrev t : ℕ → Talk
  t n = talk_after D s x n (start_of P)

  parts : Forks P
  unfolding inserting place_plan
  parts = record { first = refl; second = refl; third = refl; fourth = refl; fifth = refl }

  change_is : P.change ≡ two_places D x.nodes i x.count (row_digest D left) (row_digest D right)
  unfolding inserting place_plan
  change_is = refl

  front : Ahead D ready.digests s x P
  front =
      ahead D ready.digests s x (slots_of ls) (kept_there a) i x.count there room P parts (row_digest D left) (row_digest D right)
      (row_digest_lem ready.digests left) (row_digest_lem ready.digests right) change_is

  placed : Step D s x (t 5)
  unfolding inserting place_plan
  placed =
      let f = (row_stored a i there).fits in
      place_step D ready.digests s x (t 5) (omega arith) refl f.0 small f.1.0 (record_digest ready.digests here.entry)
      front.sent_root front.memo

  turned : Step D s x (t 6)
  unfolding inserting place_plan
  turned = turn_step D ready.digests s x (t 6) (omega arith) front.root placed.issued refl

  last_line_lem : LastStep D s x (t 7)
  unfolding inserting place_plan
  last_line_lem = adopt_step D ready.digests s x (t 7) (omega arith) front.root turned.issued refl

  pub insert_done : w.registers.counter.0 ≡ w.changed → (r : ℕ)
      → Grants D w (Insert A) (converse D (suc (suc (suc (suc (suc (suc (suc (suc r)))))))) w (set_out x P))
  unfolding inserting place_plan
  insert_done counter r =
      grants_committed D w x after (Insert A) 7 w.changed P (insert_at D s A.0 i ls)
      (steps_on D s x 5 2 (start_of P) front.five (placed, (turned, tt))) last_line_lem refl refl
      (committed_two D ready.digests s x (slots_of ls) (kept_there a) i x.count (row_digest D left) (row_digest D right)
      P there room change_is refl)
      (insert_lines_lem D x.leaves x.nodes x.count (kept_there a) s x.counter A there room) brings counter agrees_then tt r
