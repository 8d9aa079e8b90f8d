-- The last leaf taken out, of two or more: the leaf that leads to its item leads past it, and the last slot is free again.
use mathlib.Core.Path.{◌≡◌, refl, sym, ap, ap₂, subst, ◌∙◌}
use mathlib.Core.Bool.{true}
use mathlib.Core.List.{List, [], ◌∷◌, ◌++◌}
use mathlib.Core.Logic.{◌≢◌}
use Prim.Native.Nat.{ℕ, zero, suc, ◌+◌, ◌-◌, ◌<◌, ◌≤◌}
use native.Mathlib.Nat.{not-suc-le-zero, le_of_suc-le-suc}
use native.Mathlib.Omega.{arith}
use borrow.Author.Tests.{eq-eqb, eqb-true}
use lib.ListN.{length, set}
use Rattle.seqs.specs.Choose.{◌and◌}
use Rattle.seqs.specs.First.{first_passes}
use Rattle.paper.specs.declared.Registers.{Registers}
use Rattle.paper.specs.declared.Item.{Item}
use Rattle.paper.specs.declared.Record.{Record}
use Rattle.paper.specs.Strings.{Dig, nought, numbers, empty_record, record_hash, in_gap}
use Rattle.paper.specs.Answers.{rooted}
use Rattle.rings.specs.Trees.{TreeLeaf, points, hash_of, one, count, SameLeaves}
use Rattle.rings.specs.Lists.{item_with, AscendingFrom, OnList, remove, ring}
use Rattle.rings.proofs.Counting.{count_append, count_only}
use Rattle.rings.proofs.Gaps.{gap_tells, gap_apart}
use Rattle.rings.proofs.Items.{remove_ascending}
use Rattle.rings.proofs.Find.{Near, near}
use Rattle.rings.proofs.RingChanges.{remove_ring}
use Rattle.runs.specs.Run.{Items, World}
use Rattle.runs.specs.Sizes.{InEightBytes}
use Rattle.runs.specs.Ways.{item_of, next_of, hash_in, leads_to}
use Rattle.runs.specs.Honest.{record_of}
use Rattle.runs.proofs.Parts.{IsDigest}
use Rattle.runs.proofs.Climbs.{nought_digest, record_digest}
use Rattle.runs.proofs.Sizes.{record_is}
use Rattle.runs.proofs.RingLeaves.{one_of_item, one_to_item}
use Rattle.runs.proofs.Fed.{Brings, brings_also}
use Rattle.runs.proofs.Reach.{Ready}
use Rattle.runs.proofs.Removes.{no_record_hash}
use Rattle.slots.specs.Nodes.{node_at, leaf_put}
use Rattle.groves.specs.Grove.{slots_of, tree_of}
use Rattle.groves.specs.SlotLines.{leaf_at, leaves_without, drop_at}
use Rattle.groves.proofs.SlotLines.{drop_last}
use Rattle.rows.specs.declared.Row.{Row}
use Rattle.rows.specs.Rows.{row_at, rows_from, row_put, seek, leading_to, row_digest}
use Rattle.ringed.specs.Ringed.{leaf_by, leaves_by}
use Rattle.edits.specs.Changes.{two_places}
use Rattle.wishes.specs.declared.Wish.TheVariants.{Remove}
use Rattle.plans.specs.declared.Plan.{Plan}
use Rattle.plans.specs.Plans.{leaf_of_items, no_row, place_plan, dropping}
use Rattle.asking.specs.declared.Talk.{Talk}
use Rattle.asking.specs.Saying.{start_of}
use Rattle.saying.proofs.Forked.{Forks}
use Rattle.saying.proofs.Planned.{many, leaf_is, drop_lines}
use Rattle.store.specs.RoundTrip.{Storable}
use Rattle.keeping.specs.Talking.{Tablet, set_out, converse}
use Rattle.keeping.specs.Agreeing.{Agrees}
use Rattle.keeping.specs.Granting.{Grants}
use Rattle.keeping.proofs.Goes.{Step, talk_after}
use Rattle.keeping.proofs.Ends.{LastStep}
use Rattle.keeping.proofs.Laid.{Laid, kept_root, row_digest_lem, leaves_set, leaves_append, rows_last, put_laid, drop_laid}
use Rattle.keeping.proofs.Grounds.{not_malformed, kept_there, root_there}
use Rattle.keeping.proofs.Listed.{row_stored, row_record, sought, listed_many}
use Rattle.keeping.proofs.Grants.{grants_committed}
use Rattle.keeping.proofs.After.{agrees_rooted, list_up, same_now, laid_now, row_on, item_positive, next_positive, storable_by, set_count}
use Rattle.keeping.proofs.Parts.{adopt_step, place_step}
use Rattle.keeping.proofs.TwoSlots.{steps_on, Ahead, ahead, committed_two}

-- a row put before the last one
set_front : (l : List Row) (i : ℕ) (r z : Row) → i < length l → set (l ++ (z ∷ [])) i r ≡ set l i r ++ (z ∷ [])
set_front [] i r z h = absurd (not-suc-le-zero h)
set_front (y ∷ l) zero r z h = refl
set_front (y ∷ l) (suc i) r z h = ap (λ (t : List Row). y ∷ t) (set_front l i r z (le_of_suc-le-suc h))

rows_many : (m : List ℕ) (n i : ℕ) → length (rows_from m n i) ≡ n
rows_many m zero i = refl
rows_many m (suc n) i = omega (arith, rows_many m n (i + 1))

module _ {D : List ℕ → Dig} {w : World} {x : Tablet} (a : Agrees D w x) (ready : Ready D w) (A : Item)
    (on : OnList A.0 empty_record w.items) (more : 1 < x.count) (own : (row_at x.leaves (x.count - 1)).item.0 ≡ A.0) where
  abbrev s : Registers
  s = w.registers

  abbrev h : Record → Dig
  h = record_hash D

  abbrev j : ℕ
  j = x.count - 1

  abbrev last : Row
  last = row_at x.leaves (x.count - 1)

  abbrev i : ℕ
  i = seek (leading_to A.0) x.leaves x.count 0

  abbrev ls : List TreeLeaf
  ls = leaves_by (record_hash D) (rows_from x.leaves x.count 0)

  abbrev here : Row
  here = row_at x.leaves (seek (leading_to A.0) x.leaves x.count 0)

  -- ── the leaf that leads to the item ──

  few : x.count ≤ 1024
  few = a.holds.few

  in_j : x.count - 1 < x.count
  in_j = omega arith

  near_it : Near A.0 (numbers empty_record) (ring numbers w.items)
  near_it = by_items w.items refl
    where
      by_items : (l : Items) → w.items ≡ l → Near A.0 (numbers empty_record) (ring numbers w.items)
      by_items [] e = absurd (omega (arith, more, listed_many a, ap length e))
      by_items (item_with b r ∷ []) e = absurd (omega (arith, more, listed_many a, ap length e))
      by_items (item_with b r ∷ item_with c t ∷ l) e =
          subst (λ (m : Items). Near A.0 (numbers empty_record) (ring numbers m)) (sym e)
          (near numbers A.0 empty_record b r c t l (subst (λ (m : Items). AscendingFrom 0 m) e (list_up a))
          (subst (OnList A.0 empty_record) e on))

  there : seek (leading_to A.0) x.leaves x.count 0 < x.count
  there = sought a numbers (leads_to A.0) (points near_it.a A.0 near_it.w) (eq-eqb A.0 A.0 refl) near_it.on

  leads : A.0 ≡ here.next.0
  leads = eqb-true A.0 here.next.0 (first_passes (λ n. leading_to A.0 (row_at x.leaves n)) x.count i refl there)

  here_is : leaf_by numbers here ≡ points near_it.a A.0 near_it.w
  here_is =
      one_to_item numbers (leaf_by numbers here) (points near_it.a A.0 near_it.w) w.items (list_up a) (sym leads)
      (row_on a i there numbers) near_it.on

  last_is : leaf_by numbers last ≡ points A.0 near_it.b (numbers empty_record)
  last_is =
      one_of_item numbers (leaf_by numbers last) (points A.0 near_it.b (numbers empty_record)) w.items (list_up a) own
      (row_on a j in_j numbers) near_it.next

  other : here.item.0 ≢ A.0
  other e = gap_apart near_it.gap (sym (ap item_of here_is) ∙ e)

  before : seek (leading_to A.0) x.leaves x.count 0 < x.count - 1
  before =
      let apart : i ≢ j = λ e. other (ap (λ (n : ℕ). (row_at x.leaves n).item.0) e ∙ own) in
      omega (arith, there, apart)

  in_gap_lem : in_gap A.0 here.item.0 last.next.0 ≡ true
  in_gap_lem = (λ n. in_gap A.0 (item_of (here_is n)) (next_of (last_is n))) ∙ gap_tells near_it.gap

  -- its record is the empty one
  blank_last : last.entry ≡ empty_record
  blank_last =
      sym (row_record a j in_j) ∙ ap (λ (n : ℕ). record_of n w.items) own ∙ record_is 0 A.0 empty_record w.items (list_up a) on

  -- ── memory afterwards ──

  abbrev left : Row
  left = leaf_of_items here.item last.next here.entry

  abbrev front : List Row
  front = rows_from x.leaves (x.count - 1) 0

  abbrev after : Tablet
  after = record {
    count = x.count - 1;
    counter = x.counter;
    leaves = row_put (row_put x.leaves i left) j no_row;
    nodes = leaf_put D (leaf_put D x.nodes i (row_digest D left)) j nought;
  }

  is_suc : x.count ≡ suc (x.count - 1)
  is_suc = omega arith

  split_rows : rows_from x.leaves x.count 0 ≡ front ++ (last ∷ [])
  split_rows =
      let z : 0 + j ≡ j = omega arith in
      ap (λ (n : ℕ). rows_from x.leaves n 0) is_suc ∙ rows_last x.leaves j 0 ∙ ap (λ (n : ℕ). front ++ (row_at x.leaves n ∷ [])) z

  left_stored : Storable left
  left_stored =
      let t = row_stored a i there in
      let f = t.fits in
      storable_by left (f.0 and (row_stored a j in_j).fits.1.0 and f.1.1) (item_positive a i there) (next_positive a j in_j)
      (not_malformed here t.stands)

  laid_after : Laid D (set front i left) after.leaves after.nodes (x.count - 1)
  laid_after =
      let D32 : (l : List ℕ) → length (D l) ≡ 32 = λ l. (ready.digests l).wide in
      let now : Laid D (front ++ (last ∷ [])) x.leaves x.nodes x.count =
      subst (λ (l : List Row). Laid D l x.leaves x.nodes x.count) split_rows (laid_now a) in
      let put = put_laid D D32 (front ++ (last ∷ [])) x.leaves x.nodes x.count i left now there left_stored in
      let ends : Laid D (set front i left ++ (last ∷ [])) (row_put x.leaves i left) (leaf_put D x.nodes i (row_digest D left)) x.count =
      subst (λ (l : List Row). Laid D l (row_put x.leaves i left) (leaf_put D x.nodes i (row_digest D left)) x.count)
      (set_front front i left last (omega (arith, before, rows_many x.leaves j 0))) put in
      drop_laid D D32 (set front i left) (row_put x.leaves i left) (leaf_put D x.nodes i (row_digest D left)) j last no_row
      (subst (Laid D (set front i left ++ (last ∷ [])) (row_put x.leaves i left) (leaf_put D x.nodes i (row_digest D left))) is_suc ends)

  same_after : SameLeaves (leaves_by numbers (set front i left)) (ring numbers (remove A.0 w.items))
  same_after z =
      let B = here.item.0 in
      let B' = last.next.0 in
      let e : 0 + i ≡ i = omega arith in
      let y = leaf_by numbers last in
      let was : leaf_by numbers here ≡ points B A.0 (numbers here.entry) = ap (λ (n : ℕ). points B n (numbers here.entry)) (sym leads) in
      let went : y ≡ points A.0 B' (numbers last.entry) = ap (λ (n : ℕ). points n B' (numbers last.entry)) own in
      omega (
        arith,
        set_count numbers z left x.leaves j 0 i before,
        ap (λ (n : ℕ). one z (leaf_by numbers (row_at x.leaves n))) e,
        ap (λ (l : List Row). count z (leaves_by numbers l)) split_rows,
        ap (count z) (leaves_append numbers front last),
        count_append z (leaves_by numbers front) (y ∷ []),
        count_only z y (y ∷ []) refl,
        same_now a numbers z,
        remove_ring numbers A.0 B B' (numbers here.entry) (numbers last.entry) w.items (list_up a) other
            (subst (λ (t : TreeLeaf). 0 < count t (ring numbers w.items)) was (row_on a i there numbers))
            (subst (λ (t : TreeLeaf). 0 < count t (ring numbers w.items)) went (row_on a j in_j numbers)) z,
        ap (one z) was,
        ap (one z) went,
      )

  agrees_then : (z : World) → z.items ≡ remove A.0 w.items → z.registers ≡ rooted w.registers (node_at after.nodes 1)
      → Agrees D z after
  agrees_then z =
      agrees_rooted a (set front i left) (remove A.0 w.items) laid_after (remove_ascending 0 A.0 w.items (list_up a)) same_after refl

  -- ── the module ──

  abbrev fl : List TreeLeaf
  fl = leaves_by (record_hash D) (rows_from x.leaves (x.count - 1) 0)

  foot : leaf_at fl i ≡ leaf_by (record_hash D) here
  foot = leaf_is D x.leaves x.nodes j i before

  last_blank : record_hash D last.entry ≡ nought
  last_blank = ap h blank_last ∙ no_record_hash D

  root_then : hash_of D (tree_of (leaves_without i fl (leaf_by (record_hash D) last))) ≡ node_at after.nodes 1
  root_then =
      (λ n. let b = foot n in hash_of D (tree_of (set fl i (points (item_of b) last.next.0 (hash_in b)))))
      ∙ ap (λ (l : List TreeLeaf). hash_of D (tree_of l)) (sym (leaves_set h front i left))
      ∙ kept_root D (leaves_by h (set front i left)) after.nodes laid_after.kept

  brings : Brings D w (drop_at D w.registers A.0 i fl (leaf_by (record_hash D) last)) (rooted w.registers (node_at after.nodes 1))
      (remove A.0 w.items) w.changed
  brings =
      let f = (row_stored a i there).fits in
      let g = (row_stored a j in_j).fits in
      let long = many D x.leaves x.nodes j in
      let by : (Q : TreeLeaf → Type 0) → Q (leaf_by h here) → Q (leaf_at fl i) = λ Q k. subst Q (sym foot) k in
      let root : hash_of D (tree_of (fl ++ (leaf_by h last ∷ []))) ≡ s.root =
      ap (λ (l : List TreeLeaf). hash_of D (tree_of l)) (sym (leaves_append h front last))
      ∙ ap (λ (l : List Row). hash_of D (tree_of (leaves_by h l))) (sym split_rows) ∙ root_there a in
      brings_also D refl (ap (rooted s) root_then) refl
      (drop_last ready fl (leaf_by h last) A.0 i (omega (arith, long, in_j, few)) (omega (arith, long, before)) root
      (by (λ z. z ≡ points (item_of z) A.0 (hash_in z)) (ap (λ (n : ℕ). points here.item.0 n (h here.entry)) (sym leads)))
      (ap₂ (λ (n : ℕ) (d : Dig). points n last.next.0 d) own last_blank)
      (subst InEightBytes own g.0) (by (λ z. InEightBytes (item_of z)) f.0) g.1.0
      (by (λ z. IsDigest (hash_in z)) (record_digest ready.digests here.entry))
      (subst (λ (n : ℕ). 0 < n) own (item_positive a j in_j)) (by (λ z. 0 < item_of z) (item_positive a i there)) (next_positive a j in_j)
      (by (λ z. in_gap A.0 (item_of z) last.next.0 ≡ true) in_gap_lem))

  -- ── the conversation ──

  abbrev P : Plan
  P = dropping D x.leaves x.nodes x.count x.counter A

  abbrev t : ℕ → Talk
  t n = talk_after D s x n (start_of P)

  parts : Forks P
  unfolding dropping place_plan
  parts = record { first = refl; second = refl; third = refl; fourth = refl; fifth = refl }

  change_is : P.change ≡ two_places D x.nodes i j (row_digest D left) nought
  unfolding dropping place_plan
  change_is = refl

  room : x.count - 1 < 1024
  room = omega (arith, in_j, few)

  begun : Ahead D ready.digests s x P
  begun =
      ahead D ready.digests s x (slots_of ls) (kept_there a) i j before room P parts (row_digest D left) nought
      (row_digest_lem ready.digests left) nought_digest change_is

  placed : Step D s x (t 5)
  unfolding dropping place_plan
  placed =
      let f = (row_stored a i there).fits in
      let g = (row_stored a j in_j).fits in
      place_step D ready.digests s x (t 5) (omega arith) refl f.0 (subst InEightBytes own g.0) g.1.0
      (record_digest ready.digests here.entry) begun.sent_root begun.memo

  last_line_lem : LastStep D s x (t 6)
  unfolding dropping place_plan
  last_line_lem = adopt_step D ready.digests s x (t 6) (omega arith) begun.root placed.issued refl

  pub drop_done : w.registers.counter.0 ≡ w.changed → (r : ℕ)
      → Grants D w (Remove A) (converse D (suc (suc (suc (suc (suc (suc (suc r))))))) w (set_out x P))
  unfolding dropping place_plan
  drop_done counter r =
      grants_committed D w x after (Remove A) 6 w.changed P (drop_at D s A.0 i fl (leaf_by h last))
      (steps_on D s x 5 1 (start_of P) begun.five (placed, tt)) last_line_lem refl refl
      (committed_two D ready.digests s x (slots_of ls) (kept_there a) i j (row_digest D left) nought P before room change_is refl)
      (drop_lines D x.leaves x.nodes x.count (kept_there a) s x.counter A before few (sym leads) own last_blank)
      brings counter agrees_then tt r
