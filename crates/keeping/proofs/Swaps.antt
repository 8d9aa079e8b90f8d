-- An item taken out whose leaf is not the last: it first changes places with the last one, by lines of their own, and then goes from
-- there.
use mathlib.Core.Path.{◌≡◌, refl, sym, ap, ap₂, subst, ◌∙◌}
use mathlib.Core.Bool.{true}
use mathlib.Core.List.{List, [], ◌∷◌, ◌++◌}
use Prim.Native.Nat.{ℕ, suc, ◌+◌, ◌-◌, ◌<◌, ◌≤◌}
use native.Mathlib.Omega.{arith}
use borrow.Author.Tests.{le-ltb, eqb-true}
use lib.ListN.{set}
use Rattle.seqs.specs.First.{first_passes}
use Rattle.paper.specs.declared.Registers.{Registers}
use Rattle.paper.specs.declared.Item.{Item}
use Rattle.paper.specs.declared.Record.{Record}
use Rattle.paper.specs.Strings.{Dig, numbers, empty_record, record_hash}
use Rattle.paper.specs.Requests.{Request}
use Rattle.paper.specs.Answers.{rooted}
use Rattle.rings.specs.Trees.{TreeLeaf, hash_of, one, count, SameLeaves}
use Rattle.rings.specs.Lists.{OnList, remove, ring}
use Rattle.runs.specs.Run.{LineTurn, World, last, next}
use Rattle.runs.specs.Frames.{turns_of}
use Rattle.runs.specs.Liveness.{fed, HonestTurns}
use Rattle.runs.proofs.Parts.{IsDigest}
use Rattle.runs.proofs.Climbs.{tree_digest}
use Rattle.runs.proofs.Fed.{Brings, brings_also}
use Rattle.runs.proofs.Reach.{Ready}
use Rattle.slots.specs.Nodes.{node_at, leaf_put}
use Rattle.groves.specs.Grove.{slots_of, tree_of}
use Rattle.groves.specs.SlotLines.{leaf_at, leaves_swapped, swap_at}
use Rattle.groves.proofs.SlotLines.{swap_slots}
use Rattle.rows.specs.declared.Row.{Row}
use Rattle.rows.specs.Rows.{row_at, rows_from, row_put, of_item, row_digest}
use Rattle.rows.proofs.Puts.{row_there, row_else}
use Rattle.ringed.specs.Ringed.{leaf_by, leaves_by}
use Rattle.edits.specs.Changes.{two_places}
use Rattle.wishes.specs.declared.Wish.TheVariants.{Remove}
use Rattle.wishes.specs.Words.{held_of, own_place}
use Rattle.plans.specs.declared.Plan.{Plan}
use Rattle.plans.specs.Plans.{plain_plan, swapping, dropping}
use Rattle.asking.specs.declared.Talk.{Talk}
use Rattle.asking.specs.Saying.{start_of}
use Rattle.hearing.specs.declared.End.TheVariants.{GoesOn}
use Rattle.hearing.specs.Awaiting.{as_awaited}
use Rattle.saying.proofs.Forked.{Forks}
use Rattle.saying.proofs.Planned.{many, leaf_is, slot_digest, swap_lines_lem}
use Rattle.memory.proofs.Puts.{row_length}
use Rattle.keeping.specs.Talking.{Tablet, set_out, hears, Conversed, converse}
use Rattle.keeping.specs.Agreeing.{Agrees}
use Rattle.keeping.specs.Granting.{Grants}
use Rattle.keeping.proofs.Goes.{Step, talk_after}
use Rattle.keeping.proofs.Ends.{committed, LastStep, hears_swapped}
use Rattle.keeping.proofs.Laid.{Laid, kept_root, leaves_set, put_laid}
use Rattle.keeping.proofs.Grounds.{kept_there, root_there}
use Rattle.keeping.proofs.Listed.{row_stored}
use Rattle.keeping.proofs.Grants.{sent_before, goes_behind}
use Rattle.keeping.proofs.After.{agrees_rooted, list_up, same_now, laid_now, set_count}
use Rattle.keeping.proofs.Parts.{adopt_step, swap_step}
use Rattle.keeping.proofs.TwoSlots.{steps_on, Ahead, ahead, committed_two}
use Rattle.keeping.proofs.Drops.{drop_done}

-- ── a removal behind honest lines that leave the list as it is ──

module _ (D : List ℕ → Dig) where
  fed_on : (w : World) (ts us : List LineTurn) → fed D w (ts ++ us) ≡ fed D (fed D w ts) us
  fed_on w [] us = refl
  fed_on w (t ∷ ts) us = fed_on (next D last w t) ts us

  honest_on : (w : World) (ts us : List LineTurn) → HonestTurns D w ts → HonestTurns D (fed D w ts) us → HonestTurns D w (ts ++ us)
  honest_on w [] us h k = k
  honest_on w (t ∷ ts) us h k = (h.0, h.1, honest_on (next D last w t) ts us h.2 k)

  removed_behind : (w : World) (A : Item) (ts : List LineTurn) (c : Conversed D) (y : Dig) → HonestTurns D w ts
      → (fed D w ts).items ≡ w.items → (fed D w ts).registers ≡ rooted w.registers y → Grants D (fed D w ts) (Remove A) c
      → Grants D w (Remove A) (sent_before D ts c)
  removed_behind w A ts c y honest items registers g =
      record {
        ended = g.ended;
        led = fed_on w ts c.sent ∙ g.led;
        honest = honest_on w ts c.sent honest g.honest;
        items = g.items ∙ ap (remove A.0) items;
        registers = g.registers ∙ ap (λ (s : Registers). rooted s (node_at c.wish.tablet.nodes 1)) registers;
        counted = g.counted;
        agrees = g.agrees;
        answered = tt;
      }

module _ {D : List ℕ → Dig} {w : World} {x : Tablet} (a : Agrees D w x) (ready : Ready D w) (A : Item)
    (before : own_place x.leaves x.count A.0 < x.count - 1) where
  abbrev s : Registers
  s = w.registers

  abbrev h : Record → Dig
  h = record_hash D

  abbrev i : ℕ
  i = own_place x.leaves x.count A.0

  abbrev j : ℕ
  j = x.count - 1

  abbrev mine : Row
  mine = row_at x.leaves (own_place x.leaves x.count A.0)

  abbrev final : Row
  final = row_at x.leaves (x.count - 1)

  abbrev rs : List Row
  rs = rows_from x.leaves x.count 0

  abbrev ls : List TreeLeaf
  ls = leaves_by (record_hash D) (rows_from x.leaves x.count 0)

  few : x.count ≤ 1024
  few = a.holds.few

  in_i : own_place x.leaves x.count A.0 < x.count
  in_i = omega (arith, before)

  in_j : x.count - 1 < x.count
  in_j = omega (arith, before)

  own : mine.item.0 ≡ A.0
  own = sym (eqb-true A.0 mine.item.0 (first_passes (λ n. of_item A.0 (row_at x.leaves n)) x.count i refl in_i))

  -- what memory has in the two slots
  node_of : (n : ℕ) → n < x.count → node_at x.nodes (1024 + n) ≡ row_digest D (row_at x.leaves n)
  node_of n b = (kept_there a).slots n (omega (arith, b, few)) ∙ slot_digest D x.leaves x.nodes x.count n b

  -- ── memory afterwards ──

  abbrev once : List ℕ
  once = row_put x.leaves i final

  abbrev after : Tablet
  after = record {
    count = x.count;
    counter = x.counter;
    leaves = row_put (row_put x.leaves i final) j mine;
    nodes = leaf_put D (leaf_put D x.nodes i (node_at x.nodes (1024 + j))) j (node_at x.nodes (1024 + i));
  }

  laid_once : Laid D (set rs i final) once (leaf_put D x.nodes i (row_digest D final)) x.count
  laid_once =
      put_laid D (λ l. (ready.digests l).wide) rs x.leaves x.nodes x.count i final (laid_now a) in_i (row_stored a j in_j)

  laid_after : Laid D (set (set rs i final) j mine) after.leaves after.nodes x.count
  laid_after =
      subst (λ (m : List ℕ). Laid D (set (set rs i final) j mine) after.leaves m x.count)
      (ap₂ (λ (d e : Dig). leaf_put D (leaf_put D x.nodes i d) j e) (sym (node_of j in_j)) (sym (node_of i in_i)))
      (put_laid D (λ l. (ready.digests l).wide) (set rs i final) once (leaf_put D x.nodes i (row_digest D final))
      x.count j mine laid_once in_j
      (row_stored a i in_i))

  same_after : SameLeaves (leaves_by numbers (set (set rs i final) j mine)) (ring numbers w.items)
  same_after z =
      let e : 0 + i ≡ i = omega arith in
      let f : 0 + j ≡ j = omega arith in
      let stays : row_at once (0 + j) ≡ final =
      ap (row_at once) f ∙ row_else x.leaves i final (omega (arith, a.holds.room, in_i, few)) j (λ q. omega (arith, q, before)) in
      omega (
        arith,
        set_count numbers z mine once x.count 0 j in_j,
        ap (λ (r : Row). one z (leaf_by numbers r)) stays,
        ap (λ (l : List Row). count z (leaves_by numbers (set l j mine))) laid_once.there,
        ap (λ (l : List Row). count z (leaves_by numbers l)) laid_once.there,
        set_count numbers z final x.leaves x.count 0 i in_i,
        ap (λ (n : ℕ). one z (leaf_by numbers (row_at x.leaves n))) e,
        same_now a numbers z,
      )

  agrees_then : (z : World) → z.items ≡ w.items → z.registers ≡ rooted w.registers (node_at after.nodes 1) → Agrees D z after
  agrees_then z = agrees_rooted a (set (set rs i final) j mine) w.items laid_after (list_up a) same_after refl

  -- ── the module ──

  foot : (n : ℕ) → n < x.count → leaf_at ls n ≡ leaf_by (record_hash D) (row_at x.leaves n)
  foot n b = leaf_is D x.leaves x.nodes x.count n b

  root_then : hash_of D (tree_of (leaves_swapped i j ls)) ≡ node_at after.nodes 1
  root_then =
      (λ n.
      hash_of D (tree_of (set (set ls i (foot j in_j n)) j (foot i in_i n))))
      ∙ ap (λ (l : List TreeLeaf). hash_of D (tree_of (set l j (leaf_by h mine)))) (sym (leaves_set h rs i final))
      ∙ ap (λ (l : List TreeLeaf). hash_of D (tree_of l)) (sym (leaves_set h (set rs i final) j mine))
      ∙ kept_root D (leaves_by h (set (set rs i final) j mine)) after.nodes laid_after.kept

  brings : Brings D w (swap_at D w.registers i j ls) (rooted w.registers (node_at after.nodes 1)) w.items w.changed
  brings =
      let long = many D x.leaves x.nodes x.count in
      brings_also D refl (ap (rooted s) root_then) refl
      (swap_slots ready ls i j (omega (arith, long, few)) before (omega (arith, long, in_j)) (root_there a))

  -- ── the conversation ──

  abbrev P : Plan
  P = swapping D x.leaves x.nodes x.count x.counter A

  abbrev t : ℕ → Talk
  t n = talk_after D s x n (start_of P)

  parts : Forks P
  unfolding swapping plain_plan
  parts = record { first = refl; second = refl; third = refl; fourth = refl; fifth = refl }

  node_digest : (n : ℕ) → n < x.count → IsDigest (node_at x.nodes (1024 + n))
  node_digest n b = subst IsDigest (sym ((kept_there a).slots n (omega (arith, b, few)))) (tree_digest ready.digests (slots_of ls (1024 + n)))

  change_is : P.change ≡ two_places D x.nodes i j (node_at x.nodes (1024 + j)) (node_at x.nodes (1024 + i))
  unfolding swapping plain_plan
  change_is = refl

  room : x.count - 1 < 1024
  room = omega (arith, in_j, few)

  begun : Ahead D ready.digests s x P
  begun =
      ahead D ready.digests s x (slots_of ls) (kept_there a) i j before room P parts (node_at x.nodes (1024 + j))
      (node_at x.nodes (1024 + i)) (node_digest j in_j) (node_digest i in_i) change_is

  swapped : Step D s x (t 5)
  unfolding swapping plain_plan
  swapped = swap_step D ready.digests s x (t 5) (omega arith) refl begun.left begun.right begun.root begun.memo

  last_line_lem : LastStep D s x (t 6)
  unfolding swapping plain_plan
  last_line_lem = adopt_step D ready.digests s x (t 6) (omega arith) begun.root swapped.issued refl

  held_is : held_of x.count ≡ x.count
  unfolding held_of
  held_is = rw (le-ltb 1024 x.count few) refl

  committed_is : committed D x P ≡ after
  unfolding swapping plain_plan
  committed_is =
      committed_two D ready.digests s x (slots_of ls) (kept_there a) i j (node_at x.nodes (1024 + j))
      (node_at x.nodes (1024 + i)) P before room
      change_is refl

  -- the item's leaf is then the last, and goes
  abbrev next_plan : Plan
  next_plan = dropping D after.leaves after.nodes after.count after.counter A

  goes_on_with : (l : List ℕ) → as_awaited (t 6) l ≡ true → hears D (record { tablet = x; talk = t 6; end = GoesOn }) l ≡ set_out after next_plan
  unfolding swapping plain_plan
  goes_on_with l e =
      hears_swapped D s x (t 6) l e refl refl
      ∙ ap (λ (y : Tablet). set_out y (dropping D y.leaves y.nodes (held_of y.count) y.counter A)) committed_is
      ∙ ap (λ (k : ℕ). set_out after (dropping D after.leaves after.nodes k after.counter A)) held_is

  pub swap_done : OnList A.0 empty_record w.items → w.registers.counter.0 ≡ w.changed → (r : ℕ)
      → Grants D w (Remove A)
      (converse D (suc (suc (suc (suc (suc (suc (suc (suc (suc (suc (suc (suc (suc (suc r)))))))))))))) w (set_out x P))
  swap_done on counter r =
      let qs = swap_at D s i j ls in
      let r' = suc (suc (suc (suc (suc (suc (suc r)))))) in
      let lines = swap_lines_lem D x.leaves x.nodes x.count (kept_there a) s x.counter A before few in
      let honest = subst (λ (l : List Request). HonestTurns D w (turns_of l)) (sym lines) brings.fair in
      let is = goes_behind D s x w refl 6 (start_of P) (steps_on D s x 5 1 (start_of P) begun.five (swapped, tt)) last_line_lem honest
      (set_out after next_plan) goes_on_with r'
      ∙ ap (λ (l : List Request). sent_before D (turns_of l) (converse D r' (fed D w (turns_of l)) (set_out after next_plan))) lines in
      let w₁ = fed D w (turns_of qs) in
      let open-then : w₁.registers.opened ≡ true = ap (λ (q : Registers). q.opened) brings.registers_are ∙ ready.opened in
      let ready₁ : Ready D w₁ = record { digests = ready.digests; opened = open-then } in
      let counter₁ : w₁.registers.counter.0 ≡ w₁.changed =
      ap (λ (q : Registers). q.counter.0) brings.registers_are ∙ counter ∙ sym brings.changed_are in
      let own₁ : (row_at after.leaves j).item.0 ≡ A.0 =
      ap (λ (q : Row). q.item.0) (row_there once j mine (omega (arith, a.holds.room, row_length x.leaves i final, in_j, few))) ∙ own in
      subst (Grants D w (Remove A)) (sym is)
      (removed_behind D w A (turns_of qs) _ (node_at after.nodes 1) brings.fair brings.items_are brings.registers_are
      (drop_done (agrees_then w₁ brings.items_are brings.registers_are) ready₁ A
      (subst (OnList A.0 empty_record) (sym brings.items_are) on)
      (omega (arith, before)) own₁ counter₁ r))
