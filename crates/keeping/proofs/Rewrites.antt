-- Set and clear: where the tablet does not refuse, the item's leaf has another record, in the module's tree and in memory.
use mathlib.Core.Path.{◌≡◌, refl, sym, ap, ap₂, subst, ◌∙◌}
use mathlib.Core.Bool.{Bool, false}
use mathlib.Core.List.{List, [], ◌∷◌, ◌++◌}
use Prim.Native.Nat.{ℕ, ◌+◌, ◌<◌, ◌≤◌}
use native.Mathlib.Omega.{arith}
use borrow.Author.Tests.{ne_eqb}
use lib.ListN.{set}
use Rattle.seqs.specs.Choose.{pick, ◌and◌}
use Rattle.seqs.specs.Bytes.{Bytes, be64, bytes_append, be64_bytes}
use Rattle.paper.specs.declared.Registers.{Registers}
use Rattle.paper.specs.declared.Item.{Item}
use Rattle.paper.specs.declared.Record.{Record}
use Rattle.paper.specs.declared.Revision.{Revision}
use Rattle.paper.specs.declared.Values.{Values}
use Rattle.paper.specs.Strings.{Dig, record_hash, numbers, digest_of}
use Rattle.paper.specs.Requests.{Request}
use Rattle.paper.specs.Refusals.{top, leaf_of}
use Rattle.paper.specs.Answers.{raised, answer}
use Rattle.rings.specs.Trees.{TreeLeaf, points, Tree, tip, hash_of, one, count, SameLeaves}
use Rattle.rings.specs.Lists.{OnList, put_record, ring}
use Rattle.rings.proofs.Items.{put_ascending}
use Rattle.rings.proofs.RingChanges.{put_ring}
use Rattle.runs.specs.Run.{World}
use Rattle.runs.specs.Sizes.{InEightBytes, RecordFits}
use Rattle.runs.specs.Frames.{parts_of}
use Rattle.runs.specs.Ways as W
use Rattle.runs.specs.Ways.{next_of, is_of, Way, found, way_to, rise, risen}
use Rattle.runs.specs.Honest.{path_up}
use Rattle.runs.specs.TreesAfter.{tree_rewritten}
use Rattle.runs.proofs.Parts.{IsDigest, AllDigests}
use Rattle.runs.proofs.Frames.{Sendable}
use Rattle.runs.proofs.Climbs.{rise_digest}
use Rattle.runs.proofs.Places.{rise_plug, located, regrown_one}
use Rattle.runs.proofs.Reach.{Ready}
use Rattle.runs.proofs.Standing.{Ground, once, of_item_lem}
use Rattle.slots.specs.Nodes.{node_at, leaf_put}
use Rattle.groves.specs.Grove.{slots_of, tree_of, way_up}
use Rattle.groves.proofs.ShortLines.{way_length}
use Rattle.rows.specs.declared.Row.{Row}
use Rattle.rows.specs.Rows.{row_at, rows_from, row_put, row_digest}
use Rattle.ringed.specs.Ringed.{leaf_by, leaves_by}
use Rattle.edits.specs.declared.Change.{Change}
use Rattle.edits.specs.Changes.{one_place}
use Rattle.wishes.specs.Words.{own_place}
use Rattle.plans.specs.declared.Script.{Script}
use Rattle.plans.specs.declared.Plan.{Plan}
use Rattle.plans.specs.Plans.{leaf_of_items, raised_counter, plain_plan, rewritten}
use Rattle.asking.specs.declared.Part.TheVariants.{PathWhole}
use Rattle.asking.specs.Parts.{part_at}
use Rattle.asking.specs.Saying.{start_of, turns_round, turned_edit, request_at}
use Rattle.hearing.specs.Awaiting.{Awaited, path_reply, plain_reply, awaited_as, awaited_at}
use Rattle.hearing.specs.Hearing.{committing, concluding, of_two}
use Rattle.rising.specs.Rising.{as_edit}
use Rattle.saying.proofs.Seen.{Seen, seen}
use Rattle.saying.proofs.Rewritten.{root_is}
use Rattle.keeping.specs.Talking.{Tablet}
use Rattle.keeping.specs.Agreeing.{Agrees}
use Rattle.keeping.proofs.Goes.{Step, talk_after}
use Rattle.keeping.proofs.Ends.{committed, LastStep}
use Rattle.keeping.proofs.Sorts.{path_step}
use Rattle.keeping.proofs.Laid.{Laid, leaves_set, leaves_many, kept_root, put_laid}
use Rattle.keeping.proofs.OneSlot.{committed_one}
use Rattle.keeping.proofs.Grounds.{kept_there, ground_there}
use Rattle.keeping.proofs.Listed.{row_stored, Own, own}
use Rattle.keeping.proofs.After.{agrees_after, list_up, same_now, laid_now, row_on, set_count, slot_rises}
use Rattle.store.specs.RoundTrip.{Storable}

-- a listed item, and the counter below its top, where tablet and module are together
pub record Rewritable (D : List ℕ → Dig) (w : World) (x : Tablet) (A : Item) : Type 0 where
  pub agrees : Agrees D w x
  pub ready : Ready D w
  pub counter : w.registers.counter.0 ≡ w.changed
  pub was : Record
  pub on : OnList A.0 was w.items
  pub below : w.registers.counter.0 < top

-- a script whose first line is the path of one slot, sent as it is
pub record OfOne (σ : Script) : Type 0 where
  pub first : part_at σ 0 ≡ PathWhole
  pub forward : turns_round σ ≡ false
  pub only : of_two σ ≡ false

-- ── an item's leaf, and another record for it ──

module _ {D : List ℕ → Dig} {w : World} {x : Tablet} {A : Item} (k : Rewritable D w x A) where
  abbrev a : Agrees D w x
  a = k.agrees

  abbrev ready : Ready D w
  ready = k.ready

  abbrev s : Registers
  s = w.registers

  abbrev i : ℕ
  i = own_place x.leaves x.count A.0

  abbrev here : Row
  here = row_at x.leaves (own_place x.leaves x.count A.0)

  abbrev rs : List Row
  rs = rows_from x.leaves x.count 0

  abbrev ls : List TreeLeaf
  ls = leaves_by (record_hash D) (rows_from x.leaves x.count 0)

  abbrev T : Tree
  T = tree_of (leaves_by (record_hash D) (rows_from x.leaves x.count 0))

  abbrev way : Way
  way = way_up (slots_of (leaves_by (record_hash D) (rows_from x.leaves x.count 0))) 10 0 (1024 + i)

  g : Ground D w (tree_of (leaves_by (record_hash D) (rows_from x.leaves x.count 0)))
  g = ground_there a ready k.counter

  o : Own a A.0 k.was
  o = own a A.0 k.was k.on

  there : own_place x.leaves x.count A.0 < x.count
  there = o.place

  few : x.count ≤ 1024
  few = a.holds.few

  -- what the last line carries of the leaf
  pub leaf_fits : InEightBytes A.0 × InEightBytes here.next.0 × RecordFits here.entry
  leaf_fits =
      let f = (row_stored a i there).fits in
      let n = f.1.1 in
      (subst InEightBytes o.item f.0, f.1.0, (n.0, n.1.0, n.1.1.0, n.1.1.1.0))

  -- the counter, raised in both
  pub raised_is : raised_counter x.counter ≡ record { 0 = w.registers.counter.0 + 1 }
  unfolding raised_counter
  raised_is =
      ap raised_counter a.counter
      ∙ rw (ne_eqb w.registers.counter.0 top (λ e. omega (arith, e, k.below))) refl

  module _ {σ : Script} (lone : OfOne σ) (v : Values) (new : Record) where
    abbrev row : Row
    row = leaf_of_items here.item here.next new

    abbrev P : Plan
    P = rewritten D x.leaves x.nodes x.count x.counter σ A v new

    abbrev E : W.Edit
    E = record {
      was = digest_of D (leaf_of D A.0 here.next.0 here.entry);
      becomes = digest_of D (leaf_of D A.0 here.next.0 new);
    }

    abbrev Y : W.Edit
    Y = risen D way E

    abbrev change : Change
    change = one_place D x.nodes i (row_digest D row)

    root_as : as_edit (one_place D x.nodes i (row_digest D row)).root ≡ Y
    root_as = root_is D x.leaves x.nodes x.count (kept_there a) s x.counter A v few there new

    -- ── the lines ──

    pub path_first : request_at x.nodes (start_of P) ≡ path_up D s way E → Step D w.registers x (start_of P)
    unfolding rewritten plain_plan awaited_at
    path_first q =
        path_step D ready.digests s x (start_of P) (ap committing lone.first) (ap concluding lone.first)
        (omega arith) way E change.root q
        (ap (awaited_as (start_of P)) lone.first
        ∙ ap (λ (b : Bool). path_reply (pick b (turned_edit change.root) change.root)) lone.forward) root_as
        (record { old = ready.digests _; new = ready.digests _ })
        (omega (arith, way_length (slots_of ls) 10 0 (1024 + i)))

    up : IsDigest Y.becomes
    up = rise_digest ready.digests way E.becomes (ready.digests _)

    pub roots_digests : (m : Dig) → IsDigest m → AllDigests (Y.was ∷ Y.becomes ∷ m ∷ [])
    roots_digests m h = rise_digest ready.digests way E.was (ready.digests _) and up and h and tt

    -- the last one, by its request and the first byte of its reply
    pub last_as : (q : Request) (n : ℕ) → request_at x.nodes (talk_after D s x 1 (start_of P)) ≡ q
        → awaited_at (talk_after D s x 1 (start_of P)) ≡ plain_reply (n ∷ (change.root.becomes ++ be64 (raised_counter x.counter).0))
        → Sendable q → 0x80 + (parts_of q).kind ≡ n → n < 256 → (answer D s q).lists ≡ Y.becomes ++ be64 (s.counter.0 + 1)
        → LastStep D w.registers x (talk_after D w.registers x 1 (start_of P))
    last_as q n q-is r-is ok kind byte lists =
        let becomes : change.root.becomes ≡ Y.becomes = ap (λ (e : W.Edit). e.becomes) root_as in
        let counts : (raised_counter x.counter).0 ≡ s.counter.0 + 1 = ap (λ (c : Revision). c.0) raised_is in
        let Known-is = ap (λ (t : Awaited). t.known) r-is
        ∙ ap₂ (λ (d : Dig) (c : ℕ). n ∷ (d ++ be64 c)) becomes counts in
        record {
          ok = subst Sendable (sym q-is) ok;
          known = subst Bytes (sym Known-is) (
            byte,
            bytes_append Y.becomes (be64 (s.counter.0 + 1)) up.bytes
                (be64_bytes (s.counter.0 + 1)),
          );
          says = ap (λ (r : Request). (0x80 + (parts_of r).kind) ∷ (answer D s r).lists) q-is
              ∙ ap₂ (λ (k : ℕ) (l : List ℕ). k ∷ l) kind lists ∙ sym Known-is;
          memo = ap (λ (t : Awaited). t.memo) r-is;
        }

    -- ── memory afterwards ──

    abbrev pub y : Tablet
    y = record {
      count = x.count;
      counter = raised_counter x.counter;
      leaves = row_put x.leaves i row;
      nodes = leaf_put D x.nodes i (row_digest D row);
    }

    pub committed_is : committed D x P ≡ y
    unfolding rewritten plain_plan
    committed_is = committed_one D x (slots_of ls) (kept_there a) i (row_digest D row) P (omega (arith, there, few)) refl lone.only

    module _ (storable : Storable row) where
      laid_after : Laid D (set rs i row) (row_put x.leaves i row) (leaf_put D x.nodes i (row_digest D row)) x.count
      laid_after = put_laid D (λ l. (ready.digests l).wide) rs x.leaves x.nodes x.count i row (laid_now a) there storable

      same_after : SameLeaves (leaves_by numbers (set rs i row)) (ring numbers (put_record A.0 new w.items))
      same_after z =
          let n = here.next.0 in
          let e : 0 + i ≡ i = omega arith in
          let was : leaf_by numbers here ≡ points A.0 n (numbers here.entry) =
          ap (λ (k : ℕ). points k n (numbers here.entry)) o.item in
          let becomes : leaf_by numbers row ≡ points A.0 n (numbers new) = ap (λ (k : ℕ). points k n (numbers new)) o.item in
          let in_ring = subst (λ (t : TreeLeaf). 0 < count t (ring numbers w.items)) was (row_on a i there numbers) in
          omega (
            arith,
            set_count numbers z row x.leaves x.count 0 i there,
            ap (λ (k : ℕ). one z (leaf_by numbers (row_at x.leaves k))) e,
            same_now a numbers z,
            put_ring numbers A.0 n (numbers here.entry) new w.items (list_up a) in_ring z,
            ap (one z) was,
            ap (one z) becomes,
          )

      pub agrees_then : (z : World) → z.items ≡ put_record A.0 new w.items → z.registers ≡ raised w.registers (node_at y.nodes 1)
          → Agrees D z y
      agrees_then z items registers =
          agrees_after (set rs i row) (put_record A.0 new w.items) laid_after (put_ascending 0 A.0 new w.items (list_up a)) same_after
          items (sym (ap (λ (t : Registers). t.root) registers)) (raised_is ∙ sym (ap (λ (t : Registers). t.counter) registers))

      -- the module's new root
      pub root_then : hash_of D (tree_rewritten D A.0 new T) ≡ node_at y.nodes 1
      root_then =
          let have = of_item_lem g A.0 k.was k.on in
          let sight : Seen D x.leaves x.count (is_of A.0) i = seen D x.leaves x.count (is_of A.0) few there in
          let f = found (is_of A.0) T in
          let X = tip (points A.0 (next_of f) (record_hash D new)) in
          let p = way_to (is_of A.0) T in
          let next : next_of f ≡ here.next.0 = ap next_of sight.is_it in
          ap (hash_of D) (regrown_one f X p T (located (is_of A.0) T have).under_way (once g f)) ∙ sym (rise_plug D p X)
          ∙ (λ j. rise D (sight.its_way j) (hash_of D (tip (points (sym o.item j) (next j) (record_hash D new)))))
          ∙ slot_rises D ls i (leaf_by (record_hash D) row) (omega (arith, there, leaves_many (record_hash D) rs, (laid_now a).size))
          (omega (arith, there, few))
          ∙ ap (λ (l : List TreeLeaf). hash_of D (tree_of l)) (sym (leaves_set (record_hash D) rs i row))
          ∙ kept_root D (leaves_by (record_hash D) (set rs i row)) (leaf_put D x.nodes i (row_digest D row)) laid_after.kept
