-- A question that the tablet does not refuse is granted: by the leaf that tells of it, or where nothing is listed.
use mathlib.Core.Path.{◌≡◌, refl, sym, ap, subst, ◌∙◌}
use mathlib.Core.List.{List, [], ◌∷◌}
use mathlib.Core.Logic.{◌≢◌}
use Rattle.std.specs.Prelude.{Ok}
use Prim.Native.Nat.{ℕ, suc, ◌+◌, ◌<◌, ◌≤◌}
use native.Mathlib.Omega.{arith}
use borrow.Author.Tests.{eqb-false}
use lib.ListN.{length}
use Rattle.seqs.specs.Choose.{◌and◌}
use Rattle.seqs.specs.Bytes.{Bytes, be64, bytes_append, be64_bytes}
use Rattle.paper.specs.declared.Registers.{Registers}
use Rattle.paper.specs.declared.Item.{Item}
use Rattle.paper.specs.declared.Record.{Record}
use Rattle.paper.specs.declared.Finding.{Finding}
use Rattle.paper.specs.declared.Finding.TheVariants.{Recorded, Listed, Gap}
use Rattle.paper.specs.Strings.{Dig, v1, record_hash, digest_of, numbers, nums, spread}
use Rattle.paper.specs.Requests.{Request, witness, ask, ask_none}
use Rattle.paper.specs.Refusals.{leaf_of}
use Rattle.paper.specs.Answers as Does
use Rattle.paper.specs.Answers.{finding_of, finding_bytes, answer}
use Rattle.rings.specs.Trees.{Tree}
use Rattle.rings.specs.Lists.{ListItem, item_with}
use Rattle.runs.specs.Run.{Items, World}
use Rattle.runs.specs.Sizes.{InEightBytes}
use Rattle.runs.specs.Frames.{parts_of}
use Rattle.runs.specs.Ways as W
use Rattle.runs.specs.Ways.{tells_of, Way, found, risen}
use Rattle.runs.specs.Honest.{say_u1, note, path_up, leaf_lines, ask_lines}
use Rattle.runs.proofs.Parts.{IsDigest}
use Rattle.runs.proofs.Frames.{Sendable}
use Rattle.runs.proofs.Climbs.{rise_digest}
use Rattle.runs.proofs.Reach.{Ready, note_digest}
use Rattle.runs.proofs.Standing.{Ground, spotted}
use Rattle.runs.proofs.Asks.{tells, Answers, ask_answers}
use Rattle.groves.specs.Grove.{slots_of, tree_of, way_up}
use Rattle.groves.proofs.ShortLines.{way_length}
use Rattle.rows.specs.declared.Row.{Row}
use Rattle.rows.specs.Rows.{row_at, rows_from, seek, telling}
use Rattle.ringed.specs.Ringed.{leaves_by}
use Rattle.edits.specs.declared.Change.{Change}
use Rattle.edits.specs.Changes.{still_place}
use Rattle.edits.proofs.Places.{still_is}
use Rattle.wishes.specs.declared.Wish.TheVariants.{Ask}
use Rattle.plans.specs.declared.Plan.{Plan}
use Rattle.plans.specs.declared.Script.TheVariants.{Asking}
use Rattle.plans.specs.Plans.{no_values, no_row, plain_plan, asked}
use Rattle.asking.specs.Saying.{start_of, request_at}
use Rattle.hearing.specs.Awaiting.{awaited_at}
use Rattle.rising.specs.Rising.{as_edit}
use Rattle.saying.specs.Spoken.{spoken}
use Rattle.saying.proofs.Asked.{none_lines, root_node, plan_is, ask_spoken, ask_lines_lem}
use Rattle.keeping.specs.Talking.{Tablet, set_out, converse}
use Rattle.keeping.specs.Agreeing.{Agrees}
use Rattle.keeping.specs.Granting.{begins, Grants}
use Rattle.keeping.proofs.Goes.{talk_after, Steps}
use Rattle.keeping.proofs.Ends.{LastStep, hears_answer}
use Rattle.keeping.proofs.Sorts.{line_at, path_step, memo_step}
use Rattle.keeping.proofs.Grounds.{kept_there, ground_there}
use Rattle.keeping.proofs.Listed.{row_stored, row_record, sought, listed_many}
use Rattle.keeping.proofs.Allowed.{no_word, its_plan, was_begun}
use Rattle.keeping.proofs.Grants.{grants_by}

-- ── a finding's bytes ──

spread_bytes : (l : List ℕ) → Bytes (spread (nums l))
spread_bytes [] = tt
spread_bytes (n ∷ l) = bytes_append (be64 n) (spread (nums l)) (be64_bytes n) (spread_bytes l)

finding_bytes_lem : (f : Finding) → Bytes (finding_bytes f)
finding_bytes_lem (Recorded A r) = (omega arith, spread_bytes (A.0 ∷ numbers r))
finding_bytes_lem (Listed A) = (omega arith, spread_bytes (A.0 ∷ []))
finding_bytes_lem (Gap A A') = (omega arith, spread_bytes (A.0 ∷ A'.0 ∷ []))

module _ {D : List ℕ → Dig} {w : World} {x : Tablet} (a : Agrees D w x) (ready : Ready D w)
    (counter : w.registers.counter.0 ≡ w.changed) (q : Item) (small : InEightBytes q.0) (positive : 0 < q.0) where
  abbrev s : Registers
  s = w.registers

  abbrev T : Tree
  T = tree_of (leaves_by (record_hash D) (rows_from x.leaves x.count 0))

  g : Ground D w (tree_of (leaves_by (record_hash D) (rows_from x.leaves x.count 0)))
  g = ground_there a ready counter

  -- nothing changes
  agrees_still : (z : World) → z.items ≡ w.items → z.registers ≡ w.registers → Agrees D z x
  agrees_still z i r =
      record {
        rows = a.rows;
        holds = a.holds;
        items = i ∙ a.items;
        root = a.root ∙ sym (ap (λ (t : Registers). t.root) r);
        counter = a.counter ∙ sym (ap (λ (t : Registers). t.counter) r);
      }

  -- ── where nothing is listed ──

  module _ (none : w.items ≡ []) where
    abbrev P₀ : Plan
    P₀ = asked x.leaves x.nodes 0 x.counter q

    last_of_none : LastStep D w.registers x (start_of (asked x.leaves x.nodes 0 x.counter q))
    unfolding asked plain_plan request_at awaited_at
    last_of_none = record { ok = small; known = (omega arith, be64_bytes q.0); says = refl; memo = refl }

    answers_none : Answers g q.0 (ask_none q.0 ∷ [])
    answers_none = subst (λ (l : Items). Answers g q.0 (ask_lines D s q.0 T l)) none (ask_answers g q.0 small positive)

    granted_none : (r : ℕ) → Grants D w (Ask q) (converse D (suc r) w (set_out x (asked x.leaves x.nodes 0 x.counter q)))
    unfolding asked plain_plan
    granted_none r =
        grants_by D w x x (Ask q) 0 w.changed P₀ (start_of P₀) (ask_none q.0 ∷ []) tt last_of_none
        (λ l e. hears_answer D s x (start_of P₀) l e refl refl) (none_lines D x.leaves x.nodes s x.counter q)
        answers_none.brings counter agrees_still answers_none.reply r

  -- ── by the leaf that tells of q ──

  module _ (some : x.count ≢ 0) (there : seek (telling q.0) x.leaves x.count 0 < x.count) where
    abbrev i : ℕ
    i = seek (telling q.0) x.leaves x.count 0

    abbrev here : Row
    here = row_at x.leaves (seek (telling q.0) x.leaves x.count 0)

    abbrev way : Way
    way = way_up (slots_of (leaves_by (record_hash D) (rows_from x.leaves x.count 0))) 10 0 (1024 + i)

    abbrev d : Dig
    d = digest_of D (leaf_of D here.item.0 here.next.0 here.entry)

    abbrev X : W.Edit
    X = record { was = d; becomes = d }

    abbrev Y : W.Edit
    Y = risen D way X

    abbrev P : Plan
    P = plain_plan Asking q no_values here (still_place x.nodes i) here no_row x.count x.counter

    few : x.count ≤ 1024
    few = a.holds.few

    -- its lines, one by one
    as_planned : asked x.leaves x.nodes x.count x.counter q ≡ P
    as_planned = plan_is D x.leaves x.nodes x.count (kept_there a) s x.counter q few some there

    abbrev asks : List Request
    asks =
        path_up D s way X
        ∷ witness d Y.was (note D s (say_u1 X Y))
        ∷ ask q.0 here.item.0 here.next.0 here.entry Y.was (note D s (v1 d Y.was))
        ∷ []

    lines : spoken D s x.nodes 3 (start_of P) ≡ asks
    lines =
        ap (λ (p : Plan). spoken D s x.nodes 3 (start_of p)) (sym as_planned)
        ∙ ask_spoken D x.leaves x.nodes x.count (kept_there a) s x.counter q few some there

    -- what memory has at the root
    root_still : as_edit (still_place x.nodes i).root ≡ Y
    root_still =
        ap (λ (c : Change). as_edit c.root) (sym (still_is x.nodes i (omega (arith, there, few))))
        ∙ ap (λ (r : Dig). record { was = r; becomes = r })
        (root_node D x.leaves x.nodes x.count (kept_there a) s x.counter q few some there)

    up : IsDigest Y.was
    up = rise_digest ready.digests way d (ready.digests _)

    steps : Steps D w.registers x 2 (start_of P)
    unfolding plain_plan awaited_at
    steps = (
      path_step D ready.digests s x (start_of P) refl refl (omega arith) way X (still_place x.nodes i).root
          (line_at 0 lines) refl root_still
          (record { old = ready.digests _; new = ready.digests _ })
          (omega (arith, way_length (slots_of (leaves_by (record_hash D) (rows_from x.leaves x.count 0))) 10 0 (1024 + i))),
      (
        memo_step D ready.digests s x (talk_after D s x 1 (start_of P)) refl refl (omega arith)
            (witness d Y.was (note D s (say_u1 X Y))) 0x82 [] (v1 d Y.was) Does.nothing
            (line_at 1 lines) refl
            (ready.digests _ and up and note_digest ready (say_u1 X Y) and tt) refl (omega arith) refl,
        tt,
      ),
    )

    last_line_lem : LastStep D w.registers x (talk_after D w.registers x 2 (start_of P))
    unfolding plain_plan awaited_at
    last_line_lem =
        let f = (row_stored a i there).fits in
        record {
          ok = subst Sendable (sym (line_at 2 lines)) (
            small,
            f.0,
            f.1.0,
            (f.1.1.0, f.1.1.1.0, f.1.1.1.1.0, f.1.1.1.1.1.0),
            (up and note_digest ready (v1 d Y.was) and tt),
          );
          known = (omega arith, finding_bytes_lem (finding_of q.0 here.item.0 here.next.0 here.entry));
          says = ap (λ (r : Request). (0x80 + (parts_of r).kind) ∷ (answer D s r).lists) (line_at 2 lines);
          memo = refl;
        }

    granted_leaf : (z : ListItem Record) (l : Items) → w.items ≡ z ∷ l → (r : ℕ)
        → Grants D w (Ask q) (converse D (suc (suc (suc r))) w (set_out x P))
    unfolding plain_plan
    granted_leaf z l e r =
        let t = talk_after D s x 2 (start_of P) in
        let answers : Answers g q.0 (leaf_lines D s q.0 T w.items) =
        subst (λ (l : Items). Answers g q.0 (leaf_lines D s q.0 T l)) (sym e)
        (subst (λ (l : Items). Answers g q.0 (ask_lines D s q.0 T l)) e (ask_answers g q.0 small positive)) in
        let as-honest = ap (λ (p : Plan). spoken D s x.nodes 3 (start_of p)) (sym as_planned)
        ∙ ask_lines_lem D x.leaves x.nodes x.count (kept_there a) s x.counter q few some there w.items (row_record a i there) in
        grants_by D w x x (Ask q) 2 w.changed P t (leaf_lines D s q.0 T w.items) steps last_line_lem
        (λ l e. hears_answer D s x t l e refl refl) as-honest answers.brings counter agrees_still answers.reply r

  -- ── either ──

  by_items : (l : Items) → w.items ≡ l → (r : ℕ)
      → Grants D w (Ask q) (converse D (suc (suc (suc r))) w (set_out x (asked x.leaves x.nodes x.count x.counter q)))
  by_items [] e r =
      let none-held : x.count ≡ 0 = sym (listed_many a) ∙ ap length e in
      subst (λ (k : ℕ). Grants D w (Ask q) (converse D (suc (suc (suc r))) w (set_out x (asked x.leaves x.nodes k x.counter q))))
      (sym none-held) (granted_none e (suc (suc r)))
  by_items (item_with A r₀ ∷ l) e r =
      let t = spotted g (tells_of q.0) (tells g q.0 positive A r₀ l e) in
      let there = sought a (record_hash D) (tells_of q.0) (found (tells_of q.0) T) t.passes t.in_ring in
      let some : x.count ≢ 0 = λ k. omega (arith, k, there) in
      subst (λ (p : Plan). Grants D w (Ask q) (converse D (suc (suc (suc r))) w (set_out x p))) (sym (as_planned some there))
      (granted_leaf some there (item_with A r₀) l e r)

-- a question
pub ask_granted : {D : List ℕ → Dig} {w : World} {x : Tablet} → Agrees D w x → Ready D w → w.registers.counter.0 ≡ w.changed → (q : Item)
    → InEightBytes q.0 → (p : Plan) → begins D x (Ask q) ≡ Ok p → (r : ℕ)
    → Grants D w (Ask q) (converse D (suc (suc (suc r))) w (set_out x p))
ask_granted {D} {w} {x} a ready counter q small p begun r =
    let tests = no_word D x (Ask q) (was_begun begun) in
    let positive : 0 < q.0 = omega (arith, eqb-false q.0 0 tests.0) in
    subst (λ (p : Plan). Grants D w (Ask q) (converse D (suc (suc (suc r))) w (set_out x p))) (sym (its_plan D x (Ask q) p begun))
    (by_items a ready counter q small positive w.items refl r)
