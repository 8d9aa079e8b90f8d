-- Lines by their part of a plan, as steps of a conversation: the ones that get the memorandum of two roots, and adopt, which is the last.
use mathlib.Core.Path.{◌≡◌, refl, sym, ap, subst, ◌∙◌}
use mathlib.Core.List.{List, [], ◌∷◌}
use Prim.Native.Nat.{ℕ, ◌+◌, ◌<◌}
use native.Mathlib.Omega.{arith}
use Rattle.seqs.specs.Choose.{◌and◌}
use Rattle.seqs.specs.Bytes.{Bytes}
use Rattle.paper.specs.declared.Registers.{Registers}
use Rattle.paper.specs.Strings.{Dig, nought, ei, leaf, digest_of}
use Rattle.paper.specs.Requests.{Request, first, swap, place, turn, adopt}
use Rattle.paper.specs.Answers as Does
use Rattle.paper.specs.Answers.{answer}
use Rattle.runs.specs.Sizes.{InEightBytes}
use Rattle.runs.specs.Frames.{parts_of}
use Rattle.runs.proofs.Parts.{IsDigest}
use Rattle.runs.proofs.Frames.{Sendable}
use Rattle.runs.proofs.Climbs.{IsEdit}
use Rattle.asking.specs.declared.Talk.{Talk}
use Rattle.asking.specs.declared.Part.TheVariants.{SwapThem, FirstOf, PlaceIt, TurnIt, AdoptIt}
use Rattle.asking.specs.Parts.{part_at}
use Rattle.asking.specs.Saying.{sent, request_as, request_at}
use Rattle.hearing.specs.Awaiting.{Awaited, awaited_as, awaited_at}
use Rattle.hearing.specs.Hearing.{committing, concluding}
use Rattle.rising.specs.Rising.{as_edit}
use Rattle.keeping.specs.Talking.{Tablet}
use Rattle.keeping.proofs.Goes.{Step}
use Rattle.keeping.proofs.Ends.{LastStep}
use Rattle.keeping.proofs.Sorts.{memo_step}

module _ (D : List ℕ → Dig) (DD : (l : List ℕ) → IsDigest (D l)) (s : Registers) (x : Tablet) where
  pub first_step : (t : Talk) → t.step < 255 → part_at t.plan.script t.step ≡ FirstOf → InEightBytes t.plan.item.0 → Step D s x t
  unfolding request_at awaited_at
  first_step t small part item =
      let A = t.plan.item.0 in
      memo_step D DD s x t (ap committing part) (ap concluding part) small (first A) 0x87 (leaf A A nought ∷ [])
      (ei nought (digest_of D (leaf A A nought))) (Does.adds A) (ap (request_as x.nodes t) part) (ap (awaited_as t) part) item refl (omega arith) refl

  pub place_step : (t : Talk) → t.step < 255 → part_at t.plan.script t.step ≡ PlaceIt → InEightBytes t.plan.here.item.0
      → InEightBytes t.plan.item.0 → InEightBytes t.plan.next.0 → IsDigest t.plan.hash
      → IsEdit (as_edit (sent t.plan.script t.plan.change.root)) → IsDigest t.memo → Step D s x t
  unfolding request_at awaited_at
  place_step t small part behind item next hash root memo =
      let p = t.plan in
      let r = sent p.script p.change.root in
      memo_step D DD s x t (ap committing part) (ap concluding part) small
      (place p.here.item.0 p.item.0 p.next.0 p.hash r.was r.becomes t.memo) 0x88 [] (ei r.was r.becomes)
      (Does.removes p.item.0) (ap (request_as x.nodes t) part) (ap (awaited_as t) part)
      (behind, item, next, (hash and root.old and root.new and memo and tt)) refl (omega arith) refl

  pub swap_step : (t : Talk) → t.step < 255 → part_at t.plan.script t.step ≡ SwapThem → IsEdit (as_edit t.plan.change.a)
      → IsEdit (as_edit t.plan.change.b) → IsEdit (as_edit t.plan.change.root) → IsDigest t.memo → Step D s x t
  unfolding request_at awaited_at
  swap_step t small part left right root memo =
      let e = t.plan.change in
      memo_step D DD s x t (ap committing part) (ap concluding part) small
      (swap e.a.was e.b.was e.root.was e.root.becomes t.memo) 0x86 [] (ei e.root.was e.root.becomes) Does.nothing
      (ap (request_as x.nodes t) part) (ap (awaited_as t) part) (left.old and right.old and root.old and root.new and memo and tt)
      refl (omega arith) refl

  module _ (t : Talk) (small : t.step < 255) (root : IsEdit (as_edit t.plan.change.root)) (memo : IsDigest t.memo) where
    pub turn_step : part_at t.plan.script t.step ≡ TurnIt → Step D s x t
    unfolding request_at awaited_at
    turn_step part =
        let r = t.plan.change.root in
        memo_step D DD s x t (ap committing part) (ap concluding part) small
        (turn r.becomes r.was t.memo) 0x89 [] (ei r.was r.becomes) (Does.reverses t.memo)
        (ap (request_as x.nodes t) part) (ap (awaited_as t) part) (root.new and root.old and memo and tt) refl (omega arith) refl

    pub adopt_step : part_at t.plan.script t.step ≡ AdoptIt → LastStep D s x t
    unfolding request_at awaited_at
    adopt_step part =
        let r = t.plan.change.root in
        let q-is : request_at x.nodes t ≡ adopt r.was r.becomes t.memo = ap (request_as x.nodes t) part in
        let w-is = ap (awaited_as t) part in
        record {
          ok = subst Sendable (sym q-is) (root.old and root.new and memo and tt);
          known = subst (λ (v : Awaited). Bytes v.known) (sym w-is) (omega arith, root.new.bytes);
          says = ap (λ (q : Request). (0x80 + (parts_of q).kind) ∷ (answer D s q).lists) q-is ∙ sym (ap (λ (v : Awaited). v.known) w-is);
          memo = ap (λ (v : Awaited). v.memo) w-is;
        }
