-- The two sorts of lines that change nothing: a path, whose reply names what stands above, and one whose reply is a memorandum alone.
use mathlib.Core.Path.{◌≡◌, refl, sym, ap, ap₂, subst, ◌∙◌}
use mathlib.Core.Bool.{true, false}
use mathlib.Core.List.{List, [], ◌∷◌, ◌++◌}
use Prim.Native.Nat.{ℕ, ◌+◌, ◌<◌, ◌≤◌}
use native.Mathlib.Omega.{arith}
use lib.ListN.{length, get_or}
use Rattle.seqs.specs.Choose.{◌and◌}
use Rattle.seqs.specs.Bytes.{Bytes, bytes_append}
use Rattle.paper.specs.declared.Registers.{Registers}
use Rattle.paper.specs.Strings.{Dig, Memo, Str, memorandum}
use Rattle.paper.specs.Requests.{Request, ask_none}
use Rattle.paper.specs.Answers.{ListChange, AnswerParts, answer_issuing, answer}
use Rattle.runs.specs.Ways as W
use Rattle.runs.specs.Ways.{Way, risen}
use Rattle.runs.specs.Frames.{parts_of}
use Rattle.runs.specs.Honest.{path_up}
use Rattle.runs.proofs.Frames.{Sendable}
use Rattle.runs.proofs.Parts.{IsDigest}
use Rattle.runs.proofs.Climbs.{siblings_length, sides_fit, fold_rises, siblings_digests, rise_digest, IsEdit}
use Rattle.edits.specs.declared.Edit.{Edit}
use Rattle.asking.specs.declared.Talk.{Talk}
use Rattle.asking.specs.Parts.{part_at}
use Rattle.asking.specs.Saying.{request_at}
use Rattle.hearing.specs.Awaiting.{Awaited, path_reply, memo_reply, awaited_at}
use Rattle.hearing.specs.Hearing.{committing, concluding}
use Rattle.rising.specs.Rising.{as_edit}
use Rattle.saying.specs.Spoken.{issued_in, issued_for}
use Rattle.keeping.specs.Talking.{Tablet}
use Rattle.keeping.proofs.Goes.{Step}

-- a line by its place among the lines
pub line_at : {a b : List Request} (n : ℕ) → a ≡ b → get_or a n (ask_none 0) ≡ get_or b n (ask_none 0)
line_at n e = ap (λ (l : List Request). get_or l n (ask_none 0)) e

module _ (D : List ℕ → Dig) (DD : (l : List ℕ) → IsDigest (D l)) (s : Registers) (x : Tablet) (t : Talk)
    (plain : committing (part_at t.plan.script t.step) ≡ false) (more : concluding (part_at t.plan.script t.step) ≡ false)
    (small : t.step < 255) where
  -- by the request that it says and the reply that it awaits
  step_as : (q : Request) (w : Awaited) → request_at x.nodes t ≡ q → awaited_at t ≡ w → Sendable q → Bytes w.known
      → IsDigest (issued_for D s q) → (0x80 + (parts_of q).kind) ∷ (answer D s q).lists ≡ w.known ++ issued_for D s q → (answer D s q).after ≡ s
      → w.memo ≡ true → Step D s x t
  step_as q w qi wi ok known issued says after memo =
      record {
        ok = subst Sendable (sym qi) ok;
        known = subst (λ (v : Awaited). Bytes v.known) (sym wi) known;
        issued = subst (λ (r : Request). IsDigest (issued_for D s r)) (sym qi) issued;
        says =
            ap (λ (r : Request). (0x80 + (parts_of r).kind) ∷ (answer D s r).lists) qi ∙ says
            ∙ sym (ap₂ (λ (v : Awaited) (r : Request). v.known ++ issued_for D s r) wi qi);
        after = ap (λ (r : Request). (answer D s r).after) qi ∙ after;
        memo = ap (λ (v : Awaited). v.memo) wi ∙ memo;
        plain = plain;
        more = more;
        small = small;
      }

  -- a path: its reply names what rises
  pub path_step : (p : Way) (X : W.Edit) (e : Edit) → request_at x.nodes t ≡ path_up D s p X → awaited_at t ≡ path_reply e
      → as_edit e ≡ risen D p X → IsEdit X → length p ≤ 64 → Step D s x t
  path_step p X e q-is r-is above X-is short =
      let q = path_up D s p X in
      let above-was : e.was ≡ (risen D p X).was = ap (λ (z : W.Edit). z.was) above in
      let above-becomes : e.becomes ≡ (risen D p X).becomes = ap (λ (z : W.Edit). z.becomes) above in
      let d-was = rise_digest DD p X.was X-is.old in
      let d-becomes = rise_digest DD p X.becomes X-is.new in
      step_as q (path_reply e) q-is r-is
      ((X-is.old and X-is.new and tt), siblings_digests DD p, omega (arith, siblings_length D p, short), sides_fit D p) (
        omega arith,
        bytes_append e.was e.becomes (subst Bytes (sym above-was) d-was.bytes)
            (subst Bytes (sym above-becomes) d-becomes.bytes),
      )
      (DD _)
      (ap₂ (λ (a b : Dig). 0x81 ∷ ((a ++ b) ++ issued_for D s q)) (fold_rises D p X.was ∙ sym above-was)
      (fold_rises D p X.becomes ∙ sym above-becomes))
      refl refl

  -- a line whose reply is a memorandum alone
  pub memo_step : (q : Request) (n : ℕ) (before : List Str) (m : Memo) (c : ListChange) → request_at x.nodes t ≡ q → awaited_at t ≡ memo_reply n
      → Sendable q → 0x80 + (parts_of q).kind ≡ n → n < 256 → answer D s q ≡ answer_issuing D s [] before m c → Step D s x t
  memo_step q n before m c q-is r-is ok kind byte issues =
      let d : issued_for D s q ≡ memorandum D m s.secret = ap (λ (a : AnswerParts). issued_in D s a.effect) issues in
      step_as q (memo_reply n) q-is r-is ok (byte, tt) (subst IsDigest (sym d) (DD _))
      (ap₂ (λ (k : ℕ) (a : AnswerParts). k ∷ a.lists) kind issues ∙ ap (λ (r : Dig). n ∷ r) (sym d))
      (ap (λ (a : AnswerParts). a.after) issues) refl
