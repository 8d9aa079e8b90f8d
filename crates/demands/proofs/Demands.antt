-- The three demands, from the laws of `module`, `lines` and `runs`. Calls that meet the contract go along the run of their
-- lines: what comes back is what the run's definition says at the registers that the calls before left.
use mathlib.Core.Path.{◌≡◌, refl, sym, ap, subst, ◌∙◌}
use mathlib.Core.Bool.{Bool, true, false}
use mathlib.Core.List.{List, [], ◌∷◌, ◌++◌}
use mathlib.Core.Logic.{◌⊎◌, inl, inr}
use Prim.Native.Nat.{ℕ, zero, suc, ◌+◌, ◌≤◌, ◌<◌}
use native.Mathlib.Omega.{arith}
use native.Mathlib.Decide.{dec_le}
use borrow.Author.Tests.{eqb-true}
use lib.Dec.{eqb}
use lib.ListN.{length, get_or, drop}
use Rattle.seqs.specs.Choose.{pick}
use Rattle.hexadecimal.specs.Hex.{bytes_of, line_of}
use Rattle.sha256.specs.Hash.{sha256}
use Rattle.sha256.proofs.Digests.{sha256_length}
use Rattle.paper.specs.declared.Registers.{Registers}
use Rattle.paper.specs.Strings.{Dig}
use Rattle.paper.specs.Requests.{kind_of}
use Rattle.paper.specs.Answers.{finding_in}
use Rattle.paper.specs.Module.{answer_to, reply_line, space_after}
use Rattle.paper.specs.Refusals.{reply_room, top}
use Rattle.paper.proofs.Room.{room}
use Rattle.std.proofs.Common.{None, Some}
use Rattle.replies.specs.Outcomes.{number_told}
use Rattle.lines.proofs.Follows.{read_is_first, write_is_first}
use Rattle.lines.proofs.RoundTrip.{written_reads, read_writes, one_line}
use Rattle.module.specs.declared.Answered.{Answered}
use Rattle.module.specs.Answering.{answered_of}
use Rattle.module.specs.Laws.{Promised}
use Rattle.module.proofs.Follows.{refusal_is_first, refusal_keeps, only_the_reply, reply_fits, opens, refusing_breaks}
use Rattle.runs.specs.Run.{Items, told_at, after}
use Rattle.runs.specs.Endings.{Ending}
use Rattle.runs.specs.Safety.{question_in, TreeStands, TrueAnswer, AllFair, SafeRun}
use Rattle.runs.specs.Liveness.{TrueReply, finding_given, nothing_listed}
use Rattle.runs.proofs.Runs.{safety}
use Rattle.runs.proofs.Live.{liveness}
use Rattle.demands.specs.Demands.{Call, registers_behind_calls, Kept, turns_of_calls, OneReply, AsDefined, IsQuestion, AnsweredTrue, AllAnsweredTrue, HoldsAfter, Demands}
use Rattle.demands.specs.Beyond.{RepliedAlong}

-- ── one call ──

one_reply : OneReply
one_reply s line space after o p = by_test (eqb (answer_to sha256 s line (length space)).refusal 15) refl (dec_le reply_room (length space))
  where
    by_test : (b : Bool) → eqb (answer_to sha256 s line (length space)).refusal 15 ≡ b → Dec (reply_room ≤ length space)
        → ((o.reply.refused ≡ Some 15) × (length space < reply_room) × (after ≡ space))
        ⊎ ((says : List ℕ) × (after ≡ line_of says ++ drop o.reply.length space) × (o.reply.length ≡ length (line_of says)))
    by_test true e (yes h) =
        let t = answer_to sha256 s line (length space) in
        absurd ((room sha256 sha256_length s line).enough (length space) h (eqb-true t.refusal 15 e))
    by_test true e (no n) =
        let t = answer_to sha256 s line (length space) in
        inl (
          ap (λ (x : Answered). x.reply.refused) p.returned ∙ ap number_told (eqb-true t.refusal 15 e),
          omega (arith, n),
          p.left ∙ ap (λ (r : List ℕ). r ++ drop (length r) space) (ap (λ (b : Bool). pick b [] (line_of t.says)) e),
        )
    by_test false e d =
        let t = answer_to sha256 s line (length space) in
        let line_is : reply_line t ≡ line_of t.says = ap (λ (b : Bool). pick b [] (line_of t.says)) e in
        let long = ap (λ (x : Answered). x.reply.length) p.returned in
        inr (t.says, p.left ∙ (λ i. line_is i ++ drop (sym long i) space), long ∙ ap (λ (r : List ℕ). length r) line_is)

as_defined : AsDefined
as_defined s line space after o p =
    (ap (λ (x : Answered). x.registers) p.returned, p.left, ap (λ (x : Answered). x.reply.blocks) p.returned)

-- what the contract describes meets it
some_answer : (s : Registers) (line space : List ℕ) → (o : Answered) × (left : List ℕ) × Promised s line space o left
some_answer s line space =
    let t = answer_to sha256 s line (length space) in
    (answered_of t, space_after t space, record { returned = refl; left = refl })

-- ── calls one after the other ──

along : (k : Dig) (cs : List Call) → Kept k cs → registers_behind_calls k cs ≡ (after sha256 k (turns_of_calls cs)).registers
along k [] h = refl
along k (c ∷ cs) h =
    ap (λ (x : Answered). x.registers) h.0.returned
    ∙ ap (λ (s : Registers). (answer_to sha256 s c.line (length c.space)).after) (along k cs h.1)

pub replied : (k : Dig) (cs : List Call) → Kept k cs → RepliedAlong k cs
replied k [] h = tt
replied k (c ∷ cs) h =
    let e = along k cs h.1 in (
      h.0.returned ∙ ap (λ (s : Registers). answered_of (answer_to sha256 s c.line (length c.space))) e,
      h.0.left ∙ ap (λ (s : Registers). space_after (answer_to sha256 s c.line (length c.space)) c.space) e,
      replied k cs h.1,
    )

told_none : (n : ℕ) → number_told n ≡ None → n ≡ 0
told_none zero h = refl
told_none (suc n) h = cc

-- §8.3.4: what came back is the run's, and the run's answers are true
reply_true : (k : Dig) (c : Call) (cs : List Call) → RepliedAlong k (c ∷ cs) → AllFair sha256 k (turns_of_calls (c ∷ cs)) → AnsweredTrue k c cs
reply_true k c cs h f accepted asks =
    let told = told_at sha256 (after sha256 k (turns_of_calls cs)) (record { line = c.line; space = length c.space }) in
    let zero-refusal : told.refusal ≡ 0 = told_none told.refusal (sym (ap (λ (x : Answered). x.reply.refused) h.0) ∙ accepted) in
    let line_is : reply_line told ≡ line_of told.says = ap (λ (n : ℕ). pick (eqb n 15) [] (line_of told.says)) zero-refusal in
    let true_answer = f.0.true_answer zero-refusal in (
      told.says,
      h.1 ∙ ap (λ (r : List ℕ). r ++ drop (length r) c.space) line_is,
      of_its_kind told.says (after sha256 k (turns_of_calls cs)).items true_answer asks,
      either_way told.says (after sha256 k (turns_of_calls cs)).items true_answer asks,
    )
  where
    of_its_kind : (says : List ℕ) (l : Items) → TrueAnswer sha256 (bytes_of c.line) says l → IsQuestion c.line
        → get_or says 0 0 ≡ 0x80 + kind_of (bytes_of c.line)
    of_its_kind says l a (inl e) = ap (λ (b : List ℕ). get_or b 0 0) (a.ask e).0 ∙ ap (λ (n : ℕ). 0x80 + n) (sym e)
    of_its_kind says l a (inr e) = ap (λ (b : List ℕ). get_or b 0 0) (a.ask_of_none e).0 ∙ ap (λ (n : ℕ). 0x80 + n) (sym e)

    either_way : (says : List ℕ) (l : Items) → TrueAnswer sha256 (bytes_of c.line) says l → IsQuestion c.line
        → TrueReply sha256 (question_in (bytes_of c.line)) l says
    either_way says l a (inl e) = finding_given (finding_in (drop 1 says)) (a.ask e).1 (a.ask e).0
    either_way says l a (inr e) = nothing_listed (a.ask_of_none e).1 (a.ask_of_none e).0

replies_true : (k : Dig) (cs : List Call) → RepliedAlong k cs → AllFair sha256 k (turns_of_calls cs) → AllAnsweredTrue k cs
replies_true k [] h f = tt
replies_true k (c ∷ cs) h f = (reply_true k c cs h f, replies_true k cs h.2 f.1)

safe_calls : (k : Dig) (cs : List Call) → RepliedAlong k cs → Ending sha256 k (turns_of_calls cs) ⊎ SafeRun sha256 k (turns_of_calls cs)
    → Ending sha256 k (turns_of_calls cs) ⊎ (TreeStands sha256 (after sha256 k (turns_of_calls cs)) × AllAnsweredTrue k cs)
safe_calls k cs h (inl e) = inl e
safe_calls k cs h (inr s) = inr (s.stands, replies_true k cs h s.fair)

pub holds : (k : Dig) (cs : List Call) → Kept k cs → HoldsAfter k cs
holds k cs h =
    let e = along k cs h in
    record {
      registers = e;
      safe = safe_calls k cs (replied k cs h) (safety.at_sha256 k (turns_of_calls cs));
      live = λ o b.
          liveness.at_sha256.after_runs k (turns_of_calls cs) (subst (λ (s : Registers). s.opened ≡ true) e o)
          (subst (λ (s : Registers). s.counter.0 < top) e b);
    }

pub demands : Demands
demands =
    record {
      demand_1 = record {
        one_reply = one_reply;
        first_to_apply = refusal_is_first;
        reading = read_is_first;
        writing = write_is_first;
        refusal_keeps = refusal_keeps;
        only_the_reply = only_the_reply;
        reply_fits = reply_fits;
        opens = opens;
        not_all_refused = refusing_breaks;
      };
      demand_2 = record {
        as_defined = as_defined;
        one_line = one_line;
        written_reads = written_reads;
        read_writes = read_writes;
      };
      demand_3 = record {
        some_answer = some_answer;
        any_calls = holds;
      };
    }
