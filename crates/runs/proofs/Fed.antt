-- Honest lines fed one after another: a request that a line can carry and whose checks all pass is accepted, one that issues
-- a memorandum puts it first in the book, and runs of such lines put together.
use mathlib.Core.Path.{◌≡◌, refl, sym, ap, subst, ◌∙◌}
use mathlib.Core.Bool.{Bool, true, false}
use mathlib.Core.List.{List, [], ◌∷◌, ◌++◌}
use Prim.Native.Nat.{ℕ, ◌+◌}
use Rattle.seqs.specs.Choose.{pick, either_yes}
use Rattle.seqs.specs.Bytes.{same, same_refl}
use Rattle.hexadecimal.specs.Hex.{bytes_of, digits_of}
use Rattle.paper.specs.declared.Registers.{Registers}
use Rattle.paper.specs.Strings.{Dig, Memo, Str, memorandum, memorandum_forms}
use Rattle.paper.specs.Requests.{Request, kind_of, known, fits, request_of}
use Rattle.paper.specs.Refusals.{reply_room, none_fits, needs, all_passed, judge, carried_memoranda}
use Rattle.paper.specs.Answers.{ListChange, AnswerParts, answer_issuing, answer}
use Rattle.paper.specs.Module.{Told, told_by}
use Rattle.rings.specs.Changes.{Step}
use Rattle.runs.specs.Run.{Items, last, Issue, steps_for, is_issued, meaning, World, told_at, landed, next}
use Rattle.runs.specs.Frames.{parts_of, frame_of, turn_of, turns_of}
use Rattle.runs.specs.Honest.{note}
use Rattle.runs.specs.Liveness.{AllIssued, fed, HonestTurns}
use Rattle.runs.proofs.Accepted.{NoneFails, formed_all, all_pass, judge_passed, accepted_passed}
use Rattle.paper.proofs.Early.{late, read_is}
use Rattle.runs.proofs.Frames.{Sendable, reads_back, line_is_hex, line_is_frame}

-- the same world with other strings and memoranda
abbrev pub at : World → List Str → List Issue → World
at w F b = record { registers = w.registers; formed = F; book = b; items = w.items; changed = w.changed }

module _ (D : List ℕ → Dig) where
  -- requests fed as their lines
  abbrev pub run : World → List Request → World
  run w qs = fed D w (turns_of qs)

  abbrev Fair : World → List Request → Type 0
  Fair w qs = HonestTurns D w (turns_of qs)

  -- honest lines that lead from one world to another
  pub record Leads (w : World) (qs : List Request) (v : World) : Type 0 where
    pub to : run w qs ≡ v
    pub fair : Fair w qs

  -- one after the other
  run_after : {v : World} (w : World) (a b : List Request) → run w a ≡ v → run w (a ++ b) ≡ run v b
  run_after w [] b e = ap (λ (v : World). run v b) e
  run_after w (q ∷ a) b e = run_after (next D last w (turn_of q)) a b e

  fair_after : {v : World} (w : World) (a b : List Request) → run w a ≡ v → Fair w a → Fair v b → Fair w (a ++ b)
  fair_after w [] b e h k = subst (λ (v : World). Fair v b) (sym e) k
  fair_after w (q ∷ a) b e h k = (h.0, h.1, fair_after (next D last w (turn_of q)) a b e h.2 k)

  pub leads_on : {w v u : World} {a b : List Request} → Leads w a v → Leads v b u → Leads w (a ++ b) u
  leads_on {w} {a = a} {b = b} g h =
      record { to = run_after w a b g.to ∙ h.to; fair = fair_after w a b g.to g.fair h.fair }

  -- ── one line ──

  module _ (w : World) (q : Request) (ok : Sendable q) where
    abbrev s : Registers
    s = w.registers

    asked_is : request_of (bytes_of (turn_of q).line) ≡ q
    asked_is = let r = reads_back q ok in ap request_of (line_is_frame q r) ∙ r.read

    -- the line is answered as its request is
    pub told_as : told_at D w (turn_of q) ≡ told_by D s (parts_of q).kind q (judge late [] (needs D s q))
    told_as =
        let r = reads_back q ok in
        let e = line_is_frame q r in
        read_is D s (digits_of (frame_of q)) reply_room refl (line_is_hex q r)
        (subst (λ (f : List ℕ). known (kind_of f) ≡ true) (sym e) r.kind_known)
        (subst (λ (f : List ℕ). fits f ≡ true) (sym e) r.fit)
        ∙ ap (λ (f : List ℕ). told_by D s (kind_of f) (request_of f) (judge late [] (needs D s (request_of f)))) e
        ∙ ap (λ (p : Request). told_by D s (parts_of q).kind p (judge late [] (needs D s p))) r.read

    pub told_is : NoneFails (needs D s q)
        → told_at D w (turn_of q) ≡ told_by D s (parts_of q).kind q (all_passed (formed_all late [] (needs D s q)))
    told_is n =
        told_as
        ∙ ap (told_by D s (parts_of q).kind q) (judge_passed late [] (needs D s q) (all_pass late (needs D s q) n))

    -- of a line that was accepted, whatever let it pass
    pub told_accepted : (told_at D w (turn_of q)).refusal ≡ 0
        → told_at D w (turn_of q) ≡ told_by D s (parts_of q).kind q (all_passed (formed_all late [] (needs D s q)))
    told_accepted h =
        told_as
        ∙ ap (told_by D s (parts_of q).kind q)
        (judge_passed late [] (needs D s q)
        (accepted_passed D s (parts_of q).kind q late (needs D s q) refl (sym (ap (λ (a : Told). a.refusal) told_as) ∙ h)))

    -- the line is accepted and honest, and the world after it is the one that its answer leaves
    pub leads_one : NoneFails (needs D s q) → AllIssued (carried_memoranda D s q) w.book
        → Leads w (q ∷ []) (landed D last w (told_by D s (parts_of q).kind q (all_passed (formed_all late [] (needs D s q)))))
    leads_one n i =
        record {
          to = ap (landed D last w) (told_is n);
          fair = (
            ap (λ (a : Told). a.refusal) (told_is n),
            subst (λ (p : Request). AllIssued (carried_memoranda D s p) w.book) (sym asked_is) i,
            tt,
          );
        }

    -- a memorandum issued stands first in the book
    pub issued_first : NoneFails (needs D s q) → AllIssued (carried_memoranda D s q) w.book
        → (shown : List ℕ) (before : List Str) (t : Memo) (c : ListChange) → answer D s q ≡ answer_issuing D s shown before t c
        → (F : List Str)
        × Leads w (q ∷ []) (at w F (record { memorandum = note D s t; does = meaning w.book c } ∷ w.book))
    issued_first n i shown before t c e =
        let fs = formed_all late [] (needs D s q) in
        let l = leads_one n i in (
          ((memorandum_forms D t s.secret ++ before) ++ fs) ++ w.formed,
          record {
            to =
                l.to
                ∙ ap (λ (a : AnswerParts). landed D last w (record {
                  refusal = 0;
                  says = (0x80 + (parts_of q).kind) ∷ a.lists;
                  after = a.after;
                  formed = a.forms ++ fs;
                  effect = a.effect;
                })) e;
            fair = l.fair;
          },
        )

  -- ── memoranda ──

  -- the memorandum that a string says fits it
  pub note_fits : (k : Dig) (t : Memo) (l : List Memo) → none_fits D k (t ∷ l) (memorandum D t k) ≡ false
  note_fits k t l = rw (same_refl (memorandum D t k)) refl

  -- also where it is tried second
  pub note_fits_second : (k : Dig) (t u : Memo) → none_fits D k (t ∷ u ∷ []) (memorandum D u k) ≡ false
  note_fits_second k t u = by_test (same (memorandum D t k) (memorandum D u k))
    where
      by_test : (b : Bool) → pick b false (none_fits D k (u ∷ []) (memorandum D u k)) ≡ false
      by_test true = refl
      by_test false = note_fits k u []

  pub head_issued : (m : Dig) (c : List Step) (b : List Issue) → is_issued m (record { memorandum = m; does = c } ∷ b) ≡ true
  head_issued m c b = rw (same_refl m) refl

  pub head_stands : (m : Dig) (c : List Step) (b : List Issue) → steps_for m (record { memorandum = m; does = c } ∷ b) ≡ c
  head_stands m c b = rw (same_refl m) refl

  -- ── lines that change nothing and get a memorandum ──

  pub record Got (w : World) (qs : List Request) (t : Memo) : Type 0 where
    pub formed : List Str
    pub book : List Issue
    pub leads : Leads w qs (at w formed book)
    pub keeps : (m : Dig) → is_issued m w.book ≡ true → is_issued m book ≡ true
    pub got : is_issued (note D w.registers t) book ≡ true

  pub says_also : {w : World} {qs : List Request} {t u : Memo} → t ≡ u → Got w qs t → Got w qs u
  says_also {w} {qs} e g = subst (Got w qs) e g

  -- one after the other
  pub then : {w : World} {a b : List Request} {t u : Memo} (g : Got w a t) → Got (at w g.formed g.book) b u
      → Got w (a ++ b) u
  then g h =
      record {
        formed = h.formed;
        book = h.book;
        leads = leads_on g.leads h.leads;
        keeps = λ m i. h.keeps m (g.keeps m i);
        got = h.got;
      }

  -- a line that issues
  pub say : (w : World) (q : Request) (shown : List ℕ) (before : List Str) (t : Memo) (c : ListChange) → Sendable q
      → NoneFails (needs D w.registers q) → AllIssued (carried_memoranda D w.registers q) w.book
      → answer D w.registers q ≡ answer_issuing D w.registers shown before t c → Got w (q ∷ []) t
  say w q shown before t c ok n i e =
      let r = issued_first w q ok n i shown before t c e in
      record {
        formed = r.0;
        book = _;
        leads = r.1;
        keeps = λ m j. rw (j, either_yes) refl;
        got = head_issued (note D w.registers t) (meaning w.book c) w.book;
      }

  -- ── lines that bring about other registers, another list and a number of record changes ──

  pub record Brings (w : World) (qs : List Request) (s' : Registers) (l : Items) (n : ℕ) : Type 0 where
    pub fair : Fair w qs
    pub registers_are : (run w qs).registers ≡ s'
    pub items_are : (run w qs).items ≡ l
    pub changed_are : (run w qs).changed ≡ n

  -- the same, otherwise written
  pub brings_also : {w : World} {qs qs' : List Request} {s' s'' : Registers} {l l' : Items} {n : ℕ} → qs ≡ qs' → s' ≡ s'' → l ≡ l'
      → Brings w qs s' l n → Brings w qs' s'' l' n
  brings_also {w} {qs} {qs'} {s'} {s''} {l} {l'} {n} e f g b =
      subst (λ (x : Items). Brings w qs' s'' x n) g
      (subst (λ (x : Registers). Brings w qs' x l n) f (subst (λ (x : List Request). Brings w x s' l n) e b))

  -- by the world that they lead to
  pub brings : {w v : World} {qs : List Request} → Leads w qs v → Brings w qs v.registers v.items v.changed
  brings h =
      record {
        fair = h.fair;
        registers_are = ap (λ (u : World). u.registers) h.to;
        items_are = ap (λ (u : World). u.items) h.to;
        changed_are = ap (λ (u : World). u.changed) h.to;
      }
