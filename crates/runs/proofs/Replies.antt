-- What the reply to an accepted question says, byte by byte: the finding that its answer lists, so one that is true of the list.
use mathlib.Core.Path.{◌≡◌, sym, ap, subst, ◌∙◌}
use mathlib.Core.Bool.{Bool, true, false}
use mathlib.Core.List.{List, ◌∷◌}
use Prim.Native.Nat.{ℕ, ◌+◌}
use lib.Dec.{eqb}
use lib.ListN.{drop}
use Rattle.seqs.specs.Choose.{pick, ◌and◌}
use Rattle.seqs.specs.Bytes.{number_of}
use Rattle.hexadecimal.specs.Hex.{bytes_of}
use Rattle.paper.specs.declared.Record.{Record}
use Rattle.paper.specs.declared.Finding.{Finding}
use Rattle.paper.specs.declared.Finding.TheVariants.{Recorded, Listed, Gap}
use Rattle.paper.specs.Strings.{Dig, blank}
use Rattle.paper.specs.Requests as Q
use Rattle.paper.specs.Requests.{Request, kinds, kind_of, row_of, part, record_in, request_of}
use Rattle.paper.specs.Answers.{finding_of, finding_bytes, finding_in, answer}
use Rattle.paper.specs.Module.{Told}
use Rattle.paper.proofs.Findings.{SoundFinding, finding_back}
use Rattle.runs.specs.Run.{LineTurn, Items, World, told_at}
use Rattle.runs.specs.Safety.{question_in, TrueFinding, TrueAnswer}
use Rattle.runs.proofs.Lines.{asked, kind_in, Sorted, refusal, acceptance, sorted}
use Rattle.runs.specs.Sizes.{InEightBytes, RecordFits}
use Rattle.runs.proofs.Widths.{Wide}
use Rattle.runs.proofs.Safe.{TrueFor, finding_true, none_true}

-- ── the request of a frame, by its kind ──

abbrev asked_by : (kind : ℕ) (f : List ℕ) → Request
asked_by k f = let row = row_of k in row.reads (part row.carries (drop 1 f))

-- an ask on the number that the frame carries first
pub record Ask (f : List ℕ) : Type 0 where
  pub A : ℕ
  pub A' : ℕ
  pub r : Record
  pub y : Dig
  pub m : Dig
  pub is : request_of f ≡ Q.ask (question_in f) A A' r y m

ask_in : (f : List ℕ) → kind_of f ≡ 0x0e → Ask f
unfolding request_of kinds
ask_in f e =
    let p : ℕ → List ℕ = part (row_of 0x0e).carries (drop 1 f) in
    record {
      A = number_of (p 1);
      A' = number_of (p 2);
      r = record_in (p 3);
      y = p 4;
      m = p 5;
      is = ap (λ (k : ℕ). asked_by k f) e;
    }

ask_none_in : (f : List ℕ) → kind_of f ≡ 0x0f → request_of f ≡ Q.ask_none (question_in f)
unfolding request_of kinds
ask_none_in f e = ap (λ (k : ℕ). asked_by k f) e

-- ── findings of a request that was read ──

sound_finding : (q A A' : ℕ) (r : Record) → InEightBytes A → InEightBytes A' → RecordFits r → SoundFinding (finding_of q A A' r)
unfolding finding_of
sound_finding q A A' r hA hA' hr = by_tests (eqb q A) (blank r)
  where
    by_tests : (b c : Bool)
        → SoundFinding (pick b (pick c (Listed (record { 0 = A })) (Recorded (record { 0 = A }) r))
        (Gap (record { 0 = A }) (record { 0 = A' })))
    by_tests true true = hA and tt
    by_tests true false = hA and hr.0 and hr.1 and hr.2 and hr.3 and tt
    by_tests false c = hA and hA' and tt

module _ (D : List ℕ → Dig) where
  -- a reply that lists a finding shows it
  shows : (says : List ℕ) (q : ℕ) (f : Finding) (l : Items) → SoundFinding f → says ≡ 0x8e ∷ finding_bytes f → TrueFinding D q f l
      → (says ≡ 0x8e ∷ finding_bytes (finding_in (drop 1 says))) × TrueFinding D q (finding_in (drop 1 says)) l
  shows says q f l h e tr =
      let z : f ≡ finding_in (drop 1 says) =
      sym (ap (λ (b : List ℕ). finding_in (drop 1 b)) e ∙ finding_back f h) in
      (e ∙ ap (λ (g : Finding). 0x8e ∷ finding_bytes g) z, subst (λ (g : Finding). TrueFinding D q g l) z tr)

  pub true_answer : (w : World) (t : LineTurn) → (told_at D w t).refusal ≡ 0 → TrueFor D w.items (asked t)
      → TrueAnswer D (bytes_of t.line) (told_at D w t).says w.items
  true_answer w t z tr = by_sort (sorted D w.registers t.line t.space)
    where
      f : List ℕ
      f = bytes_of t.line

      says_of : (q : Request) → asked t ≡ q → (kind : ℕ) → kind_in t ≡ kind
          → (told_at D w t).says ≡ (0x80 + kind_in t) ∷ (answer D w.registers (asked t)).lists
          → (told_at D w t).says ≡ (0x80 + kind) ∷ (answer D w.registers q).lists
      says_of q e kind k s = s ∙ (λ i. (0x80 + k i) ∷ (answer D w.registers (e i)).lists)

      by_sort : Sorted D w.registers t.line t.space → TrueAnswer D (bytes_of t.line) (told_at D w t).says w.items
      by_sort (refusal n fs y e r) = absurd (y (sym (ap (λ (a : Told). a.refusal) e) ∙ z))
      by_sort (acceptance fs e h j n i) =
          let s = ap (λ (a : Told). a.says) e in
          record {
            ask = λ k.
                let a = ask_in f k in
                let g : Wide (Q.ask (question_in f) a.A a.A' a.r a.y a.m) = subst Wide a.is h in
                shows (told_at D w t).says (question_in f) (finding_of (question_in f) a.A a.A' a.r) w.items
                (sound_finding (question_in f) a.A a.A' a.r g.1 g.2 g.3) (says_of _ a.is 0x0e k s)
                (finding_true D (subst (TrueFor D w.items) a.is tr));
            ask_of_none = λ k.
                let a = ask_none_in f k in
                (says_of _ a 0x0f k s, none_true D (subst (TrueFor D w.items) a tr));
          }
