-- As long as the module accepts, each line that does not commit is heard, and the next line carries what it issued: the lines of a
-- conversation are those of `spoken`.
use mathlib.Core.Path.{◌≡◌, refl, sym, ap, subst, ◌∙◌}
use mathlib.Core.Bool.{true, false}
use mathlib.Core.List.{List, [], ◌∷◌, ◌++◌}
use Prim.Native.Nat.{ℕ, zero, suc, ◌+◌, ◌<◌}
use Rattle.seqs.specs.Bytes.{Bytes, bytes_append}
use Rattle.hexadecimal.specs.Hex.{digits_of}
use Rattle.paper.specs.declared.Registers.{Registers}
use Rattle.paper.specs.Strings.{Dig}
use Rattle.paper.specs.Requests.{Request}
use Rattle.paper.specs.Answers.{answer}
use Rattle.paper.specs.Module.{Told}
use Rattle.runs.specs.Run.{LineTurn, World, last, told_at, next}
use Rattle.runs.specs.Frames.{parts_of, turn_of, turns_of}
use Rattle.runs.specs.Liveness.{fed, HonestTurns}
use Rattle.runs.proofs.Frames.{Sendable}
use Rattle.runs.proofs.Parts.{IsDigest}
use Rattle.runs.proofs.Fed.{told_accepted}
use Rattle.asking.specs.declared.Talk.{Talk}
use Rattle.asking.specs.Parts.{part_at}
use Rattle.asking.specs.Saying.{request_at}
use Rattle.hearing.specs.declared.End.TheVariants.{GoesOn}
use Rattle.hearing.specs.Awaiting.{awaited_at}
use Rattle.hearing.specs.Hearing.{committing, concluding}
use Rattle.saying.specs.Spoken.{next_talk, issued_for, spoken}
use Rattle.keeping.specs.Talking.{Tablet, Underway, hears, Conversed, sent_first, converse}
use Rattle.keeping.proofs.Hears.{leaves_stay, nodes_stay, heard_on}

-- so many and so many more
abbrev pub add : ℕ → ℕ → ℕ
add zero r = r
add (suc n) r = suc (add n r)

module _ (D : List ℕ → Dig) (s : Registers) where
  -- ── an accepted line at registers s ──

  -- what it is told
  pub record Accepted (w : World) (q : Request) : Type 0 where
    pub says : (told_at D w (turn_of q)).says ≡ (0x80 + (parts_of q).kind) ∷ (answer D s q).lists
    pub after : (next D last w (turn_of q)).registers ≡ (answer D s q).after

  pub accepted : (w : World) (q : Request) → w.registers ≡ s → Sendable q → (told_at D w (turn_of q)).refusal ≡ 0 → Accepted w q
  accepted w q e ok h =
      let t = told_accepted D w q ok h in
      record {
        says = ap (λ (a : Told). a.says) t ∙ ap (λ (r : Registers). (0x80 + (parts_of q).kind) ∷ (answer D r q).lists) e;
        after = ap (λ (a : Told). a.after) t ∙ ap (λ (r : Registers). (answer D r q).after) e;
      }

  module _ (x : Tablet) where
    abbrev underway : Talk → Underway
    underway t = record { tablet = x; talk = t; end = GoesOn }

    -- a line that is answered with a memorandum and changes nothing
    pub record Step (t : Talk) : Type 0 where
      pub ok : Sendable (request_at x.nodes t)
      pub known : Bytes (awaited_at t).known
      pub issued : IsDigest (issued_for D s (request_at x.nodes t))
      pub says : (0x80 + (parts_of (request_at x.nodes t)).kind) ∷ (answer D s (request_at x.nodes t)).lists
          ≡ (awaited_at t).known ++ issued_for D s (request_at x.nodes t)
      pub after : (answer D s (request_at x.nodes t)).after ≡ s
      pub memo : (awaited_at t).memo ≡ true
      pub plain : committing (part_at t.plan.script t.step) ≡ false
      pub more : concluding (part_at t.plan.script t.step) ≡ false
      pub small : t.step < 255

    step_heard : (w : World) (t : Talk) → Step t → Accepted w (request_at x.nodes t)
        → hears D (underway t) (digits_of (told_at D w (turn_of (request_at x.nodes t))).says)
        ≡ underway (next_talk t (issued_for D s (request_at x.nodes t)))
    step_heard w t k a =
        let q = request_at x.nodes t in
        let b = (told_at D w (turn_of q)).says in
        let d = issued_for D s q in
        let is = a.says ∙ k.says in
        let bytes : Bytes b = subst Bytes (sym is) (bytes_append (awaited_at t).known d k.known k.issued.bytes) in
        let h = heard_on t D x.count x.counter x.leaves x.nodes b d bytes is k.memo k.issued.wide
        k.plain k.more k.small in
        λ i.
        record {
          tablet = record {
            count = (h i).count;
            counter = (h i).counter;
            leaves = leaves_stay t (digits_of b) k.plain x.leaves i;
            nodes = nodes_stay t D (digits_of b) k.plain x.nodes i;
          };
          talk = (h i).talk;
          end = (h i).end;
        }

    -- ── some of them in a row ──

    abbrev pub talk_after : (n : ℕ) → Talk → Talk
    talk_after zero t = t
    talk_after (suc n) t = talk_after n (next_talk t (issued_for D s (request_at x.nodes t)))

    abbrev pub Steps : (n : ℕ) → Talk → Type 0
    Steps zero t = Unit {0}
    Steps (suc n) t = Step t × Steps n (next_talk t (issued_for D s (request_at x.nodes t)))

    abbrev pub sent_all : List LineTurn → Conversed D → Conversed D
    sent_all [] c = c
    sent_all (t ∷ ts) c = sent_first D t (sent_all ts c)

    -- they were all sent, the registers are the same, and the lines behind them are honest where they stand
    pub record GoneOn (w : World) (n r k : ℕ) (t : Talk) : Type 0 where
      pub world : World
      pub led : fed D w (turns_of (spoken D s x.nodes n t)) ≡ world
      pub registers : world.registers ≡ s
      pub honest : HonestTurns D world (turns_of (spoken D s x.nodes k (talk_after n t)))
      pub conversed : converse D (add n r) w (underway t)
          ≡ sent_all (turns_of (spoken D s x.nodes n t)) (converse D r world (underway (talk_after n t)))

    pub goes_on : (n r k : ℕ) (w : World) (t : Talk) → w.registers ≡ s → Steps n t
        → HonestTurns D w (turns_of (spoken D s x.nodes (add n k) t)) → GoneOn w n r k t
    goes_on zero r k w t e ks h = record { world = w; led = refl; registers = e; honest = h; conversed = refl }
    goes_on (suc n) r k w t e ks h =
        let q = request_at x.nodes t in
        let a = accepted w q e ks.0.ok h.0 in
        let i = goes_on n r k (next D last w (turn_of q)) (next_talk t (issued_for D s q)) (a.after ∙ ks.0.after) ks.1 h.2 in
        record {
          world = i.world;
          led = i.led;
          registers = i.registers;
          honest = i.honest;
          conversed =
              ap (λ (u : Underway). sent_first D (turn_of q) (converse D (add n r) (next D last w (turn_of q)) u)) (step_heard w t ks.0 a)
              ∙ ap (sent_first D (turn_of q)) i.conversed;
        }
