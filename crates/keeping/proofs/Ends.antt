-- The last line of a conversation: a committing one that is accepted changes memory as the plan says, and a question's is answered.
use mathlib.Core.Path.{◌≡◌, refl, sym, ap, subst, ◌∙◌}
use mathlib.Core.Bool.{Bool, true, false}
use mathlib.Core.List.{List, [], ◌∷◌, append-nil}
use Prim.Native.Nat.{ℕ, zero, suc, ◌+◌}
use Rattle.seqs.specs.Choose.{pick}
use Rattle.seqs.specs.Bytes.{Bytes}
use Rattle.hexadecimal.specs.Hex.{digits_of}
use Rattle.paper.specs.declared.Registers.{Registers}
use Rattle.paper.specs.Strings.{Dig}
use Rattle.paper.specs.Requests.{Request}
use Rattle.paper.specs.Answers.{answer}
use Rattle.runs.specs.Run.{World, last, told_at, next}
use Rattle.runs.specs.Frames.{parts_of, turn_of, turns_of}
use Rattle.runs.specs.Liveness.{HonestTurns}
use Rattle.runs.proofs.Frames.{Sendable}
use Rattle.plans.specs.declared.Plan.{Plan}
use Rattle.plans.specs.Plans.{dropping}
use Rattle.wishes.specs.Words.{held_of}
use Rattle.asking.specs.declared.Talk.{Talk}
use Rattle.asking.specs.Parts.{part_at}
use Rattle.asking.specs.Saying.{start_of, request_at}
use Rattle.hearing.specs.declared.End.TheVariants.{GoesOn, Done}
use Rattle.hearing.specs.declared.Heard.{Heard}
use Rattle.hearing.specs.Awaiting.{awaited_at, as_awaited}
use Rattle.hearing.specs.Hearing.{committing, concluding, is_swap, committed_leaves, committed_nodes, heard_as, answered_by, accepts, leaves_heard, committed_talk, nodes_heard, heard_from}
use Rattle.saying.specs.Spoken.{spoken}
use Rattle.keeping.specs.Talking.{Tablet, Underway, hears, sent_first, converse}
use Rattle.keeping.proofs.Hears.{as_awaited_lem, leaves_stay, nodes_stay}
use Rattle.keeping.proofs.Goes.{add, Accepted, accepted, talk_after, Steps, sent_all, GoneOn, goes_on}

module _ (D : List ℕ → Dig) where
  -- nothing is said once a wish has ended
  pub ended_stays : (r : ℕ) (w : World) (x : Tablet) (t : Talk)
      → converse D r w (record { tablet = x; talk = t; end = Done })
      ≡ record { world = w; wish = record { tablet = x; talk = t; end = Done }; sent = [] }
  ended_stays zero w x t = refl
  ended_stays (suc r) w x t = refl

-- the tablet once a plan's change was accepted
abbrev pub committed : (D : List ℕ → Dig) → Tablet → Plan → Tablet
committed D x p =
    record {
      count = p.after.count;
      counter = p.after.counter;
      leaves = committed_leaves p x.leaves;
      nodes = committed_nodes D p x.nodes;
    }

module _ (D : List ℕ → Dig) (s : Registers) (x : Tablet) where
  abbrev on_its_way : Talk → Underway
  on_its_way t = record { tablet = x; talk = t; end = GoesOn }

  -- a line that is answered with all that is known and nothing more
  pub record LastStep (t : Talk) : Type 0 where
    pub ok : Sendable (request_at x.nodes t)
    pub known : Bytes (awaited_at t).known
    pub says : (0x80 + (parts_of (request_at x.nodes t)).kind) ∷ (answer D s (request_at x.nodes t)).lists ≡ (awaited_at t).known
    pub memo : (awaited_at t).memo ≡ false

  as_known : (w : World) (t : Talk) → LastStep t → Accepted D s w (request_at x.nodes t)
      → as_awaited t (digits_of (told_at D w (turn_of (request_at x.nodes t))).says) ≡ true
  as_known w t k a =
      let is = a.says ∙ k.says in
      as_awaited_lem t _ [] (subst Bytes (sym is) k.known) (is ∙ sym (append-nil (awaited_at t).known))
      (sym (ap (λ (v : Bool). pick v 32 0) k.memo))

  module _ (t : Talk) (l : List ℕ) (awaited : as_awaited t l ≡ true) where
    -- it commits
    module _ (c : committing (part_at t.plan.script t.step) ≡ true) where
      accepts_it : accepts t l ≡ true
      unfolding accepts
      accepts_it = rw (awaited, c) refl

      leaves_are : leaves_heard t l x.leaves ≡ committed_leaves t.plan x.leaves
      unfolding leaves_heard
      leaves_are = rw accepts_it refl

      nodes_are : nodes_heard D t l x.nodes ≡ committed_nodes D t.plan x.nodes
      unfolding nodes_heard
      nodes_are = rw accepts_it refl

      heard_is : heard_from D t x.count x.counter l x.leaves x.nodes
          ≡ committed_talk D t (committed_leaves t.plan x.leaves) (committed_nodes D t.plan x.nodes)
      unfolding heard_from
      heard_is = rw (awaited, c) refl

      committed_as : (h : Heard) → committed_talk D t (committed_leaves t.plan x.leaves) (committed_nodes D t.plan x.nodes) ≡ h
          → hears D (on_its_way t) l
          ≡ record {
            tablet = record {
              count = h.count;
              counter = h.counter;
              leaves = committed_leaves t.plan x.leaves;
              nodes = committed_nodes D t.plan x.nodes;
            };
            talk = h.talk;
            end = h.end;
          }
      committed_as h e =
          let q = heard_is ∙ e in
          λ i.
          record {
            tablet = record { count = (q i).count; counter = (q i).counter; leaves = leaves_are i; nodes = nodes_are i };
            talk = (q i).talk;
            end = (q i).end;
          }

      pub hears_done : is_swap t.plan.script ≡ false
          → hears D (on_its_way t) l ≡ record { tablet = committed D x t.plan; talk = t; end = Done }
      unfolding committed_talk
      hears_done n = committed_as (heard_as Done true t.plan.after.count t.plan.after.counter t) (rw n refl)

      -- the first half of a removal: the last leaf is then the item's own
      pub hears_swapped : is_swap t.plan.script ≡ true
          → (let y = committed D x t.plan in
          hears D (on_its_way t) l
          ≡ record {
            tablet = y;
            talk = start_of (dropping D y.leaves y.nodes (held_of y.count) y.counter t.plan.item);
            end = GoesOn;
          })
      unfolding committed_talk
      hears_swapped n =
          let y = committed D x t.plan in
          committed_as (heard_as GoesOn true y.count y.counter
          (start_of (dropping D y.leaves y.nodes (held_of y.count) y.counter t.plan.item)))
          (rw n refl)

    -- it is a question's last
    pub hears_answer : committing (part_at t.plan.script t.step) ≡ false → concluding (part_at t.plan.script t.step) ≡ true
        → hears D (on_its_way t) l ≡ record { tablet = x; talk = t; end = Done }
    unfolding heard_from answered_by
    hears_answer c e =
        let h : heard_from D t x.count x.counter l x.leaves x.nodes ≡ heard_as Done false x.count x.counter t =
        rw (awaited, c, e) refl in
        λ i.
        record {
          tablet = record {
            count = (h i).count;
            counter = (h i).counter;
            leaves = leaves_stay t l c x.leaves i;
            nodes = nodes_stay t D l c x.nodes i;
          };
          talk = (h i).talk;
          end = (h i).end;
        }

  -- ── a whole conversation ──

  -- n lines, and the last one
  module _ (w : World) (e : w.registers ≡ s) (n : ℕ) (t₀ : Talk) (ks : Steps D s x n t₀) (k : LastStep (talk_after D s x n t₀))
      (honest : HonestTurns D w (turns_of (spoken D s x.nodes (add n 1) t₀))) where
    abbrev t₁ : Talk
    t₁ = talk_after D s x n t₀

    abbrev q₁ : Request
    q₁ = request_at x.nodes (talk_after D s x n t₀)

    pub gone : (r : ℕ) → GoneOn D s x w n (suc r) 1 t₀
    gone r = goes_on D s x n (suc r) 1 w t₀ e ks honest

    last_accepted : (r : ℕ) → Accepted D s (gone r).world q₁
    last_accepted r = accepted D s (gone r).world q₁ (gone r).registers k.ok (gone r).honest.0

    -- what the last reply leads to decides
    pub whole : (r : ℕ) (u : Underway)
        → ((l : List ℕ) → as_awaited (talk_after D s x n t₀) l ≡ true → hears D (on_its_way (talk_after D s x n t₀)) l ≡ u)
        → converse D (add n (suc r)) w (on_its_way t₀)
        ≡ sent_all D s x (turns_of (spoken D s x.nodes n t₀))
        (sent_first D (turn_of q₁) (converse D r (next D last (gone r).world (turn_of q₁)) u))
    whole r u f =
        (gone r).conversed
        ∙ ap (λ (v : Underway). sent_all D s x (turns_of (spoken D s x.nodes n t₀))
        (sent_first D (turn_of q₁) (converse D r (next D last (gone r).world (turn_of q₁)) v)))
        (f _ (as_known (gone r).world t₁ k (last_accepted r)))
