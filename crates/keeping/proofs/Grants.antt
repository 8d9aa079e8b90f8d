-- A conversation whose lines are honest and whose last one ends the wish grants it, where those lines bring it about.
use mathlib.Core.Path.{◌≡◌, refl, sym, ap, subst, ◌∙◌}
use mathlib.Core.Bool.{true, false}
use mathlib.Core.List.{List, [], ◌∷◌, ◌++◌, append-nil}
use Prim.Native.Nat.{ℕ, zero, suc}
use Rattle.paper.specs.declared.Registers.{Registers}
use Rattle.paper.specs.Strings.{Dig}
use Rattle.paper.specs.Requests.{Request}
use Rattle.runs.specs.Run.{LineTurn, World, last, next}
use Rattle.runs.specs.Frames.{turn_of, turns_of}
use Rattle.runs.specs.Outcomes.{items_after, registers_after}
use Rattle.runs.specs.Liveness.{fed, HonestTurns, last_reply, AnsweredTruly}
use Rattle.runs.proofs.Fed.{Brings}
use Rattle.slots.specs.Nodes.{node_at}
use Rattle.wishes.specs.declared.Wish.{Wish}
use Rattle.plans.specs.declared.Plan.{Plan}
use Rattle.asking.specs.declared.Talk.{Talk}
use Rattle.asking.specs.Parts.{part_at}
use Rattle.asking.specs.Saying.{start_of, request_at}
use Rattle.hearing.specs.declared.End.TheVariants.{GoesOn, Done}
use Rattle.hearing.specs.Awaiting.{as_awaited}
use Rattle.hearing.specs.Hearing.{committing, is_swap}
use Rattle.saying.specs.Spoken.{next_talk, issued_for, spoken}
use Rattle.keeping.specs.Talking.{Tablet, Underway, set_out, hears, Conversed, sent_first, converse}
use Rattle.keeping.specs.Agreeing.{Agrees}
use Rattle.keeping.specs.Granting.{wish_of, Grants}
use Rattle.keeping.proofs.Goes.{add, talk_after, Steps, sent_all}
use Rattle.keeping.proofs.Ends.{ended_stays, committed, LastStep, hears_done, gone, whole}

-- some lines, and then a conversation
abbrev pub sent_before : (D : List ℕ → Dig) → List LineTurn → Conversed D → Conversed D
sent_before D ts c = record { world = c.world; wish = c.wish; sent = ts ++ c.sent }

module _ (D : List ℕ → Dig) (s : Registers) (x : Tablet) where
  -- ── lines sent before a conversation ──

  all_world : (ts : List LineTurn) (c : Conversed D) → (sent_all D s x ts c).world ≡ c.world
  all_world [] c = refl
  all_world (t ∷ ts) c = all_world ts c

  all_wish : (ts : List LineTurn) (c : Conversed D) → (sent_all D s x ts c).wish ≡ c.wish
  all_wish [] c = refl
  all_wish (t ∷ ts) c = all_wish ts c

  -- n lines and one more
  all_sent : (n : ℕ) (t : Talk) (c : Conversed D) (us : List LineTurn)
      → c.sent ≡ turn_of (request_at x.nodes (talk_after D s x n t)) ∷ us
      → (sent_all D s x (turns_of (spoken D s x.nodes n t)) c).sent ≡ turns_of (spoken D s x.nodes (add n 1) t) ++ us
  all_sent zero t c us e = e
  all_sent (suc n) t c us e =
      ap (λ (l : List LineTurn). turn_of (request_at x.nodes t) ∷ l)
      (all_sent n (next_talk t (issued_for D s (request_at x.nodes t))) c us e)

  all_fed : (n : ℕ) (w : World) (t : Talk)
      → fed D w (turns_of (spoken D s x.nodes (add n 1) t))
      ≡ next D last (fed D w (turns_of (spoken D s x.nodes n t))) (turn_of (request_at x.nodes (talk_after D s x n t)))
  all_fed zero w t = refl
  all_fed (suc n) w t =
      let q = request_at x.nodes t in
      all_fed n (next D last w (turn_of q)) (next_talk t (issued_for D s q))

  -- ── a conversation by what its last reply leads to ──

  module _ (w : World) (e : w.registers ≡ s) (n : ℕ) (t₀ : Talk) (ks : Steps D s x n t₀) (k : LastStep D s x (talk_after D s x n t₀))
      (honest : HonestTurns D w (turns_of (spoken D s x.nodes (add n 1) t₀))) where
    abbrev ts : List LineTurn
    ts = turns_of (spoken D s x.nodes (add n 1) t₀)

    -- to what the wish goes on with
    pub goes_behind : (u : Underway)
        → ((l : List ℕ) → as_awaited (talk_after D s x n t₀) l ≡ true
        → hears D (record { tablet = x; talk = talk_after D s x n t₀; end = GoesOn }) l ≡ u) → (r : ℕ)
        → converse D (add n (suc r)) w (record { tablet = x; talk = t₀; end = GoesOn })
        ≡ sent_before D ts (converse D r (fed D w ts) u)
    goes_behind u leads r =
        let q = turn_of (request_at x.nodes (talk_after D s x n t₀)) in
        let g = gone D s x w e n t₀ ks k honest r in
        let w' = next D last g.world q in
        let before = turns_of (spoken D s x.nodes n t₀) in
        let c = sent_first D q (converse D r w' u) in
        let led : w' ≡ fed D w ts = ap (λ (v : World). next D last v q) (sym g.led) ∙ sym (all_fed n w t₀) in
        whole D s x w e n t₀ ks k honest r u leads
        ∙ (λ i.
        record {
          world = all_world before c i;
          wish = all_wish before c i;
          sent = all_sent n t₀ c (converse D r w' u).sent refl i;
        })
        ∙ ap (λ (v : World). sent_before D ts (converse D r v u)) led

    -- to its end
    ended_as : (y : Tablet) (t : Talk)
        → ((l : List ℕ) → as_awaited (talk_after D s x n t₀) l ≡ true
        → hears D (record { tablet = x; talk = talk_after D s x n t₀; end = GoesOn }) l ≡ record { tablet = y; talk = t; end = Done }) → (r : ℕ)
        → converse D (add n (suc r)) w (record { tablet = x; talk = t₀; end = GoesOn })
        ≡ record { world = fed D w ts; wish = record { tablet = y; talk = t; end = Done }; sent = ts }
    ended_as y t ends r =
        let u : Underway = record { tablet = y; talk = t; end = Done } in
        goes_behind u ends r ∙ ap (sent_before D ts) (ended_stays D r (fed D w ts) y t)
        ∙ ap (λ (l : List LineTurn). record { world = fed D w ts; wish = u; sent = l }) (append-nil ts)

-- by the requests that the lines come to, and what these bring about
pub grants_by : (D : List ℕ → Dig) (w : World) (x y : Tablet) (v : Wish) (n changed : ℕ) (P : Plan) (t : Talk) (qs : List Request)
    → Steps D w.registers x n (start_of P) → LastStep D w.registers x (talk_after D w.registers x n (start_of P))
    → ((l : List ℕ) → as_awaited (talk_after D w.registers x n (start_of P)) l ≡ true
    → hears D (record { tablet = x; talk = talk_after D w.registers x n (start_of P); end = GoesOn }) l ≡ record { tablet = y; talk = t; end = Done })
    → spoken D w.registers x.nodes (add n 1) (start_of P) ≡ qs
    → Brings D w qs (registers_after w.registers (node_at y.nodes 1) (wish_of v)) (items_after w.registers w.items (wish_of v)) changed
    → (registers_after w.registers (node_at y.nodes 1) (wish_of v)).counter.0 ≡ changed
    → ((z : World) → z.items ≡ items_after w.registers w.items (wish_of v)
    → z.registers ≡ registers_after w.registers (node_at y.nodes 1) (wish_of v) → Agrees D z y)
    → AnsweredTruly D (wish_of v) w.items (last_reply D w (turns_of qs)) → (r : ℕ)
    → Grants D w v (converse D (add n (suc r)) w (set_out x P))
grants_by D w x y v n changed P t qs ks k ends lines b counted agrees answered r =
    let honest = subst (λ (l : List Request). HonestTurns D w (turns_of l)) (sym lines) b.fair in
    let is = ended_as D w.registers x w refl n (start_of P) ks k honest y t ends r
    ∙ ap (λ (l : List Request).
    record { world = fed D w (turns_of l); wish = record { tablet = y; talk = t; end = Done }; sent = turns_of l }) lines in
    subst (Grants D w v) (sym is) (record {
      ended = refl;
      led = refl;
      honest = b.fair;
      items = b.items_are;
      registers = b.registers_are;
      counted = ap (λ (z : Registers). z.counter.0) b.registers_are ∙ counted ∙ sym b.changed_are;
      agrees = agrees (fed D w (turns_of qs)) b.items_are b.registers_are;
      answered = answered;
    })

-- the same where the last line commits and the wish is done
pub grants_committed : (D : List ℕ → Dig) (w : World) (x y : Tablet) (v : Wish) (n changed : ℕ) (P : Plan) (qs : List Request)
    → Steps D w.registers x n (start_of P) → LastStep D w.registers x (talk_after D w.registers x n (start_of P))
    → (let t = talk_after D w.registers x n (start_of P) in
    committing (part_at t.plan.script t.step) ≡ true → is_swap t.plan.script ≡ false → committed D x t.plan ≡ y
    → spoken D w.registers x.nodes (add n 1) (start_of P) ≡ qs
    → Brings D w qs (registers_after w.registers (node_at y.nodes 1) (wish_of v)) (items_after w.registers w.items (wish_of v)) changed
    → (registers_after w.registers (node_at y.nodes 1) (wish_of v)).counter.0 ≡ changed
    → ((z : World) → z.items ≡ items_after w.registers w.items (wish_of v)
    → z.registers ≡ registers_after w.registers (node_at y.nodes 1) (wish_of v) → Agrees D z y)
    → AnsweredTruly D (wish_of v) w.items (last_reply D w (turns_of qs)) → (r : ℕ)
    → Grants D w v (converse D (add n (suc r)) w (set_out x P)))
grants_committed D w x y v n changed P qs ks k commits once is lines b counted agrees answered r =
    let t = talk_after D w.registers x n (start_of P) in
    grants_by D w x y v n changed P t qs ks k
    (λ l e. hears_done D w.registers x t l e commits once ∙ ap (λ (z : Tablet). record { tablet = z; talk = t; end = Done }) is)
    lines b counted agrees answered r
