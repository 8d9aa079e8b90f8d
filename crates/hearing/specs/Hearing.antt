-- What a reply leads to: the wish goes on, is done, or ends by a refusal or by a reply that is none; and memory as it changes where the
-- module has accepted a committing line, and only there.
use Rattle.std.specs.Prelude.{Bool, true, false, Option, Some, None, List, ℕ, ◌+◌, ◌-◌, ltb, length}
use Rattle.seqs.specs.Choose.{pick, both}
use Rattle.seqs.specs.Bytes.{digest_at}
use Rattle.hexadecimal.specs.Hex.{bytes_of}
use Rattle.paper.specs.declared.Refusal.{Refusal}
use Rattle.paper.specs.declared.Revision.{Revision}
use Rattle.paper.specs.Strings.{Dig}
use Rattle.slots.specs.Nodes.{leaf_put}
use Rattle.rows.specs.Rows.{row_put}
use Rattle.plans.specs.declared.Script.{Script}
use Rattle.plans.specs.declared.Script.TheVariants.{AskOfNone, Asking, Setting, Clearing, Beginning, Inserting, Swapping, Dropping, Emptying}
use Rattle.plans.specs.declared.Plan.{Plan}
use Rattle.wishes.specs.Words.{held_of}
use Rattle.plans.specs.Plans.{dropping}
use Rattle.asking.specs.declared.Talk.{Talk}
use Rattle.asking.specs.declared.Part.{Part}
use Rattle.asking.specs.declared.Part.TheVariants.{PathWhole, PathLeft, PathRight, PairUp, PathAbove, RaiseUp, SwapThem, PlaceIt, FirstOf, TurnIt, AdoptIt, SetIt, ClearIt, WitnessIt, AskLeaf, AskNone, Over}
use Rattle.asking.specs.Parts.{part_at}
use Rattle.asking.specs.Saying.{start_of}
use Rattle.hearing.specs.declared.End.{End}
use Rattle.hearing.specs.declared.End.TheVariants.{GoesOn, Done, Refused, Otherwise}
use Rattle.hearing.specs.declared.Heard.{Heard}
use Rattle.hearing.specs.Awaiting.{as_awaited, refusal_in}

-- ── which lines change memory, and which are the last ──

abbrev pub committing : Part → Bool
committing PathWhole = false
committing PathLeft = false
committing PathRight = false
committing PairUp = false
committing PathAbove = false
committing RaiseUp = false
committing SwapThem = false
committing PlaceIt = false
committing FirstOf = false
committing TurnIt = false
committing AdoptIt = true
committing SetIt = true
committing ClearIt = true
committing WitnessIt = false
committing AskLeaf = false
committing AskNone = false
committing Over = false

-- a question's last line; behind it there is none
abbrev pub concluding : Part → Bool
concluding PathWhole = false
concluding PathLeft = false
concluding PathRight = false
concluding PairUp = false
concluding PathAbove = false
concluding RaiseUp = false
concluding SwapThem = false
concluding PlaceIt = false
concluding FirstOf = false
concluding TurnIt = false
concluding AdoptIt = false
concluding SetIt = false
concluding ClearIt = false
concluding WitnessIt = false
concluding AskLeaf = true
concluding AskNone = true
concluding Over = true

-- two slots change, or the left one only
abbrev pub of_two : Script → Bool
of_two AskOfNone = false
of_two Asking = false
of_two Setting = false
of_two Clearing = false
of_two Beginning = false
of_two Inserting = true
of_two Swapping = true
of_two Dropping = true
of_two Emptying = false

-- the first of two changes of a remove
abbrev pub is_swap : Script → Bool
is_swap AskOfNone = false
is_swap Asking = false
is_swap Setting = false
is_swap Clearing = false
is_swap Beginning = false
is_swap Inserting = false
is_swap Swapping = true
is_swap Dropping = false
is_swap Emptying = false

-- ── memory once the module has accepted ──

unfoldable pub committed_leaves : Plan → List ℕ → List ℕ
committed_leaves p m =
    let one = row_put m p.change.left p.after.left in
    pick (of_two p.script) (row_put one p.change.right p.after.right) one

unfoldable pub committed_nodes : (D : List ℕ → Dig) → Plan → List ℕ → List ℕ
committed_nodes D p m =
    let one = leaf_put D m p.change.left p.change.a.becomes in
    pick (of_two p.script) (leaf_put D one p.change.right p.change.b.becomes) one

-- ── talks ──

-- so many lines answered; no wish has 255
unfoldable pub next_step : ℕ → ℕ
next_step n = pick (ltb n 255) (n + 1) n

-- a reply's last 32 bytes
abbrev pub last_digest : List ℕ → Dig
last_digest b = digest_at b (length b - 32)

-- the next line, with the memorandum that the reply ends with
abbrev pub gone_on : Talk → (reply : List ℕ) → Talk
gone_on t b =
    record { plan = t.plan; step = next_step t.step; older = t.memo; memo = last_digest b }

-- ── what is heard ──

abbrev pub heard_as : End → (changed : Bool) (count : ℕ) → Revision → Talk → Heard
heard_as e b k c t = record { end = e; changed = b; count = k; counter = c; talk = t }

-- a line that is not awaited: a refusal, or something else
abbrev pub otherwise : Option Refusal → End
otherwise (Some r) = Refused r
otherwise None = Otherwise

unfoldable pub not_awaited : Talk → (count : ℕ) → Revision → (reply : List ℕ) → Heard
not_awaited t k c l = heard_as (otherwise (refusal_in l)) false k c t

-- as awaited, to a line that does not commit
unfoldable pub answered_by : Part → Talk → (count : ℕ) → Revision → (reply : List ℕ) → Heard
answered_by p t k c l = pick (concluding p) (heard_as Done false k c t) (heard_as GoesOn false k c (gone_on t (bytes_of l)))

module _ (t : Talk) (reply : List ℕ) where
  abbrev part : Part
  part = part_at t.plan.script t.step

  -- the line commits, and the reply accepts it
  unfoldable pub accepts : Bool
  accepts = both (as_awaited t reply) (committing part)

  unfoldable pub leaves_heard : List ℕ → List ℕ
  leaves_heard leaves = pick accepts (committed_leaves t.plan leaves) leaves

module _ (D : List ℕ → Dig) where
  -- memory has changed: after a swap the item's leaf is the last, and goes
  unfoldable pub committed_talk : Talk → (leaves nodes : List ℕ) → Heard
  committed_talk t leaves nodes =
      let a = t.plan.after in
      pick (is_swap t.plan.script)
      (heard_as GoesOn true a.count a.counter (start_of (dropping D leaves nodes (held_of a.count) a.counter t.plan.item)))
      (heard_as Done true a.count a.counter t)

  unfoldable pub nodes_heard : Talk → (reply nodes : List ℕ) → List ℕ
  nodes_heard t l nodes = pick (accepts t l) (committed_nodes D t.plan nodes) nodes

  unfoldable pub heard_from : Talk → (count : ℕ) → Revision → (reply leaves nodes : List ℕ) → Heard
  heard_from t k c l leaves nodes =
      pick (as_awaited t l)
      (pick (committing (part t l)) (committed_talk t (committed_leaves t.plan leaves) (committed_nodes D t.plan nodes))
      (answered_by (part t l) t k c l))
      (not_awaited t k c l)
