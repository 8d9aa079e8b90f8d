-- What is said at each step of a wish, as a request of the paper: made of the plan, the memoranda of the last two replies, and the
-- nodes in memory.
use Rattle.std.specs.Prelude.{Bool, true, false, List, Option, Some, None, ℕ, suc, ◌+◌, ◌-◌, ◌%◌, ◌^◌, leb, length}
use Rattle.seqs.specs.Choose.{pick}
use Rattle.hexadecimal.specs.Hex.{line_of}
use Rattle.paper.specs.Strings.{nought}
use Rattle.paper.specs.Requests as Q
use Rattle.slots.specs.Nodes.{slot_count, level_count, ancestor, siblings_up}
use Rattle.edits.specs.declared.Edit.{Edit}
use Rattle.edits.specs.declared.Change.{Change}
use Rattle.plans.specs.declared.Script.{Script}
use Rattle.plans.specs.declared.Script.TheVariants.{AskOfNone, Asking, Setting, Clearing, Beginning, Inserting, Swapping, Dropping, Emptying}
use Rattle.plans.specs.declared.Plan.{Plan}
use Rattle.runs.specs.Frames.{frame_of}
use Rattle.asking.specs.declared.Talk.{Talk}
use Rattle.asking.specs.declared.Part.{Part}
use Rattle.asking.specs.declared.Part.TheVariants.{PathWhole, PathLeft, PathRight, PairUp, PathAbove, RaiseUp, SwapThem, PlaceIt, FirstOf, TurnIt, AdoptIt, SetIt, ClearIt, WitnessIt, AskLeaf, AskNone, Over}
use Rattle.asking.specs.Parts.{part_at}

-- before the first line
abbrev pub start_of : Plan → Talk
start_of p = record { plan = p; step = 0; older = nought; memo = nought }

-- ── edits as they are sent ──

abbrev pub turned_edit : Edit → Edit
turned_edit e = record { was = e.becomes; becomes = e.was }

-- An insert is a place turned round: up to the place its lines lead from the list with the item to the list without it.
abbrev pub turns_round : Script → Bool
turns_round AskOfNone = false
turns_round Asking = false
turns_round Setting = false
turns_round Clearing = false
turns_round Beginning = false
turns_round Inserting = true
turns_round Swapping = false
turns_round Dropping = false
turns_round Emptying = false

abbrev pub sent : Script → Edit → Edit
sent s e = pick (turns_round s) (turned_edit e) e

abbrev pub sent_change : Script → Change → Change
sent_change s e =
    record {
      left = e.left;
      right = e.right;
      levels = e.levels;
      a = sent s e.a;
      b = sent s e.b;
      y = sent s e.y;
      z = sent s e.z;
      node = sent s e.node;
      root = sent s e.root;
    }

-- ── places in the tree ──

-- slot i's node, and so many levels: of every plan i and the levels are those of a place that is there
abbrev pub slot_node : (i : ℕ) → ℕ
slot_node i = slot_count + i % slot_count

unfoldable pub few : ℕ → ℕ
few n = pick (leb n 9) n 9

-- the path so many levels up from node v, for an edit of v
abbrev pub path_from : (nodes : List ℕ) (v levels : ℕ) → Edit → Q.Request
path_from m v n e = Q.path e.was e.becomes (v % 2 ^ n) (siblings_up m n v)

-- ── requests ──

module _ (nodes : List ℕ) (t : Talk) where
  abbrev pub request_as : Part → Q.Request
  request_as PathWhole =
      let p = t.plan in
      let e = p.change in
      path_from nodes (slot_node e.left) level_count (sent p.script e.a)
  request_as PathLeft =
      let p = t.plan in
      let e = p.change in
      path_from nodes (slot_node e.left) (few e.levels) (sent p.script e.a)
  request_as PathRight =
      let p = t.plan in
      let e = p.change in
      path_from nodes (slot_node e.right) (few e.levels) (sent p.script e.b)
  request_as PairUp =
      let e = sent_change t.plan.script t.plan.change in
      Q.pair e.a.was e.y.was e.a.becomes e.y.becomes t.older
      e.b.was e.z.was e.b.becomes e.z.becomes t.memo
  request_as PathAbove =
      let p = t.plan in
      let e = p.change in
      path_from nodes (ancestor (suc (few e.levels)) (slot_node e.left)) (level_count - 1 - few e.levels) (sent p.script e.node)
  request_as RaiseUp =
      let e = sent_change t.plan.script t.plan.change in
      Q.raise e.a.was e.b.was e.node.was e.a.becomes e.b.becomes e.node.becomes t.older
      e.root.was e.root.becomes t.memo
  request_as SwapThem =
      let e = t.plan.change in
      Q.swap e.a.was e.b.was e.root.was e.root.becomes t.memo
  request_as PlaceIt =
      let p = t.plan in
      let root = sent p.script p.change.root in
      Q.place p.here.item.0 p.item.0 p.next.0 p.hash root.was root.becomes t.memo
  request_as FirstOf = Q.first t.plan.item.0
  request_as TurnIt = let root = t.plan.change.root in Q.turn root.becomes root.was t.memo
  request_as AdoptIt = let root = t.plan.change.root in Q.adopt root.was root.becomes t.memo
  request_as SetIt =
      let p = t.plan in
      let root = p.change.root in
      Q.set_to p.item.0 p.here.next.0 p.here.entry p.values root.was root.becomes t.memo
  request_as ClearIt =
      let p = t.plan in
      let root = p.change.root in
      Q.clear p.item.0 p.here.next.0 p.here.entry root.was root.becomes t.memo
  request_as WitnessIt = let e = t.plan.change in Q.witness e.a.was e.root.was t.memo
  request_as AskLeaf =
      let p = t.plan in
      Q.ask p.item.0 p.here.item.0 p.here.next.0 p.here.entry p.change.root.was t.memo
  request_as AskNone = Q.ask_none t.plan.item.0
  request_as Over = Q.ask_none t.plan.item.0

  -- at the talk's step
  unfoldable pub request_at : Q.Request
  request_at = request_as (part_at t.plan.script t.step)

  -- its line, with its 0A
  abbrev pub line_at : List ℕ
  line_at = line_of (frame_of request_at)

-- the length of a line where it fits the space
unfoldable pub fitting_length : (line : List ℕ) (space : ℕ) → Option ℕ
fitting_length l space = pick (leb (length l) space) (Some (length l)) None
