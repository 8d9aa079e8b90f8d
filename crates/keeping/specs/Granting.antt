-- What a wish comes to that the tablet does not refuse: its lines, each answered by the module and its reply heard, are honest lines of
-- `runs` that do just the wish, and afterwards tablet and module agree again.
use Rattle.std.specs.Prelude.{◌≡◌, true, false, Result, Ok, IsOk, List, [], ℕ, ◌≤◌, ◌<◌, length}
use Rattle.seqs.specs.Bytes.{Bytes}
use Rattle.sha256.specs.Hash.{sha256}
use Rattle.paper.specs.declared.Registers.{Registers}
use Rattle.paper.specs.Strings.{Dig}
use Rattle.paper.specs.Refusals.{top}
use Rattle.runs.specs.Run.{World}
use Rattle.runs.specs.Wishes as R
use Rattle.runs.specs.Wishes.{insert_item, remove_item, set_record, clear_record, ask_about, LegalWish}
use Rattle.runs.specs.Sizes.{InEightBytes, ValuesFit}
use Rattle.runs.specs.Outcomes.{items_after, registers_after}
use Rattle.runs.specs.Liveness.{fed, HonestTurns, last_reply, AnsweredTruly}
use Rattle.slots.specs.Nodes.{slot_count, node_at}
use Rattle.rows.specs.declared.Row.{Row}
use Rattle.ringed.specs.Ringed.{list_of}
use Rattle.wishes.specs.declared.Wish.{Wish}
use Rattle.wishes.specs.declared.Wish.TheVariants.{Insert, Remove, Set, Clear, Ask}
use Rattle.wishes.specs.declared.Refused.{Refused}
use Rattle.plans.specs.declared.Plan.{Plan}
use Rattle.plans.specs.Plans.{begun_for}
use Rattle.hearing.specs.declared.End.TheVariants.{Done}
use Rattle.hearing.specs.Awaiting.{as_awaited, refusal_in}
use Rattle.hearing.specs.Hearing.{otherwise}
use Rattle.holding.specs.Holding.{Holds}
use Rattle.keeping.specs.Talking.{Tablet, Underway, set_out, hears, Conversed, converse}
use Rattle.keeping.specs.Agreeing.{Agrees}

-- the tablet's wish as `runs` has it
abbrev pub wish_of : Wish → R.Wish
wish_of (Insert A) = insert_item A.0
wish_of (Remove A) = remove_item A.0
wish_of (Set A v) = set_record A.0 v
wish_of (Clear A) = clear_record A.0
wish_of (Ask q) = ask_about q.0

-- its numbers are such as eight bytes hold, as every number in the code is
abbrev pub WishFits : Wish → Type 0
WishFits (Insert A) = InEightBytes A.0
WishFits (Remove A) = InEightBytes A.0
WishFits (Set A v) = InEightBytes A.0 × ValuesFit v
WishFits (Clear A) = InEightBytes A.0
WishFits (Ask q) = InEightBytes q.0

-- how many lines it takes at most: an item that is not in the last slot goes in twice seven
abbrev pub most_lines : Wish → ℕ
most_lines (Insert A) = 8
most_lines (Remove A) = 14
most_lines (Set A v) = 2
most_lines (Clear A) = 2
most_lines (Ask q) = 3

-- an insert has a free slot, and every change finds the counter below its top
abbrev pub Within : World → Tablet → Wish → Type 0
Within w x (Insert A) = (x.count < slot_count) × (w.registers.counter.0 < top)
Within w x (Remove A) = w.registers.counter.0 < top
Within w x (Set A v) = w.registers.counter.0 < top
Within w x (Clear A) = w.registers.counter.0 < top
Within w x (Ask q) = Unit {0}

-- a module with these registers and the list of some rows, of which nothing else is known
abbrev pub beginning_at : Registers → List Row → World
beginning_at s rs = record { registers = s; formed = []; book = []; items = list_of rs; changed = s.counter.0 }

module _ (D : List ℕ → Dig) where
  -- the tablet's plan for a wish, or the word by which it refuses
  abbrev pub begins : Tablet → Wish → Result Plan Refused
  begins x v = begun_for D x.leaves x.nodes x.count x.counter v

  -- a conversation that began at the world w grants the wish v: it has ended well, the lines sent led to its world and were honest, list
  -- and registers are those wanted, the root being the one that memory then has, memory holds that list, and a question is answered truly
  pub record Grants (w : World) (v : Wish) (c : Conversed D) : Type 0 where
    pub ended : c.wish.end ≡ Done
    pub led : fed D w c.sent ≡ c.world
    pub honest : HonestTurns D w c.sent
    pub items : c.world.items ≡ items_after w.registers w.items (wish_of v)
    pub registers : c.world.registers ≡ registers_after w.registers (node_at c.wish.tablet.nodes 1) (wish_of v)
    pub counted : c.world.registers.counter.0 ≡ c.world.changed
    pub agrees : Agrees D c.world c.wish.tablet
    pub answered : AnsweredTruly D (wish_of v) w.items (last_reply D w c.sent)

  -- ── every wish ──

  -- module and tablet at rest: the module is open, its counter is a number of 8 bytes and says how many record changes there were, and the
  -- tablet agrees with it
  pub record Together (w : World) (x : Tablet) : Type 0 where
    pub opened : w.registers.opened ≡ true
    pub narrow : InEightBytes w.registers.counter.0
    pub counted : w.registers.counter.0 ≡ w.changed
    pub agrees : Agrees D w x

  -- Any registers that are open and any memory that holds a ring with their root and counter are so, in the world that begins with them.
  abbrev pub StartTogether : Type 0
  StartTogether =
      (s : Registers) (x : Tablet) (rs : List Row) → s.opened ≡ true → InEightBytes s.counter.0
      → Holds D rs x.leaves x.nodes x.count → node_at x.nodes 1 ≡ s.root → x.counter ≡ s.counter → Together (beginning_at s rs) x

  -- a wish that the tablet does not refuse is granted, with as many turns as its lines are or more; and they are together again
  pub record WishGranted (w : World) (x : Tablet) (v : Wish) (p : Plan) (n : ℕ) : Type 0 where
    pub grants : Grants w v (converse D n w (set_out x p))
    pub together : (let c = converse D n w (set_out x p) in Together c.world c.wish.tablet)

  abbrev pub EveryWishGranted : Type 0
  EveryWishGranted =
      (w : World) (x : Tablet) → Together w x → (v : Wish) → WishFits v → (p : Plan) → begins x v ≡ Ok p → (n : ℕ) → most_lines v ≤ n
      → WishGranted w x v p n

  -- the tablet refuses by itself just what is not legal, a 1,025th item, and a change with the counter at its top
  pub record RefusesJust : Type 0 where
    pub possible : (w : World) (x : Tablet) → Together w x → (v : Wish) → WishFits v → IsOk (begins x v)
        → LegalWish w.items (wish_of v) × Within w x v
    pub allowed : (w : World) (x : Tablet) → Together w x → (v : Wish) → LegalWish w.items (wish_of v) → Within w x v
        → IsOk (begins x v)

  -- Any line that is not the reply awaited, whatever its bytes, ends the wish and changes nothing of the tablet: told as the module's
  -- refusal where it is one, and else as something that the module should not have said.
  abbrev pub OtherRepliesTold : Type 0
  OtherRepliesTold =
      (u : Underway) (l : List ℕ) → as_awaited u.talk l ≡ false
      → ((hears D u l).tablet ≡ u.tablet) × ((hears D u l).end ≡ otherwise (refusal_in l))

  pub record KeepsHonestly : Type 0 where
    pub anywhere : StartTogether
    pub every_wish : EveryWishGranted
    pub refuses_just : RefusesJust
    pub other_replies : OtherRepliesTold

-- for SHA-256, and for any digest of 32 bytes
pub record HonestKeeper : Type 0 where
  pub at_sha256 : KeepsHonestly sha256
  pub at_any : (D : List ℕ → Dig) → ((l : List ℕ) → length (D l) ≡ 32) → ((l : List ℕ) → Bytes (D l)) → KeepsHonestly D
