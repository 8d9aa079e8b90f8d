-- The tablet's conversation with the module: the line that it makes goes to the module, the module's reply line goes back to it, and so on
-- until the wish has ended.
use Rattle.std.specs.Prelude.{Bool, true, false, List, [], ◌∷◌, ℕ, zero, suc}
use Rattle.seqs.specs.Choose.{pick}
use Rattle.hexadecimal.specs.Hex.{digits_of}
use Rattle.paper.specs.declared.Revision.{Revision}
use Rattle.paper.specs.Strings.{Dig}
use Rattle.runs.specs.Run.{LineTurn, World, last, told_at, next}
use Rattle.runs.specs.Frames.{turn_of}
use Rattle.plans.specs.declared.Plan.{Plan}
use Rattle.asking.specs.declared.Talk.{Talk}
use Rattle.asking.specs.Saying.{start_of, request_at}
use Rattle.hearing.specs.declared.End.{End}
use Rattle.hearing.specs.declared.End.TheVariants.{GoesOn, Done, Refused, Otherwise}
use Rattle.hearing.specs.Hearing.{heard_from, leaves_heard, nodes_heard}

-- what the tablet has: how many leaves, the counter that the module gave last, and memory
pub record Tablet : Type 0 where
  pub count : ℕ
  pub counter : Revision
  pub leaves : List ℕ
  pub nodes : List ℕ

-- as long as a wish goes on
abbrev pub goes_on : End → Bool
goes_on GoesOn = true
goes_on Done = false
goes_on (Refused r) = false
goes_on Otherwise = false

-- a wish on its way: the tablet, the talk, and how it stands
pub record Underway : Type 0 where
  pub tablet : Tablet
  pub talk : Talk
  pub end : End

abbrev pub set_out : Tablet → Plan → Underway
set_out x p = record { tablet = x; talk = start_of p; end = GoesOn }

-- the line that goes out, as `asking::line` writes it, but for its 0A
abbrev pub says_now : Underway → LineTurn
says_now u = turn_of (request_at u.tablet.nodes u.talk)

module _ (D : List ℕ → Dig) where
  -- a reply line, without its 0A, comes back: what `hearing::hear` makes of it
  abbrev pub hears : Underway → (reply : List ℕ) → Underway
  hears u l =
      let x = u.tablet in
      let h = heard_from D u.talk x.count x.counter l x.leaves x.nodes in
      record {
        tablet = record {
          count = h.count;
          counter = h.counter;
          leaves = leaves_heard u.talk l x.leaves;
          nodes = nodes_heard D u.talk l x.nodes;
        };
        talk = h.talk;
        end = h.end;
      }

  -- what some turns come to: the module's world, the wish, and the lines that were sent
  pub record Conversed : Type 0 where
    pub world : World
    pub wish : Underway
    pub sent : List LineTurn

  abbrev pub sent_first : LineTurn → Conversed → Conversed
  sent_first t c = record { world = c.world; wish = c.wish; sent = t ∷ c.sent }

  abbrev pub converse : (turns : ℕ) → World → Underway → Conversed
  converse zero w u = record { world = w; wish = u; sent = [] }
  converse (suc n) w u =
      pick (goes_on u.end)
      (sent_first (says_now u) (converse n (next D last w (says_now u)) (hears u (digits_of (told_at D w (says_now u)).says))))
      (record { world = w; wish = u; sent = [] })
