-- The keeper's turns: what a line leads to, and the line that goes out for it.
use Rattle.std.specs.Prelude.{Bool, false, Option, Some, None, Result, Ok, Err, List, ℕ}
use Rattle.paper.specs.declared.Revision.{Revision}
use Rattle.paper.specs.Strings.{Dig}
use Rattle.paper.specs.Answers.{finding_of}
use Rattle.paper.specs.Numbers.{refusal_number}
use Rattle.wishes.specs.declared.Wish.{Wish}
use Rattle.wishes.specs.declared.Refused as W
use Rattle.wishes.specs.Words.{held_of, refused_number}
use Rattle.plans.specs.declared.Script.TheVariants.{AskOfNone, Asking, Setting, Clearing, Beginning, Inserting, Swapping, Dropping, Emptying}
use Rattle.plans.specs.declared.Plan.{Plan}
use Rattle.plans.specs.declared.Script.{Script}
use Rattle.plans.specs.Plans.{no_plan, begun_for}
use Rattle.asking.specs.declared.Talk.{Talk}
use Rattle.asking.specs.Saying.{start_of, line_at}
use Rattle.hearing.specs.declared.End.{End}
use Rattle.hearing.specs.declared.End.TheVariants as E
use Rattle.hearing.specs.declared.End.TheVariants.{GoesOn}
use Rattle.hearing.specs.declared.Heard.{Heard}
use Rattle.hearing.specs.Hearing.{heard_from, leaves_heard, nodes_heard}
use Rattle.words.specs.declared.Word.{Word}
use Rattle.words.specs.declared.Telling.{Telling}
use Rattle.words.specs.declared.Telling.TheVariants.{Done, Found, NoItem, Refused, ModuleRefused, Otherwise, What}
use Rattle.words.specs.Reading.{word_in}
use Rattle.words.specs.Telling.{told}
use Rattle.turns.specs.declared.Standing.{Standing}
use Rattle.turns.specs.declared.Standing.TheVariants.{Awaiting, Over}
use Rattle.turns.specs.declared.Desk.{Desk}

-- what a line leads to: the desk, whether memory changed, and the line that goes out, with its 0A
pub record Said : Type 0 where
  pub desk : Desk
  pub changed : Bool
  pub text : List ℕ

-- ── at the end of a wish ──

abbrev pub finished_by : Script → Plan → Telling
finished_by AskOfNone p = NoItem p.item
finished_by Asking p = Found (finding_of p.item.0 p.here.item.0 p.here.next.0 p.here.entry)
finished_by Setting p = Done
finished_by Clearing p = Done
finished_by Beginning p = Done
finished_by Inserting p = Done
finished_by Swapping p = Done
finished_by Dropping p = Done
finished_by Emptying p = Done

abbrev pub finished_of : Plan → Telling
finished_of p = finished_by p.script p

-- ── lines that go out ──

-- to people
abbrev pub telling : Desk → (changed : Bool) → Telling → Said
telling d b t = record { desk = d; changed = b; text = told t }

-- to the module, whose reply is then awaited
abbrev pub sending : (count : ℕ) → Revision → Talk → (changed : Bool) → (nodes : List ℕ) → Said
sending k c t b nodes =
    record { desk = record { count = k; counter = c; talk = Awaiting t }; changed = b; text = line_at nodes t }

-- ── lines that come ──

-- a reply: the wish goes on, is done, was refused by the module, or got something else
abbrev pub on_end : End → Heard → (nodes : List ℕ) → Said
on_end GoesOn h nodes = sending h.count h.counter h.talk h.changed nodes
on_end E.Done h nodes = telling (record { count = h.count; counter = h.counter; talk = Over h.talk }) h.changed (finished_of h.talk.plan)
on_end (E.Refused r) h nodes =
    telling (record { count = h.count; counter = h.counter; talk = Over h.talk }) h.changed (ModuleRefused (refusal_number r))
on_end E.Otherwise h nodes = telling (record { count = h.count; counter = h.counter; talk = Over h.talk }) h.changed Otherwise

abbrev pub on_heard : Heard → (nodes : List ℕ) → Said
on_heard h nodes = on_end h.end h nodes

module _ (D : List ℕ → Dig) (d : Desk) where
  -- a wish, with its plan or the word by which the tablet refuses it
  abbrev pub on_plan : (nodes : List ℕ) → Result Plan W.Refused → Said
  on_plan nodes (Ok p) = sending d.count d.counter (start_of p) false nodes
  on_plan nodes (Err w) = telling d false (Refused (refused_number w))

  unfoldable pub on_begun : (leaves nodes : List ℕ) → Wish → Said
  on_begun leaves nodes w = on_plan nodes (begun_for D leaves nodes (held_of d.count) d.counter w)

  abbrev pub on_saying : (leaves nodes : List ℕ) → Option Word → Said
  on_saying leaves nodes (Some (Word.Wish w)) = on_begun leaves nodes w
  on_saying leaves nodes (Some (Word.Counter c)) = telling (record { count = d.count; counter = c; talk = d.talk }) false Done
  on_saying leaves nodes None = telling d false What

  -- a line where no reply is awaited
  abbrev pub on_word : (line leaves nodes : List ℕ) → Said
  on_word l leaves nodes = on_saying leaves nodes (word_in l)

  -- any line
  abbrev pub turn_in : Standing → (line leaves nodes : List ℕ) → Said
  turn_in (Awaiting t) l leaves nodes = on_heard (heard_from D t d.count d.counter l leaves nodes) (nodes_heard D t l nodes)
  turn_in (Over t) l leaves nodes = on_word l leaves nodes

  unfoldable pub turn_of : (line leaves nodes : List ℕ) → Said
  turn_of l leaves nodes = turn_in d.talk l leaves nodes

  abbrev pub nodes_in : Standing → (line nodes : List ℕ) → List ℕ
  nodes_in (Awaiting t) l nodes = nodes_heard D t l nodes
  nodes_in (Over t) l nodes = nodes

  unfoldable pub nodes_after : (line nodes : List ℕ) → List ℕ
  nodes_after l nodes = nodes_in d.talk l nodes

abbrev pub leaves_in : Standing → (line leaves : List ℕ) → List ℕ
leaves_in (Awaiting t) l leaves = leaves_heard t l leaves
leaves_in (Over t) l leaves = leaves

unfoldable pub leaves_after : Desk → (line leaves : List ℕ) → List ℕ
leaves_after d l leaves = leaves_in d.talk l leaves

-- ── the start ──

-- no reply is awaited, and the talk is over before its first line; its plan is nothing to do
unfoldable pub at_rest : (count : ℕ) → Desk
at_rest k = record { count = k; counter = record { 0 = 0 }; talk = Over (start_of no_plan) }
