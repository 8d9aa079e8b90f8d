-- A run of lines, and its replay (docs/PROTOCOL.md, 7.1 and 7.2). All of it for any digest D.
use Rattle.std.specs.Prelude.{Bool, false, List, [], ◌∷◌, ◌++◌, ℕ, ◌+◌}
use Rattle.seqs.specs.Choose.{pick, either}
use Rattle.seqs.specs.Bytes.{same}
use Rattle.paper.specs.declared.Record.{Record}
use Rattle.paper.specs.declared.Registers.{Registers}
use Rattle.paper.specs.Strings.{Dig, Str, memorandum}
use Rattle.paper.specs.Answers as Does
use Rattle.paper.specs.Answers.{ListChange, Effect, none', issues, adopts, changes}
use Rattle.paper.specs.Module.{unopened, Told, answer_to}
use Rattle.rings.specs.Lists.{ListItem, put_record}
use Rattle.rings.specs.Changes.{Step, insertion, removal, do_steps, reversed}

-- a line as bytes, without its 0A, and the bytes of its reply space
pub record LineTurn : Type 0 where
  pub line : List ℕ
  pub space : ℕ

-- ── replay ──

-- the list that the root stands for
abbrev pub Items : Type 0
Items = List (ListItem Record)

-- a memorandum issued, and what the line that issued it does
pub record Issue : Type 0 where
  pub memorandum : Dig
  pub does : List Step

-- A memorandum is read by the earliest line that issued it; of honest lines, by the last. A book is searched from its
-- front, so that is where the reading's own line has to stand.
pub data BookReading : Type 0 where
  earliest : BookReading
  last : BookReading

-- §7.1.2: the replay of a run reads memoranda by the earliest line
abbrev pub of_runs : BookReading
of_runs = earliest

abbrev pub entered : BookReading → (book new : List Issue) → List Issue
entered earliest b i = b ++ i
entered last b i = i ++ b

-- what the first entry of a book for a memorandum does; nothing where there is none
abbrev pub steps_for : (m : Dig) → List Issue → List Step
steps_for m [] = []
steps_for m (i ∷ b) = pick (same i.memorandum m) i.does (steps_for m b)

abbrev pub is_issued : (m : Dig) → List Issue → Bool
is_issued m [] = false
is_issued m (i ∷ b) = either (same i.memorandum m) (is_issued m b)

-- what a line does that issues a memorandum (§7.2.1 to §7.2.5), the others being read in the book b
abbrev pub meaning : List Issue → ListChange → List Step
meaning b Does.nothing = []
meaning b (Does.adds A) = insertion A ∷ []
meaning b (Does.removes A) = removal A ∷ []
meaning b (Does.reverses m) = reversed (steps_for m b)
meaning b (Does.both_in_order m1 m2) = steps_for m1 b ++ steps_for m2 b

-- ── what a run comes to ──

-- the registers, all strings formed, the memoranda issued, the list got by replaying, and how many record changes were
-- accepted
pub record World : Type 0 where
  pub registers : Registers
  pub formed : List Str
  pub book : List Issue
  pub items : Items
  pub changed : ℕ

module _ (D : List ℕ → Dig) where
  -- §7.1.1: what a line issues
  abbrev pub issued_by : World → Effect → List Issue
  issued_by w none' = []
  issued_by w (issues t c) =
      record { memorandum = memorandum D t w.registers.secret; does = meaning w.book c } ∷ []
  issued_by w (adopts m) = []
  issued_by w (changes A r) = []

  -- the list after a line: adopt does what its memorandum stands for (§7.2.6), set and clear change one record (§7.2.7), every other
  -- line leaves it as it is (§7.2.8)
  abbrev pub replayed : World → Effect → Items
  replayed w none' = w.items
  replayed w (issues t c) = w.items
  replayed w (adopts m) = do_steps (steps_for m w.book) w.items
  replayed w (changes A r) = put_record A r w.items

  abbrev pub counted : World → Effect → ℕ
  counted w none' = w.changed
  counted w (issues t c) = w.changed
  counted w (adopts m) = w.changed
  counted w (changes A r) = w.changed + 1

  -- the answer to a line, and the world after it
  abbrev pub told_at : World → LineTurn → Told
  told_at w t = answer_to D w.registers t.line t.space

  abbrev pub start : (secret : Dig) → World
  start k = record { registers = unopened k; formed = []; book = []; items = []; changed = 0 }

  module _ (by : BookReading) where
    abbrev pub landed : World → Told → World
    landed w a =
        record {
          registers = a.after;
          formed = a.formed ++ w.formed;
          book = entered by w.book (issued_by w a.effect);
          items = replayed w a.effect;
          changed = counted w a.effect;
        }

    abbrev pub next : World → LineTurn → World
    next w t = landed w (told_at w t)

    -- the world after some turns, the latest first
    abbrev pub replay : (secret : Dig) → List LineTurn → World
    replay k [] = start k
    replay k (t ∷ ts) = next (replay k ts) t

  abbrev pub after : (secret : Dig) → List LineTurn → World
  after k ts = replay of_runs k ts
