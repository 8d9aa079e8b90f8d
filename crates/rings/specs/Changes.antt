-- What an issued memorandum stands for, as steps on the list (docs/PROTOCOL.md, 7.2), the reverse of steps (§7.2.4, §5.2.8), and
-- which steps are legal (7.3).
use Rattle.std.specs.Prelude.{List, [], ◌∷◌, ◌++◌, ℕ, ◌<◌}
use Rattle.paper.specs.declared.Record.{Record}
use Rattle.paper.specs.Strings.{empty_record}
use Rattle.rings.specs.Lists.{ListItem, OnList, Unlisted, insert, remove}

-- an item more, without a record (§7.2.1), or one less (§7.2.2)
pub data Step : Type 0 where
  insertion : (A : ℕ) → Step
  removal : (A : ℕ) → Step

abbrev pub do_step : Step → List (ListItem Record) → List (ListItem Record)
do_step (insertion A) ls = insert A empty_record ls
do_step (removal A) ls = remove A ls

-- several, in order
abbrev pub do_steps : List Step → List (ListItem Record) → List (ListItem Record)
do_steps [] ls = ls
do_steps (s ∷ c) ls = do_steps c (do_step s ls)

-- the reverse: each undone, the last first
abbrev pub undoing : Step → Step
undoing (insertion A) = removal A
undoing (removal A) = insertion A

abbrev pub reversed : List Step → List Step
reversed [] = []
reversed (s ∷ c) = reversed c ++ (undoing s ∷ [])

-- §7.3.1, §7.3.2: what may be inserted or removed; each step for the list it meets
abbrev pub LegalStep : Step → List (ListItem Record) → Type 0
LegalStep (insertion A) ls = (0 < A) × Unlisted A ls
LegalStep (removal A) ls = OnList A empty_record ls

abbrev pub LegalSteps : List Step → List (ListItem Record) → Type 0
LegalSteps [] ls = Unit {0}
LegalSteps (s ∷ c) ls = LegalStep s ls × LegalSteps c (do_step s ls)
