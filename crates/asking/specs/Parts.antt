-- Which lines a wish takes, one after the other. Where two leaves change, five lines lead up to the memorandum of both together.
use Rattle.std.specs.Prelude.{List, [], ◌∷◌, ◌++◌, ℕ, get_or}
use Rattle.plans.specs.declared.Script.{Script}
use Rattle.plans.specs.declared.Script.TheVariants.{AskOfNone, Asking, Setting, Clearing, Beginning, Inserting, Swapping, Dropping, Emptying}
use Rattle.asking.specs.declared.Part.{Part}
use Rattle.asking.specs.declared.Part.TheVariants.{PathWhole, PathLeft, PathRight, PairUp, PathAbove, RaiseUp, SwapThem, PlaceIt, FirstOf, TurnIt, AdoptIt, SetIt, ClearIt, WitnessIt, AskLeaf, AskNone, Over}

abbrev pub fork_parts : List Part
fork_parts = PathLeft ∷ PathRight ∷ PairUp ∷ PathAbove ∷ RaiseUp ∷ []

abbrev pub parts_of : Script → List Part
parts_of AskOfNone = AskNone ∷ []
parts_of Asking = PathWhole ∷ WitnessIt ∷ AskLeaf ∷ []
parts_of Setting = PathWhole ∷ SetIt ∷ []
parts_of Clearing = PathWhole ∷ ClearIt ∷ []
parts_of Beginning = FirstOf ∷ AdoptIt ∷ []
parts_of Inserting = fork_parts ++ (PlaceIt ∷ TurnIt ∷ AdoptIt ∷ [])
parts_of Swapping = fork_parts ++ (SwapThem ∷ AdoptIt ∷ [])
parts_of Dropping = fork_parts ++ (PlaceIt ∷ AdoptIt ∷ [])
parts_of Emptying = FirstOf ∷ TurnIt ∷ AdoptIt ∷ []

-- the line at a step; behind the last there is none
abbrev pub part_at : Script → (step : ℕ) → Part
part_at s n = get_or (parts_of s) n Over
