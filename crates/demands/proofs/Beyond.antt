-- What follows besides the demands: a function that meets the contract makes calls that do, and a session's lines are a run's.
use mathlib.Core.Path.{◌≡◌, refl, ap, ◌∙◌}
use mathlib.Core.List.{List, [], ◌∷◌}
use Prim.Native.Nat.{ℕ}
use Rattle.sha256.specs.Hash.{sha256}
use Rattle.paper.specs.declared.Registers.{Registers}
use Rattle.paper.specs.Strings.{Dig}
use Rattle.paper.specs.Module.{unopened}
use Rattle.module.proofs.Follows.{under_the_ceiling, older_memorandum}
use Rattle.runs.specs.Run.{after}
use Rattle.runs.proofs.Runs.{safety}
use Rattle.runs.proofs.Live.{liveness}
use Rattle.runs.proofs.Also.{also}
use Rattle.session.specs.Replies.{told_of, registers_behind}
use Rattle.session.proofs.Whole.{registers_append}
use Rattle.demands.specs.Demands.{registers_behind_calls, Kept}
use Rattle.demands.specs.Beyond.{ByValue, InPlace, MeetsByValue, MeetsInPlace, CallInput, calls_by_value, calls_in_place, with_reply_room, in_order, Beyond}
use Rattle.demands.proofs.Demands.{replied, holds}

kept_by_value : (m : ByValue) → MeetsByValue m → (k : Dig) (is : List CallInput) → Kept k (calls_by_value m k is)
kept_by_value m h k [] = tt
kept_by_value m h k (i ∷ is) = (h (registers_behind_calls k (calls_by_value m k is)) i.line i.space, kept_by_value m h k is)

kept_in_place : (m : InPlace) → MeetsInPlace m → (k : Dig) (is : List CallInput) → Kept k (calls_in_place m k is)
kept_in_place m h k [] = tt
kept_in_place m h k (i ∷ is) = (h (registers_behind_calls k (calls_in_place m k is)) i.line i.space, kept_in_place m h k is)

in_session : (k : Dig) (ls : List (List ℕ)) → registers_behind (unopened k) (in_order ls) ≡ (after sha256 k (with_reply_room ls)).registers
in_session k [] = refl
in_session k (l ∷ ls) =
    registers_append (unopened k) (in_order ls) (l ∷ [])
    ∙ ap (λ (s : Registers). (told_of s l).after) (in_session k ls)

pub beyond : Beyond
beyond =
    record {
      under_the_ceiling = under_the_ceiling;
      older_memorandum = older_memorandum;
      replies = replied;
      safe = safety.at_sha256;
      by_value = λ m h k is. holds k (calls_by_value m k is) (kept_by_value m h k is);
      in_place = λ m h k is. holds k (calls_in_place m k is) (kept_in_place m h k is);
      also = also.at_sha256;
      anywhere = liveness.at_sha256.anywhere;
      in_session = in_session;
    }
