-- What follows besides the three demands, of functions instead of calls, of counts, memoranda and runs: nothing of it is needed to know
-- what the demands say. `proofs/Beyond` shows all of it.
use Rattle.std.specs.Prelude.{◌≡◌, List, [], ◌∷◌, ◌++◌, ℕ, length}
use Rattle.sha256.specs.Hash.{sha256}
use Rattle.paper.specs.declared.Registers.{Registers}
use Rattle.paper.specs.Strings.{Dig}
use Rattle.paper.specs.Refusals.{reply_room}
use Rattle.paper.specs.Module.{unopened, answer_to, space_after}
use Rattle.module.specs.declared.Answered.{Answered}
use Rattle.module.specs.declared.Replied.{Replied}
use Rattle.module.specs.Answering.{answered_with, answered_of}
use Rattle.module.specs.Laws.{Promised, UnderTheCeiling, OlderMemorandum}
use Rattle.runs.specs.Run.{LineTurn, after}
use Rattle.runs.specs.Safety.{SafeOrEnded}
use Rattle.runs.specs.Liveness.{AllGrantable}
use Rattle.runs.specs.Also.{AlsoFor}
use Rattle.session.specs.Replies.{registers_behind}
use Rattle.demands.specs.Demands.{Call, registers_behind_calls, Kept, turns_of_calls, HoldsAfter}

-- ── calls along a run ──

-- what came back from each call, and its reply space afterwards, are those of the run of these lines
abbrev pub RepliedAlong : (secret : Dig) → List Call → Type 0
RepliedAlong k [] = Unit {0}
RepliedAlong k (c ∷ cs) =
    let told = answer_to sha256 (after sha256 k (turns_of_calls cs)).registers c.line (length c.space) in
    (c.came ≡ answered_of told) × (c.left ≡ space_after told c.space) × RepliedAlong k cs

-- ── functions that meet the contract ──

-- a function on registers by value, and one on registers where they lie, which leaves registers beside what it returns; each leaves
-- a reply space
abbrev pub ByValue : Type 0
ByValue = Registers → (line space : List ℕ) → Answered × List ℕ

abbrev pub InPlace : Type 0
InPlace = Registers → (line space : List ℕ) → Registers × Replied × List ℕ

abbrev pub MeetsByValue : ByValue → Type 0
MeetsByValue m = (s : Registers) (line space : List ℕ) → Promised s line space (m s line space).0 (m s line space).1

abbrev pub MeetsInPlace : InPlace → Type 0
MeetsInPlace m = (s : Registers) (line space : List ℕ)
    → Promised s line space (answered_with (m s line space).0 (m s line space).1) (m s line space).2

-- what was handed over at a call: a line and a reply space
pub record CallInput : Type 0 where
  pub line : List ℕ
  pub space : List ℕ

-- the calls of such a function, one after the other, the latest first
abbrev pub call_by_value : ByValue → Registers → CallInput → Call
call_by_value m s i =
    let o = m s i.line i.space in
    record { line = i.line; space = i.space; came = o.0; left = o.1 }

abbrev pub calls_by_value : ByValue → (secret : Dig) → List CallInput → List Call
calls_by_value m k [] = []
calls_by_value m k (i ∷ is) = call_by_value m (registers_behind_calls k (calls_by_value m k is)) i ∷ calls_by_value m k is

abbrev pub call_in_place : InPlace → Registers → CallInput → Call
call_in_place m s i =
    let o = m s i.line i.space in
    record { line = i.line; space = i.space; came = answered_with o.0 o.1; left = o.2 }

abbrev pub calls_in_place : InPlace → (secret : Dig) → List CallInput → List Call
calls_in_place m k [] = []
calls_in_place m k (i ∷ is) = call_in_place m (registers_behind_calls k (calls_in_place m k is)) i ∷ calls_in_place m k is

-- ── sessions ──

-- lines as a session feeds them, the latest first, each with room for its reply
abbrev pub with_reply_room : List (List ℕ) → List LineTurn
with_reply_room [] = []
with_reply_room (l ∷ ls) = record { line = l; space = reply_room } ∷ with_reply_room ls

abbrev pub in_order : List (List ℕ) → List (List ℕ)
in_order [] = []
in_order (l ∷ ls) = in_order ls ++ (l ∷ [])

-- ── all of it ──

pub record Beyond : Type 0 where
  -- §3.7.8, §5.2.12: ceilings, and memoranda of an earlier counter
  pub under_the_ceiling : UnderTheCeiling
  pub older_memorandum : OlderMemorandum
  -- what came back from any calls that meet the contract is the run's; and the run is safe, each adopted change legal where it was
  -- adopted, and before opening nothing formed, issued or changed
  pub replies : (k : Dig) (cs : List Call) → Kept k cs → RepliedAlong k cs
  pub safe : SafeOrEnded sha256
  -- the third demand of any function that meets the contract, by value or in place
  pub by_value : (m : ByValue) → MeetsByValue m → (k : Dig) (is : List CallInput) → HoldsAfter k (calls_by_value m k is)
  pub in_place : (m : InPlace) → MeetsInPlace m → (k : Dig) (is : List CallInput) → HoldsAfter k (calls_in_place m k is)
  -- what an ending is and is not, that the root settles the list, what every memorandum means, and the other laws of runs
  pub also : AlsoFor sha256
  -- honest lines from any registers, tree and list that stand, with no run before them
  pub anywhere : AllGrantable sha256
  -- and the registers along a session's lines (`session::serve`) are a run's
  pub in_session : (k : Dig) (ls : List (List ℕ)) → registers_behind (unopened k) (in_order ls) ≡ (after sha256 k (with_reply_room ls)).registers
