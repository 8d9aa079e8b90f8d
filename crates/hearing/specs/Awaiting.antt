-- What the tablet awaits at each step: every byte of the reply that it can know, which is all but a memorandum; and what a reply line
-- that is not that may be.
use Rattle.std.specs.Prelude.{Bool, true, false, Option, Some, None, List, [], ◌∷◌, ◌++◌, ℕ, ◌+◌, ◌%◌, eqb, length, get_or, take}
use Rattle.seqs.specs.Choose.{pick, both}
use Rattle.seqs.specs.Bytes.{be64, same}
use Rattle.hexadecimal.specs.Hex.{all_digits, bytes_of}
use Rattle.paper.specs.Answers.{finding_of, finding_bytes}
use Rattle.paper.specs.declared.Refusal.{Refusal}
use Rattle.paper.specs.declared.Refusal.TheVariants.{Line, Kind, Frame, Zero, Malformed, Gap, Top, First, Second, Stale, Empty, Secret, Unopened, Opened, Room, Mass}
use Rattle.edits.specs.declared.Edit.{Edit}
use Rattle.asking.specs.declared.Talk.{Talk}
use Rattle.asking.specs.declared.Part.{Part}
use Rattle.asking.specs.declared.Part.TheVariants.{PathWhole, PathLeft, PathRight, PairUp, PathAbove, RaiseUp, SwapThem, PlaceIt, FirstOf, TurnIt, AdoptIt, SetIt, ClearIt, WitnessIt, AskLeaf, AskNone, Over}
use Rattle.asking.specs.Parts.{part_at}
use Rattle.asking.specs.Saying.{sent}

-- all bytes of the reply that can be known, and whether a memorandum of 32 bytes follows
pub record Awaited : Type 0 where
  pub known : List ℕ
  pub memo : Bool

-- a path's reply: what stands above before, and afterwards
abbrev pub path_reply : Edit → Awaited
path_reply e = record { known = 0x81 ∷ (e.was ++ e.becomes); memo = true }

-- the first byte alone, a memorandum behind it or nothing
abbrev pub first_only : (first : ℕ) (memo : Bool) → Awaited
first_only k m = record { known = k ∷ []; memo = m }

abbrev pub memo_reply : (first : ℕ) → Awaited
memo_reply k = first_only k true

abbrev pub plain_reply : List ℕ → Awaited
plain_reply l = record { known = l; memo = false }

module _ (t : Talk) where
  abbrev pub awaited_as : Part → Awaited
  awaited_as PathWhole = path_reply (sent t.plan.script t.plan.change.root)
  awaited_as PathLeft = path_reply (sent t.plan.script t.plan.change.y)
  awaited_as PathRight = path_reply (sent t.plan.script t.plan.change.z)
  awaited_as PairUp = memo_reply 0x84
  awaited_as PathAbove = path_reply (sent t.plan.script t.plan.change.root)
  awaited_as RaiseUp = memo_reply 0x85
  awaited_as SwapThem = memo_reply 0x86
  awaited_as PlaceIt = memo_reply 0x88
  awaited_as FirstOf = memo_reply 0x87
  awaited_as TurnIt = memo_reply 0x89
  awaited_as AdoptIt = plain_reply (0x8b ∷ t.plan.change.root.becomes)
  awaited_as SetIt = plain_reply (0x8c ∷ (t.plan.change.root.becomes ++ be64 t.plan.after.counter.0))
  awaited_as ClearIt = plain_reply (0x8d ∷ (t.plan.change.root.becomes ++ be64 t.plan.after.counter.0))
  awaited_as WitnessIt = memo_reply 0x82
  awaited_as AskLeaf =
      let p = t.plan in
      plain_reply (0x8e ∷ finding_bytes (finding_of p.item.0 p.here.item.0 p.here.next.0 p.here.entry))
  awaited_as AskNone = plain_reply (0x8f ∷ be64 t.plan.item.0)
  awaited_as Over = plain_reply (0x8f ∷ be64 t.plan.item.0)

  -- at the talk's step
  unfoldable pub awaited_at : Awaited
  awaited_at = awaited_as (part_at t.plan.script t.step)

-- ── a reply line, without its 0A ──

abbrev pub is_line : List ℕ → Bool
is_line l = both (eqb (length l % 2) 0) (all_digits l)

-- the bytes that are known, and as many behind them as there should be
unfoldable pub fits_reply : Awaited → List ℕ → Bool
fits_reply w b =
    both (eqb (length b) (length w.known + pick w.memo 32 0)) (same (take (length w.known) b) w.known)

unfoldable pub replies : Awaited → List ℕ → Bool
replies w l = both (is_line l) (fits_reply w (bytes_of l))

abbrev pub as_awaited : Talk → List ℕ → Bool
as_awaited t l = replies (awaited_at t) l

-- the refusals by their numbers, 1 to 16; no other number has one
abbrev pub refusals : List (Option Refusal)
refusals =
    None
    ∷ Some Line
    ∷ Some Kind
    ∷ Some Frame
    ∷ Some Zero
    ∷ Some Malformed
    ∷ Some Gap
    ∷ Some Top
    ∷ Some First
    ∷ Some Second
    ∷ Some Stale
    ∷ Some Empty
    ∷ Some Secret
    ∷ Some Unopened
    ∷ Some Opened
    ∷ Some Room
    ∷ Some Mass
    ∷ []

abbrev pub refusal_of : ℕ → Option Refusal
refusal_of n = get_or refusals n None

-- a line of two bytes, the first of them 0
abbrev pub is_refusal : List ℕ → Bool
is_refusal l = both (both (is_line l) (eqb (length (bytes_of l)) 2)) (eqb (get_or (bytes_of l) 0 0) 0)

-- the refusal that a line is, `00` and its number
unfoldable pub refusal_in : List ℕ → Option Refusal
refusal_in l = pick (is_refusal l) (refusal_of (get_or (bytes_of l) 1 0)) None
