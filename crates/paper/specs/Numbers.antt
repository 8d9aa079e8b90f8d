-- The numbers of the tables' rows (docs/PROTOCOL.md, 5.1 and 6.2).
use Rattle.std.specs.Prelude.{◌≡◌, Bool, false, List, [], ◌∷◌, ℕ, eqb, Result, MatchResult}
use Rattle.seqs.specs.Choose.{either}
use Rattle.paper.specs.declared.Refusal.{Refusal}
use Rattle.paper.specs.declared.Kind.{Kind}
use Rattle.paper.specs.declared.NotListed.{NotListed}
use Rattle.paper.specs.Requests.{known}
use Rattle.paper.specs.Refusals.{order}

-- the refusals by number
abbrev pub refusal_number : Refusal → ℕ
refusal_number Refusal.Line = 1
refusal_number Refusal.Kind = 2
refusal_number Refusal.Frame = 3
refusal_number Refusal.Zero = 4
refusal_number Refusal.Malformed = 5
refusal_number Refusal.Gap = 6
refusal_number Refusal.Top = 7
refusal_number Refusal.First = 8
refusal_number Refusal.Second = 9
refusal_number Refusal.Stale = 10
refusal_number Refusal.Empty = 11
refusal_number Refusal.Secret = 12
refusal_number Refusal.Unopened = 13
refusal_number Refusal.Opened = 14
refusal_number Refusal.Room = 15
refusal_number Refusal.Mass = 16

-- whether a number is one of these
abbrev pub is_one_of : List ℕ → ℕ → Bool
is_one_of [] n = false
is_one_of (m ∷ ms) n = either (eqb n m) (is_one_of ms n)

-- the refusal of that number, or none, where the order of the checks has no such number
abbrev pub RefusalOf : ℕ → Result Refusal NotListed → Type 0
RefusalOf n r = MatchResult r (λ k. refusal_number k ≡ n) (λ e. (e.0 ≡ n) × (is_one_of order n ≡ false))

-- the kinds by number
abbrev pub kind_number : Kind → ℕ
kind_number Kind.Path = 1
kind_number Kind.Witness = 2
kind_number Kind.Join = 3
kind_number Kind.Pair = 4
kind_number Kind.Raise = 5
kind_number Kind.Swap = 6
kind_number Kind.First = 7
kind_number Kind.Place = 8
kind_number Kind.Turn = 9
kind_number Kind.Chain = 10
kind_number Kind.Adopt = 11
kind_number Kind.Set = 12
kind_number Kind.Clear = 13
kind_number Kind.Ask = 14
kind_number Kind.AskNone = 15
kind_number Kind.Open = 16

-- the kind of that number, or none, where the table of kinds has no such row
abbrev pub KindOf : ℕ → Result Kind NotListed → Type 0
KindOf n r = MatchResult r (λ k. kind_number k ≡ n) (λ e. (e.0 ≡ n) × (known n ≡ false))
