-- What was issued for a set gets 8 once the counter has moved on (§5.2.12). `proofs/Older` shows it, of two set lines that need have
-- nothing in common but the memorandum.
use Rattle.std.specs.Prelude.{◌≡◌, List, ◌++◌, ◌⊎◌, ℕ, ◌≤◌, ◌<◌}
use Rattle.hexadecimal.specs.Hex.{bytes_of}
use Rattle.paper.specs.declared.Registers.{Registers}
use Rattle.paper.specs.Strings.{Dig}
use Rattle.paper.specs.Requests.{kind_of, request_of}
use Rattle.paper.specs.Refusals.{order, top, carried_memoranda, Passed, numbers_before}
use Rattle.paper.specs.Module.{checks_of, answer_to}
use Rattle.paper.specs.Collisions.{Collision}

-- check 8 and all before it are passed: the answer, or 10
abbrev pub PastCheck8 : ℕ → Type 0
PastCheck8 refusal = (refusal ≡ 0) ⊎ (refusal ≡ 10)

-- A set's line whose memorandum fits at the registers s₀ (whatever the root was); and at later registers s, with the same secret
-- and a higher counter, a set's line that carries the same memorandum, whatever else it says, and passes every check before 8.
pub record Later (D : List ℕ → Dig) (s₀ s : Registers) (line₀ line : List ℕ) (space₀ space : ℕ) : Type 0 where
  pub kind₀ : kind_of (bytes_of line₀) ≡ 0x0c
  pub fitted : PastCheck8 (answer_to D s₀ line₀ space₀).refusal
  pub kind : kind_of (bytes_of line) ≡ 0x0c
  pub passes : Passed (numbers_before 8 order) (checks_of D s line space)
  pub one_memorandum : carried_memoranda D s₀ (request_of (bytes_of line₀)) ≡ carried_memoranda D s (request_of (bytes_of line))
  pub secret : s.secret ≡ s₀.secret
  pub older : s₀.counter.0 < s.counter.0
  pub in_register : s.counter.0 ≤ top

-- the later line gets 8, or two of the strings formed then and now have one digest
abbrev pub OlderGets8 : (List ℕ → Dig) → Type 0
OlderGets8 D = (s₀ s : Registers) (line₀ line : List ℕ) (space₀ space : ℕ) → Later D s₀ s line₀ line space₀ space
    → ((answer_to D s line space).refusal ≡ 8)
    ⊎ Collision D ((answer_to D s₀ line₀ space₀).formed ++ (answer_to D s line space).formed)
