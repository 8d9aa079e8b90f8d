-- What follows from the contract of `answer` alone, as statements; `proofs/Follows` shows them.
use Rattle.std.specs.Prelude.{◌≡◌, false, None, Some, List, ◌∷◌, ◌++◌, ◌⊎◌, ℕ, ◌≤◌, length, drop}
use Rattle.seqs.specs.Bytes.{Bytes, all_zero}
use Rattle.hexadecimal.specs.Hex.{bytes_of, digits_of}
use Rattle.sha256.specs.Hash.{sha256}
use Rattle.paper.specs.declared.Registers.{Registers}
use Rattle.paper.specs.Requests.{request_of}
use Rattle.paper.specs.Refusals.{Check, order, reply_room, Passed, FirstToApply}
use Rattle.paper.specs.Answers.{unlocked}
use Rattle.paper.specs.Module.{checks_of, answer_to, space_after}
use Rattle.paper.specs.Ceilings.{ceiling}
use Rattle.paper.specs.Collisions.{Collision}
use Rattle.paper.specs.Older.{Later}
use Rattle.module.specs.declared.Answered.{Answered}
use Rattle.module.specs.declared.Replied.{Replied}
use Rattle.module.specs.Answering.{answered_with, answered_of}

-- what `answer` promises, every byte as the definitions have it (§8.2.1): of what it returns, and of the reply space afterwards
pub record Promised (s : Registers) (line space : List ℕ) (o : Answered) (after : List ℕ) : Type 0 where
  pub returned : o ≡ answered_of (answer_to sha256 s line (length space))
  pub left : after ≡ space_after (answer_to sha256 s line (length space)) space

-- §6.1.2, §8.1.4: a refusal leaves all registers as they were
abbrev pub RefusalKeeps : Type 0
RefusalKeeps = (s : Registers) (line space after : List ℕ) (o : Answered) → Promised s line space o after
    → (o.reply.refused ≡ None → ⊥) → o.registers ≡ s

-- §6.1.1, §8.1.3: a refusal is given exactly where it is the first that applies, and none comes back exactly where none does
pub record FirstGiven (cs : List Check) (o : Answered) : Type 0 where
  pub given : (Passed order cs × (o.reply.refused ≡ None)) ⊎ ((n : ℕ) × FirstToApply order cs n × (o.reply.refused ≡ Some n))
  pub refused_when : (n : ℕ) → FirstToApply order cs n → o.reply.refused ≡ Some n
  pub accepted_when : Passed order cs → o.reply.refused ≡ None

abbrev pub RefusalIsFirst : Type 0
RefusalIsFirst = (s : Registers) (line space after : List ℕ) (o : Answered) → Promised s line space o after
    → FirstGiven (checks_of sha256 s line (length space)) o

-- behind the reply's line every byte of the space is as it was
abbrev pub OnlyTheReply : Type 0
OnlyTheReply = (s : Registers) (line space after : List ℕ) (o : Answered) → Promised s line space o after
    → drop o.reply.length after ≡ drop o.reply.length space

-- the reply's line has at most 195 bytes and lies in the space, which keeps its length
abbrev pub ReplyFits : Type 0
ReplyFits = (s : Registers) (line space after : List ℕ) (o : Answered) → Promised s line space o after
    → (o.reply.length ≤ reply_room) × (o.reply.length ≤ length space) × (length after ≡ length space)

-- §8.4.2: two outcomes that the contract allows are equal
abbrev pub OneOutcome : Type 0
OneOutcome = (s : Registers) (line space after after' : List ℕ) (o o' : Answered)
    → Promised s line space o after → Promised s line space o' after' → (o ≡ o') × (after ≡ after')

-- the same where the registers lie: what they hold afterwards, what comes back, and the reply space
abbrev pub OneOutcomeHere : Type 0
OneOutcomeHere = (s t t' : Registers) (line space after after' : List ℕ) (o o' : Replied)
    → Promised s line space (answered_with t o) after → Promised s line space (answered_with t' o') after'
    → (t ≡ t') × (o ≡ o') × (after ≡ after')

-- §3.7.8: no request costs more than its ceiling
abbrev pub UnderTheCeiling : Type 0
UnderTheCeiling = (s : Registers) (line space after : List ℕ) (o : Answered) → Promised s line space o after
    → o.reply.blocks ≤ ceiling (request_of (bytes_of line))

-- §5.2.12: what was issued for a set gets 8 in any set that carries it after the counter has moved on, or two strings formed then and
-- now have one digest
abbrev pub OlderMemorandum : Type 0
OlderMemorandum = (s₀ s : Registers) (line₀ line space₀ space after : List ℕ) (o : Answered)
    → Later sha256 s₀ s line₀ line (length space₀) (length space) → Promised s line space o after
    → (o.reply.refused ≡ Some 8)
    ⊎ Collision sha256
    ((answer_to sha256 s₀ line₀ (length space₀)).formed ++ (answer_to sha256 s line (length space)).formed)

-- a module that is not open takes any secret that is not all zero
abbrev pub SecretOpens : Type 0
SecretOpens = (s : Registers) (secret space after : List ℕ) (o : Answered) → s.opened ≡ false
    → length secret ≡ 32 → Bytes secret → all_zero secret ≡ false → reply_room ≤ length space
    → Promised s (digits_of (0x10 ∷ secret)) space o after
    → (o.reply.refused ≡ None) × (o.registers ≡ unlocked s secret)

-- §8.4.3: a module that refuses everything keeps no such promise, since whatever its registers, open or not, some line is accepted
abbrev pub RefusingBreaks : Type 0
RefusingBreaks = (m : Registers → (line space : List ℕ) → Answered × List ℕ)
    → ((s : Registers) (line space : List ℕ) → Promised s line space (m s line space).0 (m s line space).1)
    → (s : Registers) → ((line space : List ℕ) → (m s line space).0.reply.refused ≡ None → ⊥) → ⊥
