-- A request's checks as they are made one after the other, and what they come to. That a row of the table, walked check by check,
-- is the paper's verdict on the request is the law `answered` (`proofs/Steps`): one for every kind.
use Rattle.std.specs.Prelude.{Bool, ℕ, ◌+◌, ◌%◌, ◌^◌, List, [], ◌∷◌, Result, Ok, Err}
use Rattle.seqs.specs.Choose.{pick}
use Rattle.sha256.specs.Hash.{sha256}
use Rattle.paper.specs.declared.Refusal.{Refusal}
use Rattle.paper.specs.declared.Registers.{Registers}
use Rattle.paper.specs.Numbers.{refusal_number}
use Rattle.paper.specs.Strings.{cost}
use Rattle.paper.specs.Requests.{Request}
use Rattle.paper.specs.Refusals.{Check, needs}
use Rattle.paper.specs.Answers.{AnswerParts, answer}
use Rattle.replies.specs.declared.Outcome.{Outcome}
use Rattle.replies.specs.Outcomes.{refusal, acceptance}
use Rattle.checks.specs.declared.Desk.{Desk}

-- ── one step ──

-- no check made
abbrev pub begun : Registers → Desk
begun s = record { registers = s; blocks = 0 }

-- so many blocks more
abbrev pub blocks_more : Desk → ℕ → Desk
blocks_more d n = record { registers = d.registers; blocks = (d.blocks + n) % 2 ^ 64 }

-- a check that holds, or is the refusal
abbrev pub held : {E : Type 0} → Bool → E → Result Unit E
held b e = pick b (Ok tt) (Err e)

-- ── a row of the table ──

-- what a kind's function comes to: its refusal, or what it lists
abbrev pub outcome_at : (kind : ℕ) → Result (List ℕ) Refusal → Desk → Outcome
outcome_at kind (Ok l) d = acceptance d.registers (0x80 + kind) l d.blocks
outcome_at kind (Err e) d = refusal d.registers (refusal_number e) d.blocks

-- some checks and the answer behind them, so many blocks having been worked: the first check that fails refuses
abbrev pub walk : Registers → (kind : ℕ) → AnswerParts → (blocks : ℕ) → List Check → Outcome
walk s kind a n [] = acceptance a.after (0x80 + kind) a.lists (n + cost a.forms)
walk s kind a n (c ∷ cs) = pick c.fails (refusal s c.number (n + cost c.forms)) (walk s kind a (n + cost c.forms) cs)

-- the row of a request
abbrev pub row : Registers → (kind : ℕ) → Request → Outcome
row s kind q = walk s kind (answer sha256 s q) 0 (needs sha256 s q)
