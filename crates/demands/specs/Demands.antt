-- What is promised, on one page: the three demands of docs/PROTOCOL.md, section 8, clause by clause. `proofs/Demands` shows all three.
-- They speak of ANY function that meets the contract of `module::answer` or of `module::answer_here`, whatever its code: of what it was
-- given and what came back. The contract is `Promised`; the words in it are the paper's, as the crate `paper` defines them. What
-- follows besides is in `Beyond`: one can believe the demands without reading it.
use Rattle.std.specs.Prelude.{◌≡◌, true, None, Some, List, [], ◌∷◌, ◌++◌, ◌⊎◌, ℕ, ◌+◌, ◌<◌, length, get_or, drop}
use Rattle.hexadecimal.specs.Hex.{bytes_of, line_of}
use Rattle.sha256.specs.Hash.{sha256}
use Rattle.paper.specs.declared.Registers.{Registers}
use Rattle.paper.specs.Strings.{Dig, cost}
use Rattle.paper.specs.Requests.{kind_of}
use Rattle.paper.specs.Refusals.{reply_room, top}
use Rattle.paper.specs.Module.{unopened, answer_to, reply_line}
use Rattle.lines.specs.Laws.{ReadIsFirst, WriteIsFirst}
use Rattle.lines.specs.RoundTrip.{WrittenReads, ReadWrites, OneLine}
use Rattle.module.specs.declared.Answered.{Answered}
use Rattle.module.specs.Laws.{Promised, RefusalIsFirst, RefusalKeeps, OnlyTheReply, ReplyFits, SecretOpens, RefusingBreaks}
use Rattle.runs.specs.Run.{LineTurn, after}
use Rattle.runs.specs.Endings.{Ending}
use Rattle.runs.specs.Safety.{question_in, TreeStands}
use Rattle.runs.specs.Liveness.{TrueReply, LiveAt}

-- ── what the demands are of ──

-- A call: the line, the bytes of the reply space before it, what came back, and the bytes of the space after it.
pub record Call : Type 0 where
  pub line : List ℕ
  pub space : List ℕ
  pub came : Answered
  pub left : List ℕ

-- the registers behind some calls on a module that nobody had opened, the latest call first
abbrev pub registers_behind_calls : (secret : Dig) → List Call → Registers
registers_behind_calls k [] = unopened k
registers_behind_calls k (c ∷ cs) = c.came.registers

-- each call was given the registers that the one before it left, and meets the contract
abbrev pub Kept : (secret : Dig) → List Call → Type 0
Kept k [] = Unit {0}
Kept k (c ∷ cs) = Promised (registers_behind_calls k cs) c.line c.space c.came c.left × Kept k cs

-- the lines of some calls, each with the length of its space
abbrev pub turns_of_calls : List Call → List LineTurn
turns_of_calls [] = []
turns_of_calls (c ∷ cs) = record { line = c.line; space = length c.space } ∷ turns_of_calls cs

-- ── the first demand ──

-- §8.1.1, one reply for any line: the space then begins with one line, of some bytes in hexadecimal, with its 0A; or,
-- where it has less than 195 bytes, 15 comes back and nothing was written
abbrev pub OneReply : Type 0
OneReply = (s : Registers) (line space after : List ℕ) (o : Answered) → Promised s line space o after
    → ((o.reply.refused ≡ Some 15) × (length space < reply_room) × (after ≡ space))
    ⊎ ((says : List ℕ) × (after ≡ line_of says ++ drop o.reply.length space) × (o.reply.length ≡ length (line_of says)))

pub record FirstDemand : Type 0 where
  pub one_reply : OneReply
  -- §8.1.3: a refusal is given exactly where it is the first that applies
  pub first_to_apply : RefusalIsFirst
  -- of the line's reader and the frame's writer alike, in their order
  pub reading : ReadIsFirst
  pub writing : WriteIsFirst
  -- §8.1.4: a refusal changes no register, and nothing is written but the reply
  pub refusal_keeps : RefusalKeeps
  pub only_the_reply : OnlyTheReply
  pub reply_fits : ReplyFits
  -- and it does not refuse everything, open or not
  pub opens : SecretOpens
  pub not_all_refused : RefusingBreaks

-- ── the second demand ──

-- §8.2.1: reply, new root, memorandum and count are those of the definitions, `answer_to` at SHA-256
abbrev pub AsDefined : Type 0
AsDefined = (s : Registers) (line space after : List ℕ) (o : Answered) → Promised s line space o after
    → (let t = answer_to sha256 s line (length space) in
    (o.registers ≡ t.after) × (after ≡ reply_line t ++ drop (length (reply_line t)) space) × (o.reply.blocks ≡ cost t.formed))

pub record SecondDemand : Type 0 where
  pub as_defined : AsDefined
  -- §8.2.2: lines and frames round-trip
  pub one_line : OneLine
  pub written_reads : WrittenReads
  pub read_writes : ReadWrites

-- ── the third demand ──

-- a line that asks: kind 0e or 0f
abbrev pub IsQuestion : (line : List ℕ) → Type 0
IsQuestion line = (kind_of (bytes_of line) ≡ 0x0e) ⊎ (kind_of (bytes_of line) ≡ 0x0f)

-- §8.3.4, of a call behind others: where a question was accepted, the reply space begins with the line of an answer to that kind of
-- question, and it is true of the number asked and of the list as it was then
abbrev pub AnsweredTrue : (secret : Dig) (c : Call) (before : List Call) → Type 0
AnsweredTrue k c cs =
    c.came.reply.refused ≡ None → IsQuestion c.line → (says : List ℕ) × (c.left ≡ line_of says ++ drop (length (line_of says)) c.space)
    × (get_or says 0 0 ≡ 0x80 + kind_of (bytes_of c.line))
    × TrueReply sha256 (question_in (bytes_of c.line)) (after sha256 k (turns_of_calls cs)).items says

abbrev pub AllAnsweredTrue : (secret : Dig) → List Call → Type 0
AllAnsweredTrue k [] = Unit {0}
AllAnsweredTrue k (c ∷ cs) = AnsweredTrue k c cs × AllAnsweredTrue k cs

-- §8.3.1 to §8.3.7: after any lines from an unopened module, until something one can show
pub record HoldsAfter (k : Dig) (cs : List Call) : Type 0 where
  -- the registers are those of the run of these lines
  pub registers : registers_behind_calls k cs ≡ (after sha256 k (turns_of_calls cs)).registers
  -- their root is that of a tree that holds just the replayed list, their counter counts the record changes, and every answer was true
  pub safe : Ending sha256 k (turns_of_calls cs) ⊎ (TreeStands sha256 (after sha256 k (turns_of_calls cs)) × AllAnsweredTrue k cs)
  -- §8.3.8: while open and below the top, every legal wish has honest lines
  pub live : (registers_behind_calls k cs).opened ≡ true → (registers_behind_calls k cs).counter.0 < top
      → Ending sha256 k (turns_of_calls cs) ⊎ LiveAt sha256 (after sha256 k (turns_of_calls cs))

pub record ThirdDemand : Type 0 where
  -- every line has an answer that meets the contract, so what follows is of something
  pub some_answer : (s : Registers) (line space : List ℕ) → (o : Answered) × (left : List ℕ) × Promised s line space o left
  -- any calls that each meet it
  pub any_calls : (k : Dig) (cs : List Call) → Kept k cs → HoldsAfter k cs

-- ── all three ──
pub record Demands : Type 0 where
  pub demand_1 : FirstDemand
  pub demand_2 : SecondDemand
  pub demand_3 : ThirdDemand
