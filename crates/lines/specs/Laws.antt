-- What follows from the contracts of `read_line`, `write_frame` and `frame_refusal` alone, as statements: each refusal is the first
-- of the paper's order that applies, and two outcomes are equal. `proofs/Follows` and `proofs/Single` show them.
use Rattle.std.specs.Prelude.{◌≡◌, List, ◌⊎◌, ℕ, ◌+◌, ◌*◌, length, Option, Result}
use Rattle.hexadecimal.specs.Hex.{bytes_of}
use Rattle.paper.specs.Requests.{kind_of}
use Rattle.paper.specs.Refusals.{Check, Passed, FirstToApply}
use Rattle.paper.specs.Module.{line_order, read_checks, write_checks}
use Rattle.paper.specs.declared.Refusal.{Refusal}
use Rattle.lines.specs.declared.Frame as Declared
use Rattle.lines.specs.Reading.{Frame, Refused, Line, Rejected, read_told, read_of, frame_after, wrote_told, wrote_of, line_after, number_or_zero}

-- what `read_line` promises: of what it returns, and of the frame space afterwards
pub record ReadPromised (line space : List ℕ) (r : Result Declared.Frame Refusal) (after : List ℕ) : Type 0 where
  pub returned : read_told r ≡ read_of line (length space)
  pub left : after ≡ frame_after (read_told r) line space

-- what `write_frame` promises: of what it returns, and of the line space afterwards
pub record WritePromised (frame space : List ℕ) (r : Result ℕ Refusal) (after : List ℕ) : Type 0 where
  pub returned : wrote_told r ≡ wrote_of frame (length space)
  pub left : after ≡ line_after (wrote_told r) frame space

-- An answer is the accepting one exactly when none of 1, 2, 3 and 15 applies, and else the refusal by the first of them,
-- in this order, that applies.
pub record FirstOfFour {A : Type 0} (accepts : A) (refuses : ℕ → A) (cs : List Check) (r : A) : Type 0 where
  pub given : (Passed line_order cs × (r ≡ accepts)) ⊎ ((n : ℕ) × FirstToApply line_order cs n × (r ≡ refuses n))
  pub refused_when : (n : ℕ) → FirstToApply line_order cs n → r ≡ refuses n
  pub accepted_when : Passed line_order cs → r ≡ accepts

-- §4.2.1: reading refuses by the first of 1, 2, 3 and 15
abbrev pub ReadIsFirst : Type 0
ReadIsFirst = (line space after : List ℕ) (r : Result Declared.Frame Refusal) → ReadPromised line space r after
    → FirstOfFour (Frame (kind_of (bytes_of line)) (length (bytes_of line))) (λ n. Refused n) (read_checks line (length space)) (read_told r)

-- §4.3.1: writing refuses by the first of 1, 2, 3 and 15
abbrev pub WriteIsFirst : Type 0
WriteIsFirst = (frame space after : List ℕ) (r : Result ℕ Refusal) → WritePromised frame space r after
    → FirstOfFour (Line (2 * length frame + 1)) (λ n. Rejected n) (write_checks frame (length space)) (wrote_told r)

-- §8.4.2: two outcomes that the contract of `read_line` allows are equal: what comes back, and the frame space
abbrev pub OneReading : Type 0
OneReading = (line space after after' : List ℕ) (r r' : Result Declared.Frame Refusal)
    → ReadPromised line space r after → ReadPromised line space r' after' → (r ≡ r') × (after ≡ after')

-- the same of `write_frame`
abbrev pub OneWriting : Type 0
OneWriting = (frame space after after' : List ℕ) (r r' : Result ℕ Refusal)
    → WritePromised frame space r after → WritePromised frame space r' after' → (r ≡ r') × (after ≡ after')

-- and of `frame_refusal`: one number of one refusal, or of none
abbrev pub OneRefusal : Type 0
OneRefusal = (o o' : Option Refusal) → number_or_zero o ≡ number_or_zero o' → o ≡ o'
