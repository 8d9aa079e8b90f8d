-- A reply's bytes over zero bytes, in an array with their number.
use Rattle.std.specs.Prelude.{◌≡◌, List, ◌++◌, ℕ, ◌≤◌, length, take, drop, replicate}
use Rattle.std.proofs.Common.{ap, ◌∙◌}
use Rattle.replies.specs.declared.Reply.TheInside.{Inside}

-- the most bytes of a reply: its first, and the three digests that the longest answer lists
abbrev pub room : ℕ
room = 97

-- bytes over zero bytes
abbrev pub over_zeros : List ℕ → Inside
over_zeros l = record { bytes = l ++ drop (length l) (replicate room 0); length = length l }

-- the array holds the reply's bytes, and zeros behind them
pub record Within (r : Inside) : Type 0 where
  pub long : length (take r.length r.bytes) ≡ r.length
  pub short : r.length ≤ room
  pub filled : take r.length r.bytes ++ drop r.length (replicate room 0) ≡ r.bytes

pub over_zeros_again : (r : Inside) → Within r → over_zeros (take r.length r.bytes) ≡ r
over_zeros_again r h i =
    record {
      bytes =
          (ap (λ (n : ℕ). take r.length r.bytes ++ drop n (replicate room 0)) h.long ∙ h.filled) i;
      length = h.long i;
    }
