-- Bytes over zero bytes, in an array with their number.
use Rattle.std.specs.Prelude.{◌≡◌, List, ◌++◌, ℕ, ◌≤◌, length, take, drop, replicate}
use Rattle.std.proofs.Common.{ap, ◌∙◌}
use Rattle.buffers.specs.declared.Buffer.TheInside.{Inside}

-- bytes over the front of so many zero bytes
abbrev pub over_zeros : (room : ℕ) → List ℕ → Inside room
over_zeros room l = record { bytes = l ++ drop (length l) (replicate room 0); len = length l }

-- the array holds the bytes, and zeros behind them
pub record Within (room : ℕ) (b : Inside room) : Type 0 where
  pub long : length (take b.len b.bytes) ≡ b.len
  pub short : b.len ≤ room
  pub filled : take b.len b.bytes ++ drop b.len (replicate room 0) ≡ b.bytes

pub over_zeros_again : (room : ℕ) (b : Inside room) → Within room b → over_zeros room (take b.len b.bytes) ≡ b
over_zeros_again room b h i =
    record {
      bytes =
          (ap (λ (n : ℕ). take b.len b.bytes ++ drop n (replicate room 0)) h.long ∙ h.filled) i;
      len = h.long i;
    }
