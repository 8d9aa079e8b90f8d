-- How a run may end, beside a collision (paper's `Collision`) and a memorandum that nobody issued.
use Rattle.std.specs.Prelude.{◌≡◌, ℕ}
use mathlib.Core.List.{List, Memᴰ}
use Rattle.paper.specs.Strings.{Dig, nought, Str, digest_of}

-- §8.3.6: a string whose digest is 0, among the strings formed
pub record ZeroDigest (D : List ℕ → Dig) (formed : List Str) : Type 0 where
  pub string : Str
  pub string_formed : Memᴰ string formed
  pub zero_digest : digest_of D string ≡ nought
