-- Two strings with one digest, as a thing that one can show: handed over where a law cannot do without, and assumed
-- away nowhere (§8.3.5, §9.3.5).
use Rattle.std.specs.Prelude.{◌≡◌, ℕ}
use mathlib.Core.List.{List, Memᴰ}
use Rattle.paper.specs.Strings.{Dig, Str, enc, digest_of}

-- both are among the strings formed, and they differ as bytes
pub record Collision (D : List ℕ → Dig) (formed : List Str) : Type 0 where
  pub one : Str
  pub other : Str
  pub one_formed : Memᴰ one formed
  pub other_formed : Memᴰ other formed
  pub differ : enc one ≡ enc other → ⊥
  pub agree : digest_of D one ≡ digest_of D other
