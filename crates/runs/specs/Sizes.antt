-- What fits lines (§3.1.1, §3.4.3), said of numbers, of records and of all that is listed; and masses that are not silly (§3.4.4).
use Rattle.std.specs.Prelude.{◌≡◌, false, ℕ, ◌≤◌, ◌<◌, ◌^◌}
use Rattle.paper.specs.declared.Record.{Record}
use Rattle.paper.specs.declared.Values.{Values}
use Rattle.paper.specs.Strings.{malformed, heaviest}
use Rattle.rings.specs.Lists.{OnList}
use Rattle.runs.specs.Run.{Items}

-- a number of 8 bytes
abbrev pub InEightBytes : ℕ → Type 0
InEightBytes n = n < 2 ^ 64

abbrev pub ValuesFit : Values → Type 0
ValuesFit v = InEightBytes v.mass.0 × InEightBytes v.offset.0 × InEightBytes v.rigging.0

abbrev pub RecordFits : Record → Type 0
RecordFits r = InEightBytes r.revision.0 × InEightBytes r.mass.0 × InEightBytes r.offset.0 × InEightBytes r.rigging.0

-- a mass in kilograms that a set may give
abbrev pub SensibleMass : ℕ → Type 0
SensibleMass n = (1 ≤ n) × (n ≤ heaviest)

-- an item: its number and its record's four, and the record is not malformed
pub record ItemFits (A : ℕ) (r : Record) : Type 0 where
  pub number_fits : InEightBytes A
  pub record_fits : RecordFits r
  pub well_formed : malformed r ≡ false

-- every listed one
abbrev pub ItemsFit : Items → Type 0
ItemsFit l = (A : ℕ) (r : Record) → OnList A r l → ItemFits A r
