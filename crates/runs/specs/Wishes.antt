-- What one may want of the list, and what of it is legal (docs/PROTOCOL.md, 7.3).
use Rattle.std.specs.Prelude.{◌≡◌, false, ◌≢◌, ℕ, ◌<◌}
use Rattle.paper.specs.declared.Record.{Record}
use Rattle.paper.specs.declared.Values.{Values}
use Rattle.paper.specs.Strings.{empty_record, blank}
use Rattle.rings.specs.Lists.{OnList, Unlisted}
use Rattle.runs.specs.Run.{Items}
use Rattle.runs.specs.Sizes.{InEightBytes, ValuesFit, SensibleMass}

pub data Wish : Type 0 where
  insert_item : (A : ℕ) → Wish
  remove_item : (A : ℕ) → Wish
  swap_places : (A B : ℕ) → Wish
  set_record : (A : ℕ) (v : Values) → Wish
  clear_record : (A : ℕ) → Wish
  ask_about : (q : ℕ) → Wish

abbrev pub IsListed : (A : ℕ) → Items → Type 0
IsListed A l = (r : Record) × OnList A r l

-- §7.3.1 to §7.3.6, row by row
abbrev pub LegalWish : Items → Wish → Type 0
LegalWish l (insert_item A) = (0 < A) × InEightBytes A × Unlisted A l
LegalWish l (remove_item A) = OnList A empty_record l
LegalWish l (swap_places A B) = (A ≢ B) × IsListed A l × IsListed B l
LegalWish l (set_record A v) = IsListed A l × ValuesFit v × SensibleMass v.mass.0
LegalWish l (clear_record A) = (r : Record) × OnList A r l × (blank r ≡ false)
LegalWish l (ask_about q) = (0 < q) × InEightBytes q
