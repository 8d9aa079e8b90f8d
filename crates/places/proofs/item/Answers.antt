-- The number at the place.
use mathlib.Core.Path.{◌∙◌}
use Prim.Native.Nat.{◌+◌, ◌*◌}
use Rattle.places.proofs.Places.{number_there}
use borrow.Author.Rules.{rules}
use Rattle.places.proofs.item.Goals as goal

pub returns : goal.returns
returns c = let a = c.args in c.number_at.ensures ∙ number_there a.f.now (1 + 8 * a.i)
