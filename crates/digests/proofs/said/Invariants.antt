-- After i turns the tag and the first i digests stand over the front of the array.
use mathlib.Core.Path.{◌≡◌}
use mathlib.Core.List.{List, ◌∷◌}
use Prim.Native.Nat.{ℕ, ◌+◌, ◌*◌}
use lib.ListN.{length, take, replicate}
use Rattle.seqs.specs.Over.{Front}
use Rattle.paper.specs.Strings.{Dig, digs, spread}
use Rattle.digests.proofs.said.Given as goal

abbrev pub Standing : (tag : ℕ) (parts : List Dig) (bytes : List ℕ) (i : ℕ) → Type 0
Standing tag parts bytes i = Front (tag ∷ replicate 286 0) bytes (tag ∷ spread (digs (take i parts))) (1 + 32 * i)

abbrev pub invariant-loop-i : goal.invariant-loop-i
invariant-loop-i l = (length l.bytes ≡ 287) × Standing l.tag l.parts l.bytes l.i
