-- One turn of each loop over the levels.
use mathlib.Core.Path.{◌≡◌, refl}
use Prim.Native.Nat.{ℕ, suc, ◌+◌, ◌-◌, ◌/◌, ◌<◌}
use native.Mathlib.Omega.{arith}
use borrow.Author.Tests.{eq-eqb, ne_eqb}
use mathlib.Core.Logic.{◌≢◌}
use Rattle.slots.specs.Nodes.{ancestor, meeting}

left : (n i : ℕ) → i < n → n - i ≡ suc (n - (i + 1))
left n i h = omega arith

pub ancestor_next : (n i u : ℕ) → i < n → ancestor (n - i) u ≡ ancestor (n - (i + 1)) (u / 2)
ancestor_next n i u h = rw (left n i h) refl

pub meeting_here : (n i u v : ℕ) → i < n → u / 2 ≡ v / 2 → meeting (n - i) u v ≡ 0
meeting_here n i u v h e = rw (left n i h, eq-eqb (u / 2) (v / 2) e) refl

pub meeting_next : (n i u v : ℕ) → i < n → u / 2 ≢ v / 2 → meeting (n - i) u v ≡ suc (meeting (n - (i + 1)) (u / 2) (v / 2))
meeting_next n i u v h e = rw (left n i h, ne_eqb (u / 2) (v / 2) e) refl
