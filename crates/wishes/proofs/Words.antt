-- Where no more is said to be held than there are slots, all of it is.
use mathlib.Core.Path.{◌≡◌}
use Prim.Native.Nat.{ℕ, ◌≤◌}
use borrow.Author.Tests.{le-ltb}
use Rattle.wishes.specs.Words.{held_of}

pub held_all : (k : ℕ) → k ≤ 1024 → held_of k ≡ k
unfolding held_of
held_all k h = rw (le-ltb 1024 k h)
