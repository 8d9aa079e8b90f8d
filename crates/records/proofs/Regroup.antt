-- Fields one behind the other, however they were put together.
use mathlib.Core.Path.{◌≡◌}
use mathlib.Core.List.{List, [], ◌++◌, append_assoc}
use Prim.Native.Nat.{ℕ}

-- put one by one behind what stands there: a tag, or nothing
pub behind2 : (p a b : List ℕ) → ((p ++ a) ++ b) ++ [] ≡ p ++ (a ++ (b ++ []))
behind2 p a b = simp append_assoc

pub behind3 : (p a b c : List ℕ) → (((p ++ a) ++ b) ++ c) ++ [] ≡ p ++ (a ++ (b ++ (c ++ [])))
behind3 p a b c = simp append_assoc
