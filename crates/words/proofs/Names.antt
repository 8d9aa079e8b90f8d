-- std's comparison of two slices is the byte by byte one.
use Rattle.std.proofs.Common.{◌≡◌, refl, ℕ, List, [], ◌∷◌, nat_eq}
use lib.Pointwise.{pointwise}
use Rattle.seqs.specs.Bytes.{same}

pub is_same : (l m : List ℕ) → pointwise nat_eq l m ≡ same l m
is_same [] [] = refl
is_same [] (b ∷ m) = refl
is_same (a ∷ l) [] = refl
is_same (a ∷ l) (b ∷ m) = rw (is_same l m)
