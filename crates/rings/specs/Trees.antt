-- The trees that roots stand for, their leaves and their hashes (§8.3.1, §8.4.4).
use Rattle.std.specs.Prelude.{◌≡◌, ℕ, ◌+◌}
use mathlib.Core.List.{List, [], ◌∷◌, ◌++◌, List-discrete}
use Rattle.std.proofs.Math.Decide.{ℕ_discrete}
use Rattle.paper.specs.Strings.{Dig, nought, leaf, digest_of, H}

-- a leaf: an item, the next item round the ring, the hash of the item's record
pub data TreeLeaf : Type 0 where
  points : (A A' : ℕ) (ω : Dig) → TreeLeaf
  deriving Discrete as TreeLeaf-by-fields

-- nothing, one leaf, or two trees under a node
pub data Tree : Type 0 where
  empty : Tree
  tip : TreeLeaf → Tree
  branch : Tree → Tree → Tree

-- its leaves, from left to right
abbrev pub leaves : Tree → List TreeLeaf
leaves empty = []
leaves (tip x) = x ∷ []
leaves (branch l r) = leaves l ++ leaves r

-- its hash, for any digest D of a string's bytes: 0, the digest of the leaf string, or the parent H of two hashes
abbrev pub hash_of : (D : List ℕ → Dig) → Tree → Dig
hash_of D empty = nought
hash_of D (tip (points A A' ω)) = digest_of D (leaf A A' ω)
hash_of D (branch l r) = H D (hash_of D l) (hash_of D r)

-- ── how often a leaf occurs ──

pub TreeLeaf-discrete : Discrete TreeLeaf
TreeLeaf-discrete = TreeLeaf-by-fields ℕ_discrete (List-discrete ℕ_discrete)

abbrev pub tick : {P : Type 0} → Dec P → ℕ
tick (yes p) = 1
tick (no n) = 0

-- 1 where they are the same leaf, else 0
unfoldable pub one : TreeLeaf → TreeLeaf → ℕ
one x y = tick (TreeLeaf-discrete x y)

unfoldable pub count : TreeLeaf → List TreeLeaf → ℕ
count x [] = 0
count x (y ∷ l) = one x y + count x l

-- the same leaves in some order: each occurs equally often in both
abbrev pub SameLeaves : List TreeLeaf → List TreeLeaf → Type 0
SameLeaves l m = (x : TreeLeaf) → count x l ≡ count x m
