-- The nodes of the tablet's tree as bytes, in the order of a heap: node 1 is the root, node v stands over 2 v and 2 v + 1, and
-- node v's digest lies at byte 32 v. All of it total, for any digest D.
use Rattle.std.specs.Prelude.{List, [], ◌∷◌, ℕ, zero, suc, ◌+◌, ◌-◌, ◌*◌, ◌/◌, ◌%◌, eqb, ltb}
use Rattle.seqs.specs.Choose.{pick}
use Rattle.seqs.specs.Bytes.{digest_at}
use Rattle.seqs.specs.Over.{put_at}
use Rattle.paper.specs.Strings.{Dig, H, up}

-- so many slots, under so many levels: slot i is node slot_count + i
abbrev pub slot_count : ℕ
slot_count = 1024

abbrev pub level_count : ℕ
level_count = 10

-- the node so many levels above v
abbrev pub ancestor : (levels v : ℕ) → ℕ
ancestor zero v = v
ancestor (suc n) v = ancestor n (v / 2)

-- how many levels stand below the two halves of the lowest node above both u and v, looked for n levels up
abbrev pub meeting : (n u v : ℕ) → ℕ
meeting zero u v = 0
meeting (suc n) u v = pick (eqb (u / 2) (v / 2)) 0 (suc (meeting n (u / 2) (v / 2)))

-- node v's digest; another one put there, where it fits
unfoldable pub node_at : List ℕ → (v : ℕ) → Dig
node_at m v = digest_at m (32 * v)

unfoldable pub put_node : List ℕ → (v : ℕ) → Dig → List ℕ
put_node m v d = put_at m (32 * v) d

-- the digest beside node v: an odd one stands on the right
unfoldable pub sibling_at : List ℕ → (v : ℕ) → Dig
sibling_at m v = pick (eqb (v % 2) 1) (node_at m (v - 1)) (node_at m (v + 1))

-- the siblings so many levels up from v, lowest first, as a path carries them. Its sides are the bits of v
abbrev pub siblings_up : List ℕ → (levels v : ℕ) → List Dig
siblings_up m zero v = []
siblings_up m (suc n) v = sibling_at m v ∷ siblings_up m n (v / 2)

-- put one behind the other
abbrev pub siblings_put : List ℕ → (levels v at : ℕ) → List ℕ → List ℕ
siblings_put m zero v at d = d
siblings_put m (suc n) v at d = siblings_put m n (v / 2) (at + 32) (put_at d at (sibling_at m v))

module _ (D : List ℕ → Dig) where
  -- what node v's digest must be by those below it
  unfoldable pub summed : List ℕ → (v : ℕ) → Dig
  summed m v = H D (node_at m (2 * v)) (node_at m (2 * v + 1))

  -- so many nodes above v worked anew, the lowest first
  abbrev pub rehashed : (levels v : ℕ) → List ℕ → List ℕ
  rehashed zero v m = m
  rehashed (suc n) v m = rehashed n (v / 2) (put_node m (v / 2) (summed m (v / 2)))

  -- a leaf's digest in a slot, and every node above it worked anew
  unfoldable pub leaf_put : List ℕ → (slot : ℕ) → Dig → List ℕ
  leaf_put m i d = pick (ltb i slot_count) (rehashed level_count (slot_count + i) (put_node m (slot_count + i) d)) m

  -- the digest so many levels above v, were v's own x
  abbrev pub climbed : List ℕ → (levels v : ℕ) → Dig → Dig
  climbed m zero v x = x
  climbed m (suc n) v x = climbed m n (v / 2) (up D x (sibling_at m v) (v % 2))
