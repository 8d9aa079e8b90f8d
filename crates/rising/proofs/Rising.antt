-- In memory that keeps a tree, what changes above one leaf or two is what rises up their ways, and a path made of memory is the path up
-- the way.
use mathlib.Core.Path.{◌≡◌, refl, sym, ap, ap₂, subst, ◌∙◌}
use mathlib.Core.List.{List}
use Prim.Native.Nat.{ℕ, zero, suc, ◌+◌, ◌-◌, ◌*◌, ◌/◌, ◌%◌, ◌^◌, ◌<◌, ◌≤◌}
use native.Mathlib.Omega.{arith}
use Rattle.paper.specs.Strings.{Dig, H}
use Rattle.paper.specs.Requests.{path}
use Rattle.paper.specs.declared.Registers.{Registers}
use Rattle.rings.specs.Trees.{Tree, hash_of}
use Rattle.runs.specs.Ways as W
use Rattle.runs.specs.Ways.{Way, rise, risen, parents, risen_two, sides_of, siblings_of}
use Rattle.runs.specs.Honest.{path_up}
use Rattle.slots.specs.Nodes.{ancestor, meeting, node_at, climbed, summed, siblings_up}
use Rattle.groves.specs.Grove.{way_up, fork_at, Kept}
use Rattle.groves.proofs.Groves.{OnLevel, level_up, slot_level, kept_node, siblings_are, climbs, sides_are, rises}
use Rattle.groves.proofs.Forks.{halves_of}
use Rattle.edits.specs.declared.Edit.{Edit}
use Rattle.edits.specs.declared.Change.{Change}
use Rattle.edits.specs.Changes.{risen_at, forked_at, one_place, two_places}
use Rattle.edits.proofs.Places.{one_is, two_is}
use Rattle.rising.specs.Rising.{as_edit}

-- so many levels above a node
pub level_above : (n b v : ℕ) → OnLevel (b + n) v → OnLevel b (ancestor n v)
level_above zero b v r = subst (λ (a : ℕ). OnLevel a v) (omega arith) r
level_above (suc n) b v r =
    let e : b + suc n ≡ suc (b + n) = omega arith in
    level_above n b (v / 2) (level_up (b + n) v (subst (λ (a : ℕ). OnLevel a v) e r))

-- a node below the root is some node, and one above a slot is none of the slots
some : (n v : ℕ) → ancestor n v ≡ 1 → 0 < v
some zero v e = omega arith
some (suc n) v e = let h = some n (v / 2) e in omega arith

no_higher : (n v : ℕ) → ancestor n v ≤ v
no_higher zero v = omega arith
no_higher (suc n) v = let h = no_higher n (v / 2) in omega arith

below_slots : (n i : ℕ) → i < 1024 → ancestor (suc n) (1024 + i) < 1024
below_slots n i h = let g = no_higher n ((1024 + i) / 2) in omega arith

-- an edit by its two digests
edit_is : {e d : W.Edit} → e.was ≡ d.was → e.becomes ≡ d.becomes → e ≡ d
edit_is p q = λ i. record { was = p i; becomes = q i }

module _ (D : List ℕ → Dig) (f : ℕ → Tree) (m : List ℕ) (k : Kept D f m) where
  -- n levels up from v, which has h below it and b + n above
  pub rises_in : (n h b v : ℕ) (x : Dig) → h + (b + n) ≡ 10 → OnLevel (b + n) v
      → as_edit (risen_at D m v n x) ≡ risen D (way_up f n h v) (record { was = node_at m v; becomes = x })
  unfolding risen_at
  rises_in n h b v x e r =
      edit_is
      (kept_node D f m k (n + h) b (ancestor n v) (omega arith) (level_above n b v r) ∙ sym (rises f D n h v)
      ∙ ap (rise D (way_up f n h v)) (sym (kept_node D f m k h (b + n) v e r)))
      (climbs D f m k n h b v x e r)

  -- the path up the same way, as memory has it
  pub path_in : (s : Registers) (n h b v : ℕ) (e : Edit) → h + (b + n) ≡ 10 → OnLevel (b + n) v
      → path e.was e.becomes (v % 2 ^ n) (siblings_up m n v) ≡ path_up D s (way_up f n h v) (as_edit e)
  path_in s n h b v e l r =
      ap₂ (path e.was e.becomes) (sym (sides_are f n h v)) (siblings_are D f m k n h b v l r)

  -- a node by its halves
  node_sums : (u v n : ℕ) → ancestor n u ≡ 2 * ancestor (suc n) u → ancestor n v ≡ 2 * ancestor (suc n) u + 1
      → 0 < ancestor (suc n) u → ancestor (suc n) u < 1024
      → node_at m (ancestor (suc n) u) ≡ H D (node_at m (ancestor n u)) (node_at m (ancestor n v))
  unfolding summed
  node_sums u v n l r pos small =
      k.above (ancestor (suc n) u) pos small ∙ ap₂ (λ (a b : ℕ). H D (node_at m a) (node_at m b)) (sym l) (sym r)

  -- ── one slot ──

  pub record OneRisen (i : ℕ) (x : Dig) (c : Change) : Type 0 where
    pub leaf : as_edit c.a ≡ record { was = hash_of D (f (1024 + i)); becomes = x }
    pub root : as_edit c.root ≡ risen D (way_up f 10 0 (1024 + i)) (as_edit c.a)

  pub one_risen : (i : ℕ) (x : Dig) → i < 1024 → OneRisen i x (one_place D m i x)
  unfolding risen_at
  one_risen i x h =
      subst (OneRisen i x) (one_is D m i x h) (record {
        leaf = edit_is (k.slots i h) refl;
        root = rises_in 10 0 0 (1024 + i) x refl (slot_level i h);
      })

  -- ── two slots ──

  pub record TwoRisen (i j : ℕ) (x w : Dig) (c : Change) : Type 0 where
    pub left_leaf : as_edit c.a ≡ record { was = hash_of D (f (1024 + i)); becomes = x }
    pub right_leaf : as_edit c.b ≡ record { was = hash_of D (f (1024 + j)); becomes = w }
    pub left_half : as_edit c.y ≡ risen D (fork_at f (1024 + i) (1024 + j)).left (as_edit c.a)
    pub right_half : as_edit c.z ≡ risen D (fork_at f (1024 + i) (1024 + j)).right (as_edit c.b)
    pub node : as_edit c.node ≡ parents D (as_edit c.y) (as_edit c.z)
    pub root : as_edit c.root ≡ risen D (fork_at f (1024 + i) (1024 + j)).above (as_edit c.node)

  pub two_risen : (i j : ℕ) (x w : Dig) → i < j → j < 1024 → TwoRisen i j x w (two_places D m i j x w)
  unfolding risen_at forked_at
  two_risen i j x w less room =
      let u = 1024 + i in
      let v = 1024 + j in
      let hi : i < 1024 = omega arith in
      let ru = slot_level i hi in
      let rv = slot_level j room in
      let q = halves_of u v ru rv (omega arith) in
      let n = meeting 9 u v in
      let low = q.parted.low in
      let top = ancestor (suc n) u in
      let d = H D (climbed D m n u x) (climbed D m n v w) in
      let level-at : (n : ℕ) (a : ℕ) → n ≤ 9 → OnLevel 10 a → OnLevel (10 - n + n) a =
      λ n a h r. subst (λ (b : ℕ). OnLevel b a) (omega arith) r in
      let up-level : OnLevel (9 - n) top =
      level_above (suc n) (9 - n) u (subst (λ (b : ℕ). OnLevel b u) (omega arith) ru) in
      let up-level0 : OnLevel (0 + (9 - n)) top = subst (λ (b : ℕ). OnLevel b top) (omega arith) up-level in
      subst (TwoRisen i j x w) (two_is D m i j x w hi room) (record {
        left_leaf = edit_is (k.slots i hi) refl;
        right_leaf = edit_is (k.slots j room) refl;
        left_half = rises_in n 0 (10 - n) u x (omega arith) (level-at n u low ru);
        right_half = rises_in n 0 (10 - n) v w (omega arith) (level-at n v low rv);
        node = edit_is (node_sums u v n q.left_half q.right_half (some (9 - n) top q.to_root) (below_slots n i hi)) refl;
        root = rises_in (9 - n) (suc n) 0 top d (omega arith) up-level0;
      })
