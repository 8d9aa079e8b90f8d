-- What kinds 0c to 0f do, or find, where a tree stands for the list: set and clear, ask, and ask of none. (Adopt does what its
-- EI means: `InPaper`.)
use mathlib.Core.Path.{◌≡◌, refl, sym, subst, ◌∙◌}
use mathlib.Core.List.{List, [], Memᴰ}
use mathlib.Core.Logic.{◌⊎◌, inr}
use Prim.Native.Nat.{ℕ, ◌+◌, ◌<◌}
use native.Mathlib.Omega.{arith}
use Rattle.paper.specs.declared.Record.{Record}
use Rattle.paper.specs.Strings.{Dig, nought, Str, leaf}
use Rattle.rings.specs.Trees.{TreeLeaf, points, Tree, tip, one, count}
use Rattle.rings.specs.Lists.{ListItem, OnList, Unlisted, put_record, ring}
use Rattle.rings.specs.Meanings.{◌∈◌, Sibling, AllRecords, fold, PathIn, MeansU1, MeansV1, hash_of_tree, hash_record, RecordKnown, StandsFor, Fault}
use Rattle.rings.proofs.Counting.{one_self, count_nil, count_only, occurs}
use Rattle.rings.proofs.Nodes.{◌>>=◌, no_leaf, only_leaf}
use Rattle.rings.proofs.Align.{Hole, align}
use Rattle.rings.proofs.Gaps.{Gap}
use Rattle.rings.proofs.Items.{record_at, put_ascending, put_all}
use Rattle.rings.proofs.Ring.{leaf_item, gap_free}
use Rattle.rings.proofs.RingChanges.{put_ring}
use Rattle.rings.proofs.Records.{same_record}
use Rattle.rings.proofs.RingKinds.{no_items}

module _ (D : Str → Dig) where
  abbrev ring_of : List (ListItem Record) → List TreeLeaf
  ring_of ls = ring (hash_record D) ls

  abbrev leaf_of : (A B : ℕ) → Record → Str
  leaf_of A B r = leaf A B (hash_record D r)

  -- ── one place of a tree ──

  -- the leaf at the end of a path that folds it to the tree's hash is a leaf of the ring
  at_leaf_lem : {F : List Str} (p : List Sibling) (A B : ℕ) (w : Dig) (y : Dig) (T : Tree) (ls : List (ListItem Record)) → leaf A B w ∈ F
      → fold D p (D (leaf A B w)) ≡ y → PathIn D F p (D (leaf A B w)) → hash_of_tree D T ≡ y → StandsFor D F T ls
      → Fault D F
      ⊎ ((t : Hole D F p (D (leaf A B w)) T) × ((x : TreeLeaf) → count x (ring_of ls) ≡ one x (points A B w) + count x t.rest))
  at_leaf_lem p A B w y T ls m u i e g = do
    t ← align D p (D (leaf A B w)) T (u ∙ sym e) g.tree_in i
    a ← only_leaf D t.part A B w m t.part_hash t.part_in
    inr (t, λ x. omega (arith, g.permuted x, t.cut x, count_only x (points A B w) _ a))

  -- a leaf of the ring with a known record's hash stands for an item with that record
  pub leaf_record : {F : List Str} (A B : ℕ) (r : Record) (ls : List (ListItem Record)) → RecordKnown D F r
      → AllRecords (RecordKnown D F) ls → 0 < count (points A B (hash_record D r)) (ring_of ls) → Fault D F ⊎ OnList A r ls
  leaf_record {F} A B r ls o g p = do
    let t = leaf_item (hash_record D) A B (hash_record D r) ls p
    c ← same_record D t.0 r (record_at (RecordKnown D F) ls A t.0 g t.1) o t.2
    inr (subst (λ (s : Record). OnList A s ls) c t.1)

  -- ── 0c set, 0d clear: the item had the old record and has the new one ──

  pub record Put (F : List Str) (y : Dig) (A : ℕ) (old new : Record) (ls : List (ListItem Record)) : Type 0 where
    pub tree : Tree
    pub tree_hash : hash_of_tree D tree ≡ y
    pub was : OnList A old ls
    pub stands : StandsFor D F tree (put_record A new ls)

  pub put : {F : List Str} {y y' : Dig} (A B : ℕ) (old new : Record) (T : Tree) (ls : List (ListItem Record)) → RecordKnown D F old
      → RecordKnown D F new → leaf_of A B old ∈ F → leaf_of A B new ∈ F
      → MeansU1 D F (D (leaf_of A B old)) y (D (leaf_of A B new)) y' → hash_of_tree D T ≡ y → StandsFor D F T ls
      → Fault D F ⊎ Put F y' A old new ls
  put {F} {y} {y'} A B old new T ls o o' m m' u e g = do
    let w = hash_record D old
    t ← at_leaf_lem u.path A B w y T ls m u.up u.on e g
    let p : 0 < count (points A B w) (ring_of ls) = omega (arith, t.1 (points A B w), one_self (points A B w))
    q ← leaf_record A B old ls o g.known p
    let v = t.0.fill (tip (points A B (hash_record D new))) (D (leaf_of A B new)) refl m' u.on'
    let turned = put_ring (hash_record D) A B w new ls g.ascending p
    inr (record {
      tree = v.tree;
      tree_hash = v.tree_hash ∙ u.up';
      was = q;
      stands = record {
        tree_in = v.tree_in;
        ascending = put_ascending 0 A new ls g.ascending;
        known = put_all (RecordKnown D F) A new ls o' g.known;
        permuted = λ x.
            omega (arith, v.holds x, t.1 x, turned x, count_only x (points A B (hash_record D new)) _ refl);
      };
    })

  -- ── 0e ask: the item has the record, nothing is listed in its leaf's gap, and the leaf is one of the ring ──

  pub ask : {F : List Str} {y : Dig} (A B : ℕ) (r : Record) (T : Tree) (ls : List (ListItem Record)) → RecordKnown D F r → leaf_of A B r ∈ F
      → MeansV1 D F (D (leaf_of A B r)) y → hash_of_tree D T ≡ y → StandsFor D F T ls
      → Fault D F ⊎ (OnList A r ls × ((q : ℕ) → Gap A B q → Unlisted q ls) × Memᴰ (points A B (hash_record D r)) (ring_of ls))
  ask {F} {y} A B r T ls o m u e g = do
    let w = hash_record D r
    t ← at_leaf_lem u.path A B w y T ls m u.up u.on e g
    let p : 0 < count (points A B w) (ring_of ls) = omega (arith, t.1 (points A B w), one_self (points A B w))
    q ← leaf_record A B r ls o g.known p
    inr (q, (λ n k. gap_free (hash_record D) n A B w ls g.ascending k p), occurs (points A B w) (ring_of ls) p)

  -- ── 0f ask of none: nothing is listed ──

  pub ask_none_lem : {F : List Str} (T : Tree) (ls : List (ListItem Record)) → hash_of_tree D T ≡ nought → StandsFor D F T ls
      → Fault D F ⊎ (ls ≡ [])
  ask_none_lem T ls e g = do
    n ← no_leaf D T e g.tree_in
    inr (no_items D ls (λ x. sym (g.permuted x) ∙ rw n (count_nil x)))
