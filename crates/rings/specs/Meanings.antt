-- What the memoranda mean (§3.6.2 to §3.6.5). A memorandum knows digests only. What it says is so of the strings F formed so far,
-- for any digest D of strings, and stays so when more are formed.
use Rattle.std.specs.Prelude.{◌≡◌, ◌⊎◌, ◌≢◌}
use mathlib.Core.List.{List, [], ◌∷◌, Memᴰ}
use Rattle.seqs.specs.Choose.{pick}
use Rattle.seqs.specs.Bytes.{same}
use Rattle.paper.specs.declared.Record.{Record}
use Rattle.paper.specs.Strings.{Dig, nought, empty_record, blank, Memo, u1, v1, u2, ei, Str, leaf, node, entry}
use Rattle.rings.specs.Trees.{points, Tree, empty, tip, branch, leaves, SameLeaves}
use Rattle.rings.specs.Lists.{ListItem, item_with, AscendingFrom, ring}
use Rattle.rings.specs.Changes.{Step, do_steps, reversed, LegalSteps}

-- ── strings formed ──

infix 20 ◌∈◌
-- a string is among some
abbrev pub ◌∈◌ : Str → List Str → Type 0
s ∈ F = Memᴰ s F

-- all of some strings are among others
abbrev pub Within : List Str → List Str → Type 0
Within F G = (s : Str) → s ∈ F → s ∈ G

-- a level of a path: the sibling, and the side that it stands on
pub data Sibling : Type 0 where
  left_sibling : Dig → Sibling
  right_sibling : Dig → Sibling

-- P holds of every record of a list
abbrev pub AllRecords : {R : Type 0} → (R → Type 0) → List (ListItem R) → Type 0
AllRecords P [] = Unit {0}
AllRecords P (item_with a r ∷ l) = P r × AllRecords P l

module _ (D : Str → Dig) where
  -- ── digests that stand above others ──

  -- the parent of two digests: on digests of 32 bytes this is paper's H (`proofs/Bridge`)
  unfoldable pub above : Dig → Dig → Dig
  above a b = pick (same b nought) a (pick (same a nought) b (D (node a b)))

  -- the node string of a parent, where one is formed, is among F
  abbrev pub NodeIn : List Str → Dig → Dig → Type 0
  NodeIn F a b = a ≢ nought → b ≢ nought → node a b ∈ F

  -- what stands above x at the end of a path, the topmost sibling first; and the node strings of the way up are among F
  abbrev pub fold : List Sibling → Dig → Dig
  fold [] x = x
  fold (left_sibling s ∷ p) x = above s (fold p x)
  fold (right_sibling s ∷ p) x = above (fold p x) s

  abbrev pub PathIn : List Str → List Sibling → Dig → Type 0
  PathIn F [] x = Unit {0}
  PathIn F (left_sibling s ∷ p) x = PathIn F p x × NodeIn F s (fold p x)
  PathIn F (right_sibling s ∷ p) x = PathIn F p x × NodeIn F (fold p x) s

  -- two places: paths p₁ and p₂ that meet under one node, and q above it
  abbrev pub fold_two : (p₁ p₂ q : List Sibling) → Dig → Dig → Dig
  fold_two p₁ p₂ q x₁ x₂ = fold q (above (fold p₁ x₁) (fold p₂ x₂))

  abbrev pub PathsIn : List Str → (p₁ p₂ q : List Sibling) → Dig → Dig → Type 0
  PathsIn F p₁ p₂ q x₁ x₂ =
      PathIn F p₁ x₁ × PathIn F p₂ x₂ × NodeIn F (fold p₁ x₁) (fold p₂ x₂) × PathIn F q (above (fold p₁ x₁) (fold p₂ x₂))

  -- ── U1, V1 and U2 ──

  -- U1 (§3.6.2): one path leads from x to y and from x' to y'
  pub record MeansU1 (F : List Str) (x y x' y' : Dig) : Type 0 where
    pub path : List Sibling
    pub up : fold path x ≡ y
    pub up' : fold path x' ≡ y'
    pub on : PathIn F path x
    pub on' : PathIn F path x'

  -- V1 (§3.6.3): a path leads from x to y
  pub record MeansV1 (F : List Str) (x y : Dig) : Type 0 where
    pub path : List Sibling
    pub up : fold path x ≡ y
    pub on : PathIn F path x

  -- U2 (§3.6.4): two paths that meet under one node, so that neither place is in the other, and
  -- one above it, lead from x1 and x2 to y and from x1' and x2' to y'
  pub record MeansU2 (F : List Str) (x₁ x₂ y x₁' x₂' y' : Dig) : Type 0 where
    pub p₁ : List Sibling
    pub p₂ : List Sibling
    pub q : List Sibling
    pub up : fold_two p₁ p₂ q x₁ x₂ ≡ y
    pub up' : fold_two p₁ p₂ q x₁' x₂' ≡ y'
    pub on : PathsIn F p₁ p₂ q x₁ x₂
    pub on' : PathsIn F p₁ p₂ q x₁' x₂'

  -- ── a tree that stands for a list ──

  -- a tree's hash, and its strings are among F
  abbrev pub hash_of_tree : Tree → Dig
  hash_of_tree empty = nought
  hash_of_tree (tip (points a b w)) = D (leaf a b w)
  hash_of_tree (branch l r) = above (hash_of_tree l) (hash_of_tree r)

  abbrev pub TreeIn : List Str → Tree → Type 0
  TreeIn F empty = Unit {0}
  TreeIn F (tip (points a b w)) = leaf a b w ∈ F
  TreeIn F (branch l r) = TreeIn F l × TreeIn F r × NodeIn F (hash_of_tree l) (hash_of_tree r)

  -- the hash of a record: this is paper's `record_hash` (`proofs/Bridge`)
  unfoldable pub hash_record : Record → Dig
  hash_record r = pick (blank r) nought (D (entry r))

  -- a record is known: it is the empty one, or its string is among F. Without that, a hash of 0 would not say that it is empty
  pub data RecordKnown (F : List Str) (r : Record) : Type 0 where
    known_empty : r ≡ empty_record → RecordKnown F r
    known_recorded : r.revision.0 ≢ 0 → entry r ∈ F → RecordKnown F r

  -- the tree's strings and those of the records are formed, and the tree's leaves are the ring of the list in some order
  pub record StandsFor (F : List Str) (T : Tree) (ls : List (ListItem Record)) : Type 0 where
    pub tree_in : TreeIn F T
    pub ascending : AscendingFrom 0 ls
    pub known : AllRecords (RecordKnown F) ls
    pub permuted : SameLeaves (leaves T) (ring hash_record ls)

  -- ── EI ──

  -- what one can show: two different strings with one digest, or a string whose digest is 0
  pub data Fault (F : List Str) : Type 0 where
    collides : (s t : Str) → s ∈ F → t ∈ F → s ≢ t → D s ≡ D t → Fault F
    vanishes : (s : Str) → s ∈ F → D s ≡ nought → Fault F

  -- a tree of hash y that stands for the list after the steps c, each of which was legal
  pub record TreeMoved (F : List Str) (y : Dig) (c : List Step) (ls : List (ListItem Record)) : Type 0 where
    pub tree : Tree
    pub tree_hash : hash_of_tree tree ≡ y
    pub legal : LegalSteps c ls
    pub stands : StandsFor F tree (do_steps c ls)

  -- the steps c lead from y to y': wherever a tree of hash y stands for a list, the list after them has a tree of hash y', or a
  -- fault can be shown
  abbrev pub StepsLead : List Str → (y y' : Dig) → List Step → Type 0
  StepsLead F y y' c =
      (G : List Str) → Within F G → (T : Tree) (ls : List (ListItem Record)) → hash_of_tree T ≡ y → StandsFor G T ls
      → Fault G ⊎ TreeMoved G y' c ls

  -- EI (§3.6.5): the steps c lead from any tree of hash y to one of hash y', and back
  pub record MeansEI (F : List Str) (y y' : Dig) (c : List Step) : Type 0 where
    pub forth : StepsLead F y y' c
    pub back : StepsLead F y' y (reversed c)

  -- ── what a memorandum says is so, an EI standing for the steps c ──

  abbrev pub MemoMeans : List Str → Memo → (c : List Step) → Type 0
  MemoMeans F (u1 x y x' y') c = MeansU1 F x y x' y'
  MemoMeans F (v1 x y) c = MeansV1 F x y
  MemoMeans F (u2 x1 x2 y x1' x2' y') c = MeansU2 F x1 x2 y x1' x2' y'
  MemoMeans F (ei y y') c = MeansEI F y y' c
