-- The laws of the kinds in paper's own words: with paper's H, hash of a record, gap and lists of strings formed, for any
-- digest D of 32 bytes. (Kind 01 is `Paths.path`; kinds that speak of no record, leaf or parent are as in `TreeKinds` and
-- `RingKinds`.)
use mathlib.Core.Bool.{true, false}
use mathlib.Core.Path.{◌≡◌, refl, sym, ◌∙◌}
use mathlib.Core.List.Memᴰ
use mathlib.Core.List.{List, [], ◌∷◌, Memᴰ}
use mathlib.Core.Logic.{◌⊎◌, inl, inr}
use Prim.Native.Nat.{ℕ}
use lib.ListN.{length}
use Rattle.paper.specs.declared.Record.{Record}
use Rattle.paper.specs.Strings.{Dig, nought, Str, leaf, malformed, in_gap, record_forms, parent_forms, digest_of, record_hash, H}
use Rattle.paper.specs.Refusals.{place_forms, leaf_of, leaf_forms, change_forms}
use Rattle.rings.specs.Trees.{points, Tree, leaves, hash_of, SameLeaves}
use Rattle.rings.specs.Lists.{ListItem, OnList, Unlisted, ring}
use Rattle.rings.specs.Changes.{Step, removal}
use Rattle.rings.specs.Meanings.{◌∈◌, Within, MeansU1, MeansV1, MeansU2, hash_record, RecordKnown, StandsFor, Fault, TreeMoved, MeansEI}
use Rattle.rings.proofs.Nodes.{◌>>=◌}
use Rattle.rings.proofs.Gaps.{gap_holds_lem}
use Rattle.rings.proofs.TreeKinds as T
use Rattle.rings.proofs.RingKinds as R
use Rattle.rings.proofs.ListKinds as L
use Rattle.rings.proofs.Same as S
use Rattle.rings.proofs.Bridge.{known_by, node_in, parent_is, hash_is}

module _ (D : List ℕ → Dig) (D32 : (l : List ℕ) → length (D l) ≡ 32) (F : List Str) where
  -- the digest of strings that the theory is taken with
  abbrev digest_d : Str → Dig
  digest_d = digest_of D

  -- what demand 3 says of the tree
  pub holds_ring : {T : Tree} {ls : List (ListItem Record)} → StandsFor digest_d F T ls → SameLeaves (leaves T) (ring (record_hash D) ls)
  unfolding record_hash hash_record
  holds_ring g = g.permuted

  -- the root settles the list
  pub same_list : (T U : Tree) (l m : List (ListItem Record)) → hash_of D T ≡ hash_of D U → StandsFor digest_d F T l
      → StandsFor digest_d F U m → Fault digest_d F ⊎ (l ≡ m)
  same_list T U l m e g h = S.same_list digest_d T U l m (sym (hash_is D D32 T) ∙ e ∙ hash_is D D32 U) g h

  -- 04 pair
  pub pair : {x₁ y x₁' y' x₂ z x₂' z' : Dig} → length y ≡ 32 → length z ≡ 32 → length y' ≡ 32 → length z' ≡ 32
      → Within (parent_forms y z) F → Within (parent_forms y' z') F → MeansU1 digest_d F x₁ y x₁' y' → MeansU1 digest_d F x₂ z x₂' z'
      → MeansU2 digest_d F x₁ x₂ (H D y z) x₁' x₂' (H D y' z')
  pair {x₁} {y} {x₁'} {y'} {x₂} {z} {x₂'} {z'} hy hz hy' hz' i i' u v =
      rw (parent_is D y z hy hz, parent_is D y' z' hy' hz')
      (T.pair digest_d u v (node_in digest_d F y z hy hz i) (node_in digest_d F y' z' hy' hz' i'))

  -- 08 place, with its memorandum in either order
  pub place : {y y' : Dig} (A A' B' : ℕ) (ω : Dig) → in_gap A' A B' ≡ true → Within (place_forms A A' B' ω) F
      → MeansU2 digest_d F (digest_d (leaf A A' ω)) (digest_d (leaf A' B' nought)) y (digest_d (leaf A B' ω)) nought y'
      ⊎ MeansU2 digest_d F (digest_d (leaf A' B' nought)) (digest_d (leaf A A' ω)) y nought (digest_d (leaf A B' ω)) y'
      → MeansEI digest_d F y y' (removal A' ∷ [])
  place A A' B' ω k i u =
      let formed : R.Placed digest_d F A A' B' ω = record {
        gap = gap_holds_lem A' A B' k;
        to_it = i _ (Memᴰ.head refl);
        from_it = i _ (Memᴰ.tail (Memᴰ.tail (Memᴰ.head refl)));
        without = i _ (Memᴰ.tail (Memᴰ.head refl));
      } in
      elim u [ inl v ↦ R.place digest_d A A' B' ω formed v | inr v ↦ R.place_flipped digest_d A A' B' ω formed v ]

  -- 0b adopt: what its memorandum stands for is done, and was legal
  pub adopt : {y y' : Dig} {c : List Step} (T : Tree) (ls : List (ListItem Record)) → MeansEI digest_d F y y' c → hash_of D T ≡ y
      → StandsFor digest_d F T ls → Fault digest_d F ⊎ TreeMoved digest_d F y' c ls
  adopt T ls m e g = m.forth F (λ s i. i) T ls (sym (hash_is D D32 T) ∙ e) g

  -- a leaf's strings: the record is known and the leaf formed
  known : (A A' : ℕ) (r : Record) → malformed r ≡ false → Within (leaf_forms D A A' r) F → RecordKnown digest_d F r
  known A A' r w i = known_by digest_d F r w (λ s m. i s (Memᴰ.append_left _ m))

  formed : (A A' : ℕ) (r : Record) → Within (leaf_forms D A A' r) F → leaf_of D A A' r ∈ F
  formed A A' r i = i _ (Memᴰ.append_right (record_forms r) (Memᴰ.head refl))

  -- 0c set, 0d clear
  pub put : {y y' : Dig} (A A' : ℕ) (old new : Record) (T : Tree) (ls : List (ListItem Record)) → malformed old ≡ false
      → malformed new ≡ false → Within (change_forms D A A' old new) F
      → MeansU1 digest_d F (digest_d (leaf_of D A A' old)) y (digest_d (leaf_of D A A' new)) y' → hash_of D T ≡ y
      → StandsFor digest_d F T ls → Fault digest_d F ⊎ L.Put digest_d F y' A old new ls
  unfolding record_hash hash_record
  put A A' old new T ls w w' i u e g =
      let i₁ : Within (leaf_forms D A A' old) F = λ s m. i s (Memᴰ.append_left _ m) in
      let i₂ : Within (leaf_forms D A A' new) F = λ s m. i s (Memᴰ.append_right (leaf_forms D A A' old) m) in
      L.put digest_d A A' old new T ls (known A A' old w i₁) (known A A' new w' i₂) (formed A A' old i₁) (formed A A' new i₂) u
      (sym (hash_is D D32 T) ∙ e) g

  -- 0e ask: the item has the record, no number in the gap is listed, and the leaf is one of the ring
  abbrev pub Found : (A A' : ℕ) → Record → List (ListItem Record) → Type 0
  Found A A' r ls =
      OnList A r ls × ((q : ℕ) → in_gap q A A' ≡ true → Unlisted q ls)
      × Memᴰ (points A A' (record_hash D r)) (ring (record_hash D) ls)

  pub ask : {y : Dig} (A A' : ℕ) (r : Record) (T : Tree) (ls : List (ListItem Record)) → malformed r ≡ false
      → Within (leaf_forms D A A' r) F → MeansV1 digest_d F (digest_d (leaf_of D A A' r)) y → hash_of D T ≡ y
      → StandsFor digest_d F T ls → Fault digest_d F ⊎ Found A A' r ls
  unfolding record_hash hash_record
  ask A A' r T ls w i u e g = do
    t ← L.ask digest_d A A' r T ls (known A A' r w i) (formed A A' r i) u (sym (hash_is D D32 T) ∙ e) g
    inr (t.0, (λ q k. t.1 q (gap_holds_lem q A A' k)), t.2)

  -- 0f ask of none
  pub ask_none_lem : (T : Tree) (ls : List (ListItem Record)) → hash_of D T ≡ nought → StandsFor digest_d F T ls
      → Fault digest_d F ⊎ (ls ≡ [])
  ask_none_lem T ls e g = L.ask_none_lem digest_d T ls (sym (hash_is D D32 T) ∙ e) g
