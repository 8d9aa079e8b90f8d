-- What kinds 06 to 0a do to the meanings of memoranda: swap, first, place, turn and chain say which roots stand for equally
-- good rings, and which steps lead from the list of one to the list of the other.
use mathlib.Core.Path.{◌≡◌, refl, sym, ap, subst, ◌∙◌}
use mathlib.Core.List.Memᴰ
use mathlib.Core.List.{List, [], ◌∷◌, ◌++◌}
use mathlib.Core.Logic.{◌⊎◌, inr}
use Prim.Native.Nat.{ℕ, ◌+◌, ◌<◌}
use native.Mathlib.Omega.{arith}
use Rattle.paper.specs.declared.Record.{Record}
use Rattle.paper.specs.Strings.{Dig, nought, empty_record, Str, leaf}
use Rattle.rings.specs.Trees.{TreeLeaf, points, Tree, empty, tip, one, count}
use Rattle.rings.specs.Lists.{ListItem, item_with, AscendingFrom, OnList, insert, chain_of, ring}
use Rattle.rings.specs.Changes.{Step, insertion, removal, do_steps, reversed}
use Rattle.rings.specs.Meanings.{◌∈◌, Within, AllRecords, MeansU2, hash_of_tree, TreeIn, hash_record, RecordKnown, known_empty, Fault, StepsLead, MeansEI}
use Rattle.rings.proofs.Counting.{one_self, count_nil, count_cons, count_only, count_single}
use Rattle.rings.proofs.Nodes.{◌>>=◌, no_leaf, only_leaf}
use Rattle.rings.proofs.Align.{Two, align_two, paths_more}
use Rattle.rings.proofs.Gaps.{Gap, gap_positive, gap_apart}
use Rattle.rings.proofs.Items.{record_at, insert_ascending, insert_all, remove_head, remove_ascending, remove_all}
use Rattle.rings.proofs.Ring.{leaf_item, gap_free}
use Rattle.rings.proofs.Find.{item_leaf}
use Rattle.rings.proofs.RingChanges.{remove_ring, insert_ring}
use Rattle.rings.proofs.Steps.{steps_append, legal_append, reversed_append, reversed_reversed}
use Rattle.rings.proofs.Records.{hash_empty, no_record_lem}

module _ (D : Str → Dig) where
  abbrev ring_of : List (ListItem Record) → List TreeLeaf
  ring_of ls = ring (hash_record D) ls

  -- ── two places of every tree with the hash, by a U2 ──

  abbrev TwoPlaces : List Str → (x₁ x₂ y x₁' x₂' y' : Dig) → Type 0
  TwoPlaces F x₁ x₂ y x₁' x₂' y' =
      (G : List Str) → Within F G → (T : Tree) → hash_of_tree D T ≡ y → TreeIn D G T → Fault D G ⊎ Two D G x₁ x₂ x₁' x₂' y' T

  two_places_lem : {F : List Str} {x₁ x₂ y x₁' x₂' y' : Dig} → MeansU2 D F x₁ x₂ y x₁' x₂' y' → TwoPlaces F x₁ x₂ y x₁' x₂' y'
  two_places_lem {F} {x₁} {x₂} {y} {x₁'} {x₂'} {y'} u G s T e i =
      rw (← u.up')
      (align_two D u.p₁ u.p₂ u.q x₁ x₂ x₁' x₂' T (u.up ∙ sym e) i
      (paths_more D u.p₁ u.p₂ u.q x₁ x₂ s u.on) (paths_more D u.p₁ u.p₂ u.q x₁' x₂' s u.on'))

  u2_back : {F : List Str} {x₁ x₂ y x₁' x₂' y' : Dig} → MeansU2 D F x₁ x₂ y x₁' x₂' y' → MeansU2 D F x₁' x₂' y' x₁ x₂ y
  u2_back u = record { p₁ = u.p₁; p₂ = u.p₂; q = u.q; up = u.up'; up' = u.up; on = u.on'; on' = u.on }

  two_flip : {F : List Str} {x₁ x₂ y x₁' x₂' y' : Dig} → TwoPlaces F x₁ x₂ y x₁' x₂' y' → TwoPlaces F x₂ x₁ y x₂' x₁' y'
  two_flip f G s T e i = do
    t ← f G s T e i
    inr (record {
      part₁ = t.part₂;
      part₂ = t.part₁;
      hash₁ = t.hash₂;
      hash₂ = t.hash₁;
      in₁ = t.in₂;
      in₂ = t.in₁;
      rest = t.rest;
      cut = λ z. omega (arith, t.cut z);
      fill = λ Y₁ Y₂ e₁ e₂ j₁ j₂.
          let u = t.fill Y₂ Y₁ e₂ e₁ j₂ j₁ in
          record { tree = u.tree; tree_hash = u.tree_hash; tree_in = u.tree_in; holds = λ z. omega (arith, u.holds z) };
    })

  -- ── 06 swap ──

  swap_leads : {F : List Str} {x₁ x₂ y y' : Dig} → TwoPlaces F x₁ x₂ y x₂ x₁ y' → StepsLead D F y y' []
  swap_leads f G s T ls e g = do
    t ← f G s T e g.tree_in
    let u = t.fill t.part₂ t.part₁ t.hash₂ t.hash₁ t.in₂ t.in₁
    inr (record {
      tree = u.tree;
      tree_hash = u.tree_hash;
      legal = tt;
      stands = record {
        tree_in = u.tree_in;
        ascending = g.ascending;
        known = g.known;
        permuted = λ x. omega (arith, u.holds x, t.cut x, g.permuted x);
      };
    })

  pub swap : {F : List Str} {x₁ x₂ y y' : Dig} → MeansU2 D F x₁ x₂ y x₂ x₁ y' → MeansEI D F y y' []
  swap u = record { forth = swap_leads (two_places_lem u); back = swap_leads (two_places_lem (u2_back u)) }

  -- ── 09 turn, 0a chain ──

  pub turn : {F : List Str} {y y' : Dig} {c : List Step} → MeansEI D F y y' c → MeansEI D F y' y (reversed c)
  turn {F} {y} {y'} {c} u =
      record { forth = u.back; back = subst (StepsLead D F y y') (sym (reversed_reversed c)) u.forth }

  one_then_other : {F : List Str} {x y z : Dig} (c d : List Step) → StepsLead D F x y c → StepsLead D F y z d → StepsLead D F x z (c ++ d)
  one_then_other c d f k G s T ls e g = do
    m ← f G s T ls e g
    n ← k G s m.tree (do_steps c ls) m.tree_hash m.stands
    inr (record {
      tree = n.tree;
      tree_hash = n.tree_hash;
      legal = legal_append c d ls m.legal n.legal;
      stands = rw (steps_append c d ls) n.stands;
    })

  pub chain : {F : List Str} {x y z : Dig} {c d : List Step} → MeansEI D F x y c → MeansEI D F y z d → MeansEI D F x z (c ++ d)
  chain {F} {x} {y} {z} {c} {d} u v =
      record {
        forth = one_then_other c d u.forth v.forth;
        back =
            subst (StepsLead D F z x) (sym (reversed_append c d)) (one_then_other (reversed d) (reversed c) v.back u.back);
      }

  -- ── 07 first ──

  -- a ring without leaves is that of the empty list
  pub no_items : (ls : List (ListItem Record)) → ((x : TreeLeaf) → count x (ring_of ls) ≡ 0) → ls ≡ []
  no_items [] f = refl
  no_items (item_with a r ∷ l) f =
      let i = item_leaf (hash_record D) a r (item_with a r ∷ l) (Memᴰ.head refl) in
      absurd (omega (arith, f (points a i.0 (hash_record D r)), i.1))

  -- a ring of one leaf, of hash 0, is that of one empty item
  one_item : {F : List Str} (A : ℕ) (ls : List (ListItem Record)) → AscendingFrom 0 ls → AllRecords (RecordKnown D F) ls
      → ((x : TreeLeaf) → count x (ring_of ls) ≡ count x (points A A nought ∷ [])) → Fault D F ⊎ (ls ≡ item_with A empty_record ∷ [])
  one_item A [] g k f =
      let x = points A A nought in
      absurd (omega (arith, f x, count_nil x, count_cons x x [], one_self x))
  one_item A (item_with a r ∷ []) g k f =
      let x = points a a (hash_record D r) in
      let e = count_single x (points A A nought) (omega (arith, f x, count_cons x x [], one_self x)) in
      let p : a ≡ A = cc in
      let q : hash_record D r ≡ nought = cc in
      do
        t ← no_record_lem D r k.0 q
        inr (cc)
  one_item A (item_with a r ∷ item_with b s ∷ l) g k f =
      let x = points a b (hash_record D r) in
      let on = count_cons x x (chain_of (hash_record D) b s l a) in
      let e = count_single x (points A A nought) (omega (arith, f x, on, one_self x)) in
      let p : a ≡ b = cc in
      absurd (omega (arith, g.1.0))

  first_forth : {F : List Str} (A : ℕ) → 0 < A → leaf A A nought ∈ F → StepsLead D F nought (D (leaf A A nought)) (insertion A ∷ [])
  unfolding insert
  first_forth A h m G s T ls e g = do
    n ← no_leaf D T e g.tree_in
    let p : ls ≡ [] = no_items ls (λ x. sym (g.permuted x) ∙ rw n (count_nil x))
    inr (rw p (record {
      tree = tip (points A A nought);
      tree_hash = refl;
      legal = ((h, tt), tt);
      stands = record {
        tree_in = s (leaf A A nought) m;
        ascending = (h, tt);
        known = (known_empty refl, tt);
        permuted = λ x. rw hash_empty refl;
      };
    }))

  first_back : {F : List Str} (A : ℕ) → 0 < A → leaf A A nought ∈ F → StepsLead D F (D (leaf A A nought)) nought (removal A ∷ [])
  first_back A h m G s T ls e g = do
    n ← only_leaf D T A A nought (s (leaf A A nought) m) e g.tree_in
    p ← one_item A ls g.ascending g.known (λ x. sym (g.permuted x) ∙ ap (count x) n)
    inr (rw p (record {
      tree = empty;
      tree_hash = refl;
      legal = (Memᴰ.head refl, tt);
      stands = rw remove_head (record { tree_in = tt; ascending = tt; known = tt; permuted = λ x. refl });
    }))

  pub first : {F : List Str} (A : ℕ) → 0 < A → leaf A A nought ∈ F → MeansEI D F nought (D (leaf A A nought)) (insertion A ∷ [])
  first A h m = record { forth = first_forth A h m; back = first_back A h m }

  -- ── 08 place: forth it removes the empty item q between A and B, back it inserts it ──

  -- the leaves (A, q, w), (q, B, 0) and (A, B, w) are formed, and q lies in the gap of A and B
  pub record Placed (F : List Str) (A q B : ℕ) (w : Dig) : Type 0 where
    pub gap : Gap A B q
    pub to_it : leaf A q w ∈ F
    pub from_it : leaf q B nought ∈ F
    pub without : leaf A B w ∈ F

  place_forth : {F : List Str} {y y' : Dig} (A q B : ℕ) (w : Dig) → Placed F A q B w
      → TwoPlaces F (D (leaf A q w)) (D (leaf q B nought)) y (D (leaf A B w)) nought y' → StepsLead D F y y' (removal q ∷ [])
  place_forth A q B w k f G s T ls e g = do
    t ← f G s T e g.tree_in
    a ← only_leaf D t.part₁ A q w (s _ k.to_it) t.hash₁ t.in₁
    b ← only_leaf D t.part₂ q B nought (s _ k.from_it) t.hash₂ t.in₂
    let u = t.fill (tip (points A B w)) empty refl refl (s _ k.without) tt
    let x₁ = points A q w
    let x₂ = points q B nought
    let cut : (x : TreeLeaf) → count x (ring_of ls) ≡ one x x₁ + one x x₂ + count x t.rest =
        λ x. omega (arith, g.permuted x, t.cut x, count_only x x₁ _ a, count_only x x₂ _ b)
    let p₁ : 0 < count x₁ (ring_of ls) = omega (arith, cut x₁, one_self x₁)
    let p₂ : 0 < count x₂ (ring_of ls) = omega (arith, cut x₂, one_self x₂)
    let held = leaf_item (hash_record D) q B nought ls p₂
    c ← no_record_lem D held.0 (record_at (RecordKnown D G) ls q held.0 g.known held.1) held.2
    let removed = remove_ring (hash_record D) q A B w nought ls g.ascending (gap_apart k.gap) p₁ p₂
    inr (record {
      tree = u.tree;
      tree_hash = u.tree_hash;
      legal = (subst (λ (r : Record). OnList q r ls) c held.1, tt);
      stands = record {
        tree_in = u.tree_in;
        ascending = remove_ascending 0 q ls g.ascending;
        known = remove_all (RecordKnown D G) q ls g.known;
        permuted = λ x.
            omega (arith, u.holds x, cut x, removed x, count_only x (points A B w) _ refl, count_nil x);
      };
    })

  place_back : {F : List Str} {y y' : Dig} (A q B : ℕ) (w : Dig) → Placed F A q B w
      → TwoPlaces F (D (leaf A B w)) nought y' (D (leaf A q w)) (D (leaf q B nought)) y → StepsLead D F y' y (insertion q ∷ [])
  place_back A q B w k f G s T ls e g = do
    t ← f G s T e g.tree_in
    a ← only_leaf D t.part₁ A B w (s _ k.without) t.hash₁ t.in₁
    b ← no_leaf D t.part₂ t.hash₂ t.in₂
    let u = t.fill (tip (points A q w)) (tip (points q B nought)) refl refl (s _ k.to_it) (s _ k.from_it)
    let x₁ = points A q w
    let x₂ = points q B nought
    let x₁' = points A B w
    let cut : (x : TreeLeaf) → count x (ring_of ls) ≡ one x x₁' + count x t.rest =
        λ x. omega (arith, g.permuted x, t.cut x, count_only x x₁' _ a, ap (count x) b, count_nil x)
    let p : 0 < count x₁' (ring_of ls) = omega (arith, cut x₁', one_self x₁')
    let free = gap_free (hash_record D) q A B w ls g.ascending k.gap p
    let positive = gap_positive k.gap
    let fresh : (x : TreeLeaf) → one x (points q B (hash_record D empty_record)) ≡ one x x₂ = λ x. rw hash_empty refl
    let inserted = insert_ring (hash_record D) q A B w empty_record ls g.ascending k.gap p
    inr (record {
      tree = u.tree;
      tree_hash = u.tree_hash;
      legal = ((positive, free), tt);
      stands = record {
        tree_in = u.tree_in;
        ascending = insert_ascending 0 q empty_record ls positive free g.ascending;
        known = insert_all (RecordKnown D G) q empty_record ls (known_empty refl) g.known;
        permuted = λ x.
            omega (arith, u.holds x, cut x, inserted x, fresh x, count_only x x₁ _ refl, count_only x x₂ _ refl);
      };
    })

  -- the first order (§5.2.7)
  pub place : {F : List Str} {y y' : Dig} (A q B : ℕ) (w : Dig) → Placed F A q B w
      → MeansU2 D F (D (leaf A q w)) (D (leaf q B nought)) y (D (leaf A B w)) nought y' → MeansEI D F y y' (removal q ∷ [])
  place A q B w k u =
      record { forth = place_forth A q B w k (two_places_lem u); back = place_back A q B w k (two_places_lem (u2_back u)) }

  -- the second order
  pub place_flipped : {F : List Str} {y y' : Dig} (A q B : ℕ) (w : Dig) → Placed F A q B w
      → MeansU2 D F (D (leaf q B nought)) (D (leaf A q w)) y nought (D (leaf A B w)) y' → MeansEI D F y y' (removal q ∷ [])
  place_flipped A q B w k u =
      record {
        forth = place_forth A q B w k (two_flip (two_places_lem u));
        back = place_back A q B w k (two_flip (two_places_lem (u2_back u)));
      }
