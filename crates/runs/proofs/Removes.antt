-- Remove, honestly: the only item by first, turned round; else by place, with the item's leaf and the one that leads to it.
use mathlib.Core.Path.{◌≡◌, refl, sym, ap, ap₂, subst, ◌∙◌}
use mathlib.Core.Bool.{Bool, true, false}
use mathlib.Core.List.Memᴰ
use mathlib.Core.List.{List, [], ◌∷◌}
use mathlib.Core.Logic.{inl, inr, ◌≢◌}
use Prim.Native.Nat.{ℕ, ◌+◌, ◌≤◌, ◌<◌}
use native.Mathlib.Decide.{dec_lt}
use native.Mathlib.Omega.{arith}
use borrow.Author.Tests.{eq-eqb, eqb-true}
use lib.ListN.{length}
use Rattle.seqs.specs.Choose.{pick}
use Rattle.seqs.specs.Bytes.{all_zero}
use Rattle.paper.specs.declared.Record.{Record}
use Rattle.paper.specs.declared.Registers.{Registers}
use Rattle.paper.specs.Strings.{Dig, nought, empty_record, leaf, node, digest_of, in_gap, record_hash, H}
use Rattle.paper.specs.Requests as Q
use Rattle.paper.specs.Answers.{rooted}
use Rattle.rings.specs.Trees.{TreeLeaf, points, Tree, empty, tip, branch, leaves, hash_of, one, count}
use Rattle.rings.specs.Lists.{ListItem, item_with, OnList, remove, ring}
use Rattle.rings.specs.Changes.{insertion, removal}
use Rattle.rings.proofs.Counting.{one_self, one_same, count_nil, count_cons, count_append, count_only}
use Rattle.rings.proofs.Gaps.{gap_tells, gap_apart}
use Rattle.rings.proofs.Find.{Near, near}
use Rattle.rings.proofs.Bridge.{zero_is_nought}
use Rattle.runs.specs.Run.{Items, World}
use Rattle.runs.specs.Ways.{item_of, next_of, hash_in, is_of, leads_to, has, found, fork_of}
use Rattle.runs.specs.TreesAfter.{tree_without}
use Rattle.runs.specs.Honest.{turned_round, turn_round, relinked, gone, without, placed, alone, remove_lines}
use Rattle.runs.proofs.Parts.{IsDigest}
use Rattle.runs.proofs.Climbs.{record_digest, tree_digest}
use Rattle.runs.proofs.Places.{Forks, forked, regrown_two}
use Rattle.runs.proofs.RingLeaves.{one_of_item, one_to_item}
use Rattle.runs.proofs.Fed.{Brings, brings_also}
use Rattle.runs.proofs.Adopts.{turn_last, adopt_last, alone_is, first_line, without_is, place_lines}
use Rattle.runs.proofs.Asks.{none_hash}
use Rattle.runs.proofs.Standing.{Ground, leaf_digest, above_zero, once, spot_by, spotted}
use Rattle.runs.proofs.Moves.{feet}

-- ── a tree of one leaf ──

module _ (D : List ℕ → Dig) where
  beside_nought : (u v : Dig) → v ≡ nought → H D u v ≡ u
  unfolding H
  beside_nought u v e = rw e refl

  -- 0 on the left, and something on the right
  behind_nought : (u v : Dig) → u ≡ nought → length v ≡ 32 → H D u v ≡ v
  unfolding H
  behind_nought u v e h = by_test (all_zero v) refl
    where
      by_test : (b : Bool) → all_zero v ≡ b → pick b u (pick (all_zero u) v (digest_of D (node u v))) ≡ v
      by_test true f = e ∙ sym (zero_is_nought v h f)
      by_test false f = rw e refl

  one_hash : (T : Tree) (y : TreeLeaf) → ((t : Tree) → length (hash_of D t) ≡ 32) → ((x : TreeLeaf) → count x (leaves T) ≡ one x y)
      → hash_of D T ≡ hash_of D (tip y)
  one_hash empty y wide f = absurd (omega (arith, f y, count_nil y, one_self y))
  one_hash (tip z) y wide f =
      ap (λ (x : TreeLeaf). hash_of D (tip x)) (one_same z y (omega (arith, f z, count_cons z z [], one_self z)))
  one_hash (branch l r) y wide f = by_side (dec_lt 0 (count y (leaves l))) (one_hash l y wide) (one_hash r y wide)
    where
      sum : (x : TreeLeaf) → count x (leaves l) + count x (leaves r) ≡ one x y
      sum x = sym (count_append x (leaves l) (leaves r)) ∙ f x

      -- a half that does not have y has no leaf
      none_in : (t : Tree) → count y (leaves t) ≡ 0 → ((x : TreeLeaf) → count x (leaves t) ≤ one x y) → (x : TreeLeaf)
          → count x (leaves t) ≡ 0
      none_in t z most x = elim (dec_lt 0 (one x y)) [ yes h ↦ rw (one_same x y h) z | no h ↦ omega (arith, most x) ]

      by_side : Dec (0 < count y (leaves l)) → (((x : TreeLeaf) → count x (leaves l) ≡ one x y) → hash_of D l ≡ hash_of D (tip y))
          → (((x : TreeLeaf) → count x (leaves r) ≡ one x y) → hash_of D r ≡ hash_of D (tip y))
          → H D (hash_of D l) (hash_of D r) ≡ hash_of D (tip y)
      by_side (yes h) u v =
          let z = none_in r (omega (arith, sum y, one_self y)) (λ x. omega (arith, sum x)) in
          beside_nought (hash_of D l) (hash_of D r) (none_hash D r z) ∙ u (λ x. omega (arith, sum x, z x))
      by_side (no h) u v =
          let z = none_in l (omega arith) (λ x. omega (arith, sum x)) in
          behind_nought (hash_of D l) (hash_of D r) (none_hash D l z) (wide r) ∙ v (λ x. omega (arith, sum x, z x))

  pub no_record_hash : record_hash D empty_record ≡ nought
  unfolding record_hash
  no_record_hash = refl

module _ {D : List ℕ → Dig} {w : World} {T : Tree} (g : Ground D w T) where
  abbrev s : Registers
  s = w.registers

  abbrev DD : (l : List ℕ) → IsDigest (D l)
  DD = g.ready.digests

  -- ── the only item ──

  remove_only : (A a : ℕ) (r : Record) → OnList A empty_record w.items → w.items ≡ item_with a r ∷ []
      → Brings D w (remove_lines D s A T (item_with a r ∷ [])) (rooted s nought) (remove A w.items) w.changed
  remove_only A a r m e =
      let y = points A A nought in
      let only : (x : TreeLeaf) → count x (leaves T) ≡ one x y =
      λ x. g.holds x ∙ ap (λ (l : Items). count x (ring (record_hash D) l)) e ∙ single x in
      let root : (alone D s A).becomes ≡ s.root = sym (one_hash D T y (λ t. (tree_digest DD t).wide) only) ∙ g.root in
      let ha = alone_is g.ready A in
      let k = turn_last g.ready (Q.first A ∷ []) (alone D s A) (insertion A ∷ []) ha
      (first_line g.ready A (g.fits A empty_record m).number_fits (above_zero g A empty_record m)) in
      adopt_last g.ready (Q.first A ∷ turn_round D s (alone D s A) ∷ []) (turned_round (alone D s A)) (removal A ∷ [])
      (record { old = ha.new; new = ha.old }) root k
    where
      single : (x : TreeLeaf) → count x (points a a (record_hash D r) ∷ []) ≡ one x (points A A nought)
      single x =
          let p : item_with A empty_record ≡ item_with a r =
          elim (Memᴰ.cases_cons (rw e at m)) [ inl p ↦ p | inr j ↦ elim j [ ] ] in
          let q : A ≡ a = cc in
          let u : empty_record ≡ r = cc in
          let v : record_hash D r ≡ nought = ap (record_hash D) (sym u) ∙ no_record_hash D in
          count_only x (points A A nought) _ (λ i. points (sym q i) (sym q i) (v i) ∷ [])

  -- ── one of several ──

  -- the leaf x that leads to A, and A's own leaf z
  pub record Linked (A : ℕ) : Type 0 where
    pub before : has (leads_to A) T ≡ true
    pub own : has (is_of A) T ≡ true
    pub before_next : A ≡ next_of (found (leads_to A) T)
    pub own_item : A ≡ item_of (found (is_of A) T)
    pub own_empty : nought ≡ hash_in (found (is_of A) T)
    pub apart : item_of (found (leads_to A) T) ≢ A
    pub gap : in_gap A (item_of (found (leads_to A) T)) (next_of (found (is_of A) T)) ≡ true

  linked : (A : ℕ) → Near A (record_hash D empty_record) (ring (record_hash D) w.items) → Linked A
  linked A n =
      let hx = spot_by g (leads_to A) (points n.a A n.w) (eq-eqb A A refl) n.on in
      let hz = spot_by g (is_of A) (points A n.b (record_hash D empty_record)) (eq-eqb A A refl) n.next in
      let tx = spotted g (leads_to A) hx in
      let tz = spotted g (is_of A) hz in
      let x = found (leads_to A) T in
      let z = found (is_of A) T in
      let x-next : A ≡ next_of x = eqb-true A _ tx.passes in
      let z-item : A ≡ item_of z = eqb-true A _ tz.passes in
      let x-is : x ≡ points n.a A n.w =
      one_to_item (record_hash D) x _ w.items g.ascending (sym x-next) tx.in_ring n.on in
      let z-is : z ≡ points A n.b (record_hash D empty_record) =
      one_of_item (record_hash D) z _ w.items g.ascending (sym z-item) tz.in_ring n.next in
      record {
        before = hx;
        own = hz;
        before_next = x-next;
        own_item = z-item;
        own_empty = sym (ap hash_in z-is ∙ no_record_hash D);
        apart = λ e. gap_apart n.gap (sym (ap item_of x-is) ∙ e);
        gap = (λ k. in_gap A (item_of (x-is k)) (next_of (z-is k))) ∙ gap_tells n.gap;
      }

  -- where another item is listed too
  pub linked_in : (A a b : ℕ) (r t : Record) (l : Items) → OnList A empty_record w.items → w.items ≡ item_with a r ∷ item_with b t ∷ l
      → Linked A
  linked_in A a b r t l m e =
      let n = near (record_hash D) A empty_record a r b t l (rw e at g.ascending) (rw e at m) in
      linked A (rw e n)

  -- two leaves, under one fork
  pub other_leaf : (A : ℕ) → Linked A → found (leads_to A) T ≢ found (is_of A) T
  other_leaf A k e = k.apart (ap item_of e ∙ sym k.own_item)

  pub fork_of_lem : (A : ℕ) (k : Linked A) → Forks (fork_of (leads_to A) (is_of A) T) (found (leads_to A) T) (found (is_of A) T) T
  fork_of_lem A k = forked (leads_to A) (is_of A) T k.before k.own (other_leaf A k)

  remove_between : (A : ℕ) → OnList A empty_record w.items → Linked A → (i j : ListItem Record) (l : Items)
      → Brings D w (remove_lines D s A T (i ∷ j ∷ l)) (rooted s (hash_of D (tree_without D A T (i ∷ j ∷ l)))) (remove A w.items)
      w.changed
  remove_between A m k i j l =
      let x = found (leads_to A) T in
      let z = found (is_of A) T in
      let tx = spotted g (leads_to A) k.before in
      let tz = spotted g (is_of A) k.own in
      let B = item_of x in
      let B' = next_of z in
      let ω = hash_in x in
      let hω = subst IsDigest tx.hash_is (record_digest DD tx.held) in
      let f = fork_of (leads_to A) (is_of A) T in
      let y = without D s f B A B' ω in
      let x-was : digest_of D (leaf B A ω) ≡ hash_of D (tip x) =
      ap (λ (n : ℕ). digest_of D (leaf B n ω)) k.before_next ∙ leaf_digest D x in
      let z-was : digest_of D (leaf A B' nought) ≡ hash_of D (tip z) =
      ap₂ (λ (n : ℕ) (v : Dig). digest_of D (leaf n B' v)) k.own_item k.own_empty ∙ leaf_digest D z in
      let root : y.was ≡ s.root =
      feet g (λ u. u.was) f (relinked D s B A B' ω) (gone D s A B') (tip x) (tip z) x-was z-was
      ∙ ap (hash_of D) (fork_of_lem A k) ∙ g.root in
      let X = tip (points B B' ω) in
      let shrunk : y.becomes ≡ hash_of D (tree_without D A T (i ∷ j ∷ l)) =
      feet g (λ u. u.becomes) f (relinked D s B A B' ω) (gone D s A B') X empty refl refl
      ∙ ap (hash_of D)
      (sym (regrown_two x X z empty (other_leaf A k) f T (fork_of_lem A k) (once g x) (once g z))) in
      let h = place_lines g.ready f B A B' ω (g.fits B tx.held tx.listed).number_fits
      (g.fits A empty_record m).number_fits tz.next_fits hω (above_zero g B tx.held tx.listed)
      (above_zero g A empty_record m) tz.next_positive k.gap in
      brings_also D refl (ap (rooted s) shrunk) refl
      (adopt_last g.ready (placed D s f B A B' ω) y (removal A ∷ []) (without_is g.ready f B A B' ω) root h)

  pub remove_brings : (A : ℕ) → OnList A empty_record w.items
      → Brings D w (remove_lines D s A T w.items) (rooted s (hash_of D (tree_without D A T w.items))) (remove A w.items)
      w.changed
  remove_brings A m = by_items w.items refl
    where
      by_items : (l : Items) → w.items ≡ l
          → Brings D w (remove_lines D s A T l) (rooted s (hash_of D (tree_without D A T l))) (remove A w.items) w.changed
      by_items [] e = elim (rw e at m) [ ]
      by_items (item_with a r ∷ []) e = remove_only A a r m e
      by_items (item_with a r ∷ item_with b t ∷ l) e = remove_between A m (linked_in A a b r t l m e) (item_with a r) (item_with b t) l
