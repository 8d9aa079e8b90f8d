-- Swap and insert, honestly: U2 up a fork of two leaves, the EI that follows from it (turned round to insert), and adopt.
use mathlib.Core.Path.{◌≡◌, refl, sym, ap, ap₂, subst, ◌∙◌}
use mathlib.Core.Bool.{Bool, true, false}
use mathlib.Core.List.{List, [], ◌∷◌, ◌++◌, append_assoc}
use mathlib.Core.Logic.{◌≢◌}
use Prim.Native.Nat.{ℕ, ◌<◌}
use borrow.Author.Tests.{eqb-true}
use Rattle.seqs.specs.Choose.{pick, ◌and◌}
use Rattle.paper.specs.declared.Record.{Record}
use Rattle.paper.specs.declared.Registers.{Registers}
use Rattle.paper.specs.Strings.{Dig, nought, empty_record, u2, leaf, digest_of, record_hash, H}
use Rattle.paper.specs.Requests as Q
use Rattle.paper.specs.Refusals.{none_fits}
use Rattle.paper.specs.Answers as Does
use Rattle.paper.specs.Answers.{rooted}
use Rattle.rings.specs.Trees.{points, Tree, tip, branch, hash_of}
use Rattle.rings.specs.Lists.{ListItem, item_with, Unlisted, insert}
use Rattle.rings.specs.Changes.{insertion, removal}
use Rattle.rings.proofs.Counting.{count_nil}
use Rattle.rings.proofs.Gaps.{gap_tells}
use Rattle.rings.proofs.Find.{spot}
use Rattle.runs.specs.Run.{Items, World}
use Rattle.runs.specs.Sizes.{InEightBytes}
use Rattle.runs.specs.Wishes.{IsListed}
use Rattle.runs.specs.Ways.{item_of, next_of, hash_in, is_of, gap_holds, has, found, way_to, rise, Fork, fork_of, halves, left_one, right_one, Edit, risen_two}
use Rattle.runs.specs.TreesAfter.{tree_with, tree_swapped}
use Rattle.runs.specs.Honest.{say_u2, say_ei, turned_round, note, two_places, turn_round, take_over, without, placed, alone, insert_lines, swap_lines}
use Rattle.runs.proofs.Parts.{IsDigest}
use Rattle.runs.proofs.Climbs.{record_digest, tree_digest, IsEdit, risen_two_is}
use Rattle.runs.proofs.Places.{plug_two, rise_plug, rise_two, located, Forks, forked, regrown_one, regrown_two}
use Rattle.runs.proofs.Fed.{at, note_fits, Brings, brings_also}
use Rattle.runs.proofs.Reach.{is_open_lem, note_digest, two_places_lem}
use Rattle.runs.proofs.Adopts.{heads_line, heads_behind, turn_last, adopt_last, alone_is, first_line, feet_are, without_is, place_lines}
use Rattle.runs.proofs.Asks.{none_hash}
use Rattle.runs.proofs.Standing.{Ground, leaf_digest, above_zero, once, spot_by, spotted, of_item_lem}

module _ {D : List ℕ → Dig} {w : World} {T : Tree} (g : Ground D w T) where
  abbrev s : Registers
  s = w.registers

  abbrev DD : (l : List ℕ) → IsDigest (D l)
  DD = g.ready.digests

  -- ── digests at the feet of a fork ──

  -- old ones or new ones that are the hashes of two trees rise to the hash of the tree with those two there
  pub feet : (of : Edit → Dig) (f : Fork) (a b : Edit) (X Y : Tree) → of a ≡ hash_of D X → of b ≡ hash_of D Y
      → rise D f.above (H D (rise D f.left (of (left_one f a b))) (rise D f.right (of (right_one f a b))))
      ≡ hash_of D (plug_two f (left_one f X Y) (right_one f X Y))
  feet of f a b X Y h k =
      let e = by_side f.crossed in
      ap₂ (λ (u v : Dig). rise D f.above (H D (rise D f.left u) (rise D f.right v))) e.0 e.1 ∙ rise_two D f _ _
    where
      by_side : (c : Bool) → (of (pick c b a) ≡ hash_of D (pick c Y X)) × (of (pick c a b) ≡ hash_of D (pick c X Y))
      by_side true = (k, h)
      by_side false = (h, k)

  -- ── swap ──

  -- what U2 says is what swap asks for
  swap_fits : (c : Bool) (e y : Edit)
      → (let a = pick c (turned_round e) e in
      let b = pick c e (turned_round e) in
      none_fits D s.secret (u2 a.was b.was y.was b.was a.was y.becomes ∷ []) (note D s (say_u2 a b y)) ≡ false)
  swap_fits true e y = note_fits D s.secret _ []
  swap_fits false e y = note_fits D s.secret _ []

  -- two items have two leaves, under one fork
  pub two_items : (A B : ℕ) → A ≢ B → IsListed A w.items → IsListed B w.items
      → (found (is_of A) T ≢ found (is_of B) T) × Forks (fork_of (is_of A) (is_of B) T) (found (is_of A) T) (found (is_of B) T) T
  two_items A B apart m n =
      let hx = of_item_lem g A m.0 m.1 in
      let hz = of_item_lem g B n.0 n.1 in
      let A-is = eqb-true A _ (spotted g (is_of A) hx).passes in
      let B-is = eqb-true B _ (spotted g (is_of B) hz).passes in
      let other : found (is_of A) T ≢ found (is_of B) T = λ e. apart (A-is ∙ ap item_of e ∙ sym B-is) in
      (other, forked (is_of A) (is_of B) T hx hz other)

  pub swap_brings : (A B : ℕ) → A ≢ B → IsListed A w.items → IsListed B w.items
      → Brings D w (swap_lines D s A B T) (rooted s (hash_of D (tree_swapped D A B T))) w.items w.changed
  swap_brings A B apart m n =
      let x = found (is_of A) T in
      let z = found (is_of B) T in
      let two = two_items A B apart m n in
      let f = fork_of (is_of A) (is_of B) T in
      let e : Edit = record { was = hash_of D (tip x); becomes = hash_of D (tip z) } in
      let he : IsEdit e = record { old = tree_digest DD (tip x); new = tree_digest DD (tip z) } in
      let a = left_one f e (turned_round e) in
      let b = right_one f e (turned_round e) in
      let h = feet_are g.ready f e (turned_round e) he (record { old = he.new; new = he.old }) in
      let y = risen_two D f a b in
      let hy = risen_two_is DD f a b h.0 h.1 in
      let was-root : y.was ≡ s.root =
      feet (λ u. u.was) f e (turned_round e) (tip x) (tip z) refl refl ∙ ap (hash_of D) two.1 ∙ g.root in
      let becomes-root : y.becomes ≡ hash_of D (tree_swapped D A B T) =
      feet (λ u. u.becomes) f e (turned_round e) (tip z) (tip x) refl refl
      ∙ ap (hash_of D) (sym (regrown_two x (tip z) z (tip x) two.0 f T two.1 (once g x) (once g z))) in
      let t = say_u2 a b y in
      let q = Q.swap a.was b.was y.was y.becomes (note D s t) in
      let u = two_places_lem g.ready w.formed w.book f a b h.0 h.1 in
      let k = heads_behind D u.leads
      (heads_line D (at w u.formed u.book) q [] [] (say_ei y) Does.nothing
      (h.0.old and h.1.old and hy.old and hy.new and note_digest g.ready t and tt)
      (is_open_lem g.ready, (swap_fits f.crossed e y, tt)) (u.got, tt) refl) in
      let r = adopt_last g.ready (two_places D s f a b ++ (q ∷ [])) y [] hy was-root k in
      brings_also D (append_assoc (two_places D s f a b) (q ∷ []) (take_over D s y ∷ [])) (ap (rooted s) becomes-root) refl r

  -- ── insert ──

  parent_nought : (u : Dig) → H D u nought ≡ u
  unfolding H
  parent_nought u = refl

  -- into the empty list
  insert_first : (A : ℕ) → InEightBytes A → 0 < A → w.items ≡ []
      → Brings D w (insert_lines D s A T []) (rooted s (alone D s A).becomes) (insert A empty_record w.items) w.changed
  insert_first A small positive e =
      let root : nought ≡ s.root = sym (none_hash D T (λ x. g.holds x ∙ rw e (count_nil x))) ∙ g.root in
      adopt_last g.ready (Q.first A ∷ []) (alone D s A) (insertion A ∷ []) (alone_is g.ready A) root
      (first_line g.ready A small positive)

  -- beside the leaf whose gap holds A
  insert_beside : (A : ℕ) → InEightBytes A → 0 < A → has (gap_holds A) T ≡ true → (i : ListItem Record) (l : Items)
      → Brings D w (insert_lines D s A T (i ∷ l)) (rooted s (hash_of D (tree_with D A T (i ∷ l))))
      (insert A empty_record w.items)
      w.changed
  insert_beside A small positive have i l =
      let t = spotted g (gap_holds A) have in
      let x = found (gap_holds A) T in
      let p = way_to (gap_holds A) T in
      let f = halves p in
      let B = item_of x in
      let B' = next_of x in
      let ω = hash_in x in
      let hω = subst IsDigest t.hash_is (record_digest DD t.held) in
      let y = without D s f B A B' ω in
      let hy = without_is g.ready f B A B' ω in
      let root : y.becomes ≡ s.root = ap (rise D p) (parent_nought (digest_of D (leaf B B' ω)) ∙ leaf_digest D x) ∙ t.to_root in
      let h = place_lines g.ready f B A B' ω (g.fits B t.held t.listed).number_fits small t.next_fits hω
      (above_zero g B t.held t.listed) positive t.next_positive t.passes in
      let k = turn_last g.ready (placed D s f B A B' ω) y (removal A ∷ []) hy h in
      let r = adopt_last g.ready (placed D s f B A B' ω ++ (turn_round D s y ∷ [])) (turned_round y) (insertion A ∷ [])
      (record { old = hy.new; new = hy.old }) root k in
      let X = branch (tip (points B A ω)) (tip (points A B' nought)) in
      let grown : y.was ≡ hash_of D (tree_with D A T (i ∷ l)) =
      rise_plug D p X ∙ ap (hash_of D) (sym (regrown_one x X p T (located (gap_holds A) T have).under_way (once g x))) in
      brings_also D (append_assoc (placed D s f B A B' ω) (turn_round D s y ∷ []) (take_over D s (turned_round y) ∷ []))
      (ap (rooted s) grown) refl r

  -- the leaf whose gap holds an unlisted number
  pub gap_found : (A a : ℕ) (r : Record) (l : Items) → 0 < A → Unlisted A w.items → w.items ≡ item_with a r ∷ l
      → has (gap_holds A) T ≡ true
  gap_found A a r l positive free e =
      let i = spot (record_hash D) A a r l positive (rw e at g.ascending) (rw e at free) in
      spot_by g (gap_holds A) (points i.a i.b i.w) (gap_tells i.gap) (rw e i.on)

  pub insert_brings : (A : ℕ) → InEightBytes A → 0 < A → Unlisted A w.items
      → Brings D w (insert_lines D s A T w.items) (rooted s (hash_of D (tree_with D A T w.items)))
      (insert A empty_record w.items)
      w.changed
  insert_brings A small positive free = by_items w.items refl
    where
      by_items : (l : Items) → w.items ≡ l
          → Brings D w (insert_lines D s A T l) (rooted s (hash_of D (tree_with D A T l))) (insert A empty_record w.items)
          w.changed
      by_items [] e = insert_first A small positive e
      by_items (item_with a r ∷ l) e = insert_beside A small positive (gap_found A a r l positive free e) (item_with a r) l
