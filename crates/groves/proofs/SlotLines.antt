-- Insert into the first free slot, two slots exchanged, and the last leaf taken out: honest lines bring each about. With the last
-- two any leaf goes, and the slots stay dense; after each of them the module's root is that of the leaves in their slots.
use mathlib.Core.Path.{◌≡◌, refl, sym, ap, ap₂, ◌∙◌}
use mathlib.Core.Bool.{true}
use mathlib.Core.List.{List, [], ◌∷◌, ◌++◌, append_assoc}
use mathlib.Core.Logic.{◌≢◌}
use Prim.Native.Nat.{ℕ, ◌+◌, ◌<◌, ◌≤◌}
use native.Mathlib.Omega.{arith}
use lib.ListN.{length, set, length-set}
use Rattle.seqs.specs.Choose.{◌and◌}
use Rattle.paper.specs.declared.Registers.{Registers}
use Rattle.paper.specs.Strings.{Dig, nought, empty_record, in_gap, H}
use Rattle.paper.specs.Requests as Q
use Rattle.paper.specs.Answers as Does
use Rattle.paper.specs.Answers.{rooted}
use Rattle.rings.specs.Trees.{TreeLeaf, points, Tree, empty, tip, hash_of}
use Rattle.rings.specs.Lists.{insert, remove}
use Rattle.rings.specs.Changes.{insertion, removal}
use Rattle.runs.specs.Run.{World}
use Rattle.runs.specs.Sizes.{InEightBytes}
use Rattle.runs.specs.Ways.{item_of, next_of, hash_in, rise, Edit, risen_two}
use Rattle.runs.specs.Honest.{say_u2, say_ei, turned_round, note, two_places, turn_round, take_over, without, placed}
use Rattle.runs.proofs.Parts.{IsDigest}
use Rattle.runs.proofs.Climbs.{tree_digest, IsEdit, risen_two_is}
use Rattle.runs.proofs.Fed.{at, note_fits, Brings, brings_also}
use Rattle.runs.proofs.Reach.{Ready, is_open_lem, note_digest, two_places_lem}
use Rattle.runs.proofs.Adopts.{heads_line, heads_behind, turn_last, adopt_last, without_is, place_lines}
use Rattle.slots.specs.Nodes.{slot_count}
use Rattle.groves.specs.Grove.{in_slot, slots_of, tree_of}
use Rattle.groves.specs.SlotLines.{leaf_at, slot_fork, leaves_with, leaves_swapped, leaves_without, insert_at, swap_at, drop_at}
use Rattle.groves.proofs.Groves.{slot_level}
use Rattle.groves.proofs.Forks.{fork_rises}
use Rattle.groves.proofs.Stored.{in_past, in_here, slot_is, set_other, append_other, in_append, in_append_last, in_set_same, in_set_other}

by_fields : (x : TreeLeaf) → x ≡ points (item_of x) (next_of x) (hash_in x)
by_fields (points A A' ω) = refl

-- what a list has in a slot
pub slot_here : (l : List TreeLeaf) (i : ℕ) → i < length l → slots_of l (slot_count + i) ≡ tip (leaf_at l i)
slot_here l i h = slot_is l i ∙ in_here l i _ h

pub slot_past : (l : List TreeLeaf) (i : ℕ) → length l ≤ i → slots_of l (slot_count + i) ≡ empty
slot_past l i h = slot_is l i ∙ in_past l i h

-- up the fork of two slots of l, what m has in them rises to m's root, where every other slot is the same
slots_rise : (D : List ℕ → Dig) (l m : List TreeLeaf) (i j : ℕ) {X Y : Tree} → i < j → j < slot_count
    → slots_of m (slot_count + i) ≡ X → slots_of m (slot_count + j) ≡ Y
    → ((w : ℕ) → w ≢ slot_count + i → w ≢ slot_count + j → slots_of l w ≡ slots_of m w)
    → (let f = slot_fork l i j in
    rise D f.above (H D (rise D f.left (hash_of D X)) (rise D f.right (hash_of D Y))) ≡ hash_of D (tree_of m))
slots_rise D l m i j less most a b same =
    let f = slot_fork l i j in
    ap₂ (λ (x y : Tree). rise D f.above (H D (rise D f.left (hash_of D x)) (rise D f.right (hash_of D y)))) (sym a) (sym b)
    ∙ fork_rises D (slots_of l) (slots_of m) (slot_count + i) (slot_count + j) (slot_level i (omega arith)) (slot_level j most)
    (omega arith) same

module _ {D : List ℕ → Dig} {w : World} (r : Ready D w) where
  abbrev s : Registers
  s = w.registers

  abbrev DD : (l : List ℕ) → IsDigest (D l)
  DD = r.digests

  -- ── insert ──

  pub insert_slot : (l : List TreeLeaf) (A j : ℕ) → length l < slot_count → j < length l → hash_of D (tree_of l) ≡ s.root
      → InEightBytes A → InEightBytes (item_of (leaf_at l j)) → InEightBytes (next_of (leaf_at l j)) → IsDigest (hash_in (leaf_at l j))
      → 0 < A → 0 < item_of (leaf_at l j) → 0 < next_of (leaf_at l j) → in_gap A (item_of (leaf_at l j)) (next_of (leaf_at l j)) ≡ true
      → Brings D w (insert_at D s A j l) (rooted s (hash_of D (tree_of (leaves_with A j l)))) (insert A empty_record w.items)
      w.changed
  insert_slot l A j room in_l root sA sB sB' hω pA pB pB' gap =
      let f = slot_fork l j (length l) in
      let y = without D s f B A B' ω in
      let hy = without_is r f B A B' ω in
      let old : y.becomes ≡ s.root =
      slots_rise D l l j (length l) in_l room (slot_here l j in_l ∙ ap tip (by_fields (leaf_at l j))) (slot_past l (length l) (omega arith)) (λ w n m. refl)
      ∙ root in
      let new : y.was ≡ hash_of D (tree_of l₂) = slots_rise D l l₂ j (length l) in_l room first second other in
      let h = place_lines r f B A B' ω sB sA sB' hω pB pA pB' gap in
      let k = turn_last r (placed D s f B A B' ω) y (removal A ∷ []) hy h in
      let b = adopt_last r (placed D s f B A B' ω ++ (turn_round D s y ∷ [])) (turned_round y) (insertion A ∷ [])
      (record { old = hy.new; new = hy.old }) old k in
      brings_also D (append_assoc (placed D s f B A B' ω) (turn_round D s y ∷ []) (take_over D s (turned_round y) ∷ []))
      (ap (rooted s) new) refl b
    where
      B : ℕ
      B = item_of (leaf_at l j)

      B' : ℕ
      B' = next_of (leaf_at l j)

      ω : Dig
      ω = hash_in (leaf_at l j)

      l₁ : List TreeLeaf
      l₁ = set l j (points B A ω)

      l₂ : List TreeLeaf
      l₂ = leaves_with A j l

      k_is : length l₁ ≡ length l
      k_is = length-set l j (points B A ω)

      first : slots_of l₂ (slot_count + j) ≡ tip (points B A ω)
      first = slot_is l₂ j ∙ in_append l₁ _ j (λ e. omega (arith, e, k_is, in_l)) ∙ in_set_same l j _ in_l

      second : slots_of l₂ (slot_count + length l) ≡ tip (points A B' nought)
      second = slot_is l₂ (length l) ∙ ap (in_slot l₂) (sym k_is) ∙ in_append_last l₁ _

      other : (w : ℕ) → w ≢ slot_count + j → w ≢ slot_count + length l → slots_of l w ≡ slots_of l₂ w
      other w n m = set_other l j _ w n ∙ append_other l₁ _ w (λ e. m (e ∙ ap (λ (k : ℕ). slot_count + k) k_is))

  -- ── slots i and j exchanged ──

  pub swap_slots : (l : List TreeLeaf) (i j : ℕ) → length l ≤ slot_count → i < j → j < length l → hash_of D (tree_of l) ≡ s.root
      → Brings D w (swap_at D s i j l) (rooted s (hash_of D (tree_of (leaves_swapped i j l)))) w.items w.changed
  swap_slots l i j room less in_l root =
      let f = slot_fork l i j in
      let e : Edit = record { was = hash_of D (tip (leaf_at l i)); becomes = hash_of D (tip (leaf_at l j)) } in
      let he : IsEdit e = record { old = tree_digest DD (tip (leaf_at l i)); new = tree_digest DD (tip (leaf_at l j)) } in
      let ht : IsEdit (turned_round e) = record { old = he.new; new = he.old } in
      let y = risen_two D f e (turned_round e) in
      let hy = risen_two_is DD f e (turned_round e) he ht in
      let t = say_u2 e (turned_round e) y in
      let q = Q.swap e.was e.becomes y.was y.becomes (note D s t) in
      let old : y.was ≡ s.root =
      slots_rise D l l i j less (omega arith) (slot_here l i (omega arith)) (slot_here l j in_l) (λ w n m. refl) ∙ root in
      let new : y.becomes ≡ hash_of D (tree_of l₂) = slots_rise D l l₂ i j less (omega arith) first second other in
      let u = two_places_lem r w.formed w.book f e (turned_round e) he ht in
      let k = heads_behind D u.leads
      (heads_line D (at w u.formed u.book) q [] [] (say_ei y) Does.nothing
      (he.old and he.new and hy.old and hy.new and note_digest r t and tt)
      (is_open_lem r and note_fits D s.secret t [] and tt) (u.got, tt) refl) in
      let b = adopt_last r (two_places D s f e (turned_round e) ++ (q ∷ [])) y [] hy old k in
      brings_also D (append_assoc (two_places D s f e (turned_round e)) (q ∷ []) (take_over D s y ∷ [])) (ap (rooted s) new) refl b
    where
      l₁ : List TreeLeaf
      l₁ = set l i (leaf_at l j)

      l₂ : List TreeLeaf
      l₂ = leaves_swapped i j l

      first : slots_of l₂ (slot_count + i) ≡ tip (leaf_at l j)
      first = slot_is l₂ i ∙ in_set_other l₁ j i _ (λ e. omega (arith, e, less)) ∙ in_set_same l i _ (omega (arith, less, in_l))

      second : slots_of l₂ (slot_count + j) ≡ tip (leaf_at l i)
      second = slot_is l₂ j ∙ in_set_same l₁ j _ (omega (arith, in_l, length-set l i (leaf_at l j)))

      other : (w : ℕ) → w ≢ slot_count + i → w ≢ slot_count + j → slots_of l w ≡ slots_of l₂ w
      other w n m = set_other l i _ w n ∙ set_other l₁ j _ w m

  -- ── the last leaf taken out ──

  pub drop_last : (l : List TreeLeaf) (x : TreeLeaf) (A i : ℕ) → length l < slot_count → i < length l
      → hash_of D (tree_of (l ++ (x ∷ []))) ≡ s.root
      → leaf_at l i ≡ points (item_of (leaf_at l i)) A (hash_in (leaf_at l i)) → x ≡ points A (next_of x) nought
      → InEightBytes A → InEightBytes (item_of (leaf_at l i)) → InEightBytes (next_of x) → IsDigest (hash_in (leaf_at l i))
      → 0 < A → 0 < item_of (leaf_at l i) → 0 < next_of x → in_gap A (item_of (leaf_at l i)) (next_of x) ≡ true
      → Brings D w (drop_at D s A i l x) (rooted s (hash_of D (tree_of (leaves_without i l x)))) (remove A w.items) w.changed
  drop_last l x A i room in_l root b-is x-is sA sB sB' hω pA pB pB' gap =
      let B = item_of (leaf_at l i) in
      let B' = next_of x in
      let ω = hash_in (leaf_at l i) in
      let lx = l ++ (x ∷ []) in
      let l₂ = leaves_without i l x in
      let f = slot_fork lx i (length l) in
      let y = without D s f B A B' ω in
      let before-i : slots_of lx (slot_count + i) ≡ tip (points B A ω) =
      sym (append_other l x (slot_count + i) (λ e. omega (arith, e, in_l))) ∙ slot_here l i in_l ∙ ap tip b-is in
      let before_last : slots_of lx (slot_count + length l) ≡ tip (points A B' nought) =
      slot_is lx (length l) ∙ in_append_last l x ∙ ap tip x-is in
      let old : y.was ≡ s.root = slots_rise D lx lx i (length l) in_l room before-i before_last (λ w n m. refl) ∙ root in
      let new : y.becomes ≡ hash_of D (tree_of l₂) =
      slots_rise D lx l₂ i (length l) in_l room (slot_is l₂ i ∙ in_set_same l i (points B B' ω) in_l)
      (slot_past l₂ (length l) (omega (arith, length-set l i (points B B' ω))))
      (λ w n m. sym (append_other l x w m) ∙ set_other l i (points B B' ω) w n) in
      let h = place_lines r f B A B' ω sB sA sB' hω pB pA pB' gap in
      brings_also D refl (ap (rooted s) new) refl
      (adopt_last r (placed D s f B A B' ω) y (removal A ∷ []) (without_is r f B A B' ω) old h)
