-- Leaves in slots from 0 on: the tree has just them, and a leaf more or another leaf is one slot changed.
use mathlib.Core.Path.{◌≡◌, refl, sym, ap, ap₂, ◌∙◌}
use mathlib.Core.List.{List, [], ◌∷◌, ◌++◌, append-nil, append_assoc}
use mathlib.Core.Logic.{◌≢◌}
use Prim.Native.Nat.{ℕ, zero, suc, ◌+◌, ◌-◌, ◌*◌, ◌^◌, ◌<◌, ◌≤◌}
use native.Mathlib.Nat.{pow-suc, not-suc-le-zero, le_of_suc-le-suc}
use native.Mathlib.Omega.{arith}
use native.Mathlib.Decide.{ℕ_discrete, dec_lt}
use borrow.Author.Tests.{eq-eqb, ne_eqb, lt-ltb, le-ltb}
use lib.ListN.{length, get_or, set}
use Rattle.paper.specs.Strings.{Dig}
use Rattle.rings.specs.Trees.{TreeLeaf, Tree, empty, tip, leaves, hash_of}
use Rattle.groves.specs.Grove.{with, tree_at, grove, in_slot, slots_of, tree_of, Kept}

-- the leaves of n slots from w on
abbrev gather : (f : ℕ → Tree) (w n : ℕ) → List TreeLeaf
gather f w zero = []
gather f w (suc n) = leaves (f w) ++ gather f (w + 1) n

gather_add : (f : ℕ → Tree) (w n m : ℕ) → gather f w (n + m) ≡ gather f w n ++ gather f (w + n) m
gather_add f w zero m =
    let e : 0 + m ≡ m = omega arith in
    let z : w ≡ w + 0 = omega arith in
    ap (gather f w) e ∙ ap (λ (u : ℕ). gather f u m) z
gather_add f w (suc n) m =
    let e : suc n + m ≡ suc (n + m) = omega arith in
    let z : w + 1 + n ≡ w + suc n = omega arith in
    ap (gather f w) e
    ∙ ap (λ (l : List TreeLeaf). leaves (f w) ++ l) (gather_add f (w + 1) n m ∙ ap (λ (u : ℕ). gather f (w + 1) n ++ gather f u m) z)
    ∙ sym (append_assoc (leaves (f w)) (gather f (w + 1) n) (gather f (w + suc n) m))

-- the first slot below node v
abbrev first : (n v : ℕ) → ℕ
first zero v = v
first (suc n) v = first n (2 * v)

first_next : (n v : ℕ) → first n (v + 1) ≡ first n v + 2 ^ n
first_next zero v = refl
first_next (suc n) v =
    let e : 2 * (v + 1) ≡ 2 * v + 1 + 1 = omega arith in
    ap (first n) e ∙ omega (arith, first_next n (2 * v + 1), first_next n (2 * v), pow-suc 2 n)

gathered : (f : ℕ → Tree) (n v : ℕ) → leaves (tree_at f n v) ≡ gather f (first n v) (2 ^ n)
gathered f zero v = sym (append-nil (leaves (f v)))
gathered f (suc n) v =
    let e : 2 ^ n + 2 ^ n ≡ 2 ^ suc n = omega (arith, pow-suc 2 n) in
    ap₂ (λ (k m : List TreeLeaf). k ++ m) (gathered f n (2 * v))
    (gathered f n (2 * v + 1) ∙ ap (λ (w : ℕ). gather f w (2 ^ n)) (first_next n (2 * v)))
    ∙ sym (gather_add f (first n (2 * v)) (2 ^ n) (2 ^ n)) ∙ ap (gather f (first n (2 * v))) e

-- slots that hold the leaves of a list
gather_list : (f : ℕ → Tree) (l : List TreeLeaf) (w n : ℕ) → ((i : ℕ) → f (w + i) ≡ in_slot l i) → length l ≤ n → gather f w n ≡ l
gather_list f [] w zero k h = refl
gather_list f (x ∷ l) w zero k h = absurd (not-suc-le-zero h)
gather_list f [] w (suc n) k h =
    let z : w + 0 ≡ w = omega arith in
    ap₂ (λ (t : Tree) (m : List TreeLeaf). leaves t ++ m) (ap f (sym z) ∙ k 0)
    (gather_list f [] (w + 1) n (λ i. let e : w + 1 + i ≡ w + suc i = omega arith in ap f e ∙ k (suc i)) (omega arith))
gather_list f (x ∷ l) w (suc n) k h =
    let z : w + 0 ≡ w = omega arith in
    ap₂ (λ (t : Tree) (m : List TreeLeaf). leaves t ++ m) (ap f (sym z) ∙ k 0)
    (gather_list f l (w + 1) n (λ i. let e : w + 1 + i ≡ w + suc i = omega arith in ap f e ∙ k (suc i)) (le_of_suc-le-suc h))

-- what stands in a slot
pub slot_is : (l : List TreeLeaf) (i : ℕ) → slots_of l (1024 + i) ≡ in_slot l i
slot_is l i =
    let e : 1024 + i - 1024 ≡ i = omega arith in
    rw (le-ltb (1024 + i) 1024 (omega arith)) (ap (in_slot l) e)

pub tree_leaves : (l : List TreeLeaf) → length l ≤ 1024 → leaves (tree_of l) ≡ l
unfolding grove
tree_leaves l h = gathered (slots_of l) 10 1 ∙ gather_list (slots_of l) l 1024 1024 (slot_is l) h

-- ── a leaf more, another leaf ──

pub in_append : (l : List TreeLeaf) (x : TreeLeaf) (i : ℕ) → i ≢ length l → in_slot (l ++ (x ∷ [])) i ≡ in_slot l i
in_append [] x zero n = absurd (n refl)
in_append [] x (suc i) n = refl
in_append (y ∷ l) x zero n = refl
in_append (y ∷ l) x (suc i) n = in_append l x i (λ e. n (ap suc e))

pub in_append_last : (l : List TreeLeaf) (x : TreeLeaf) → in_slot (l ++ (x ∷ [])) (length l) ≡ tip x
in_append_last [] x = refl
in_append_last (y ∷ l) x = in_append_last l x

pub in_past : (l : List TreeLeaf) (i : ℕ) → length l ≤ i → in_slot l i ≡ empty
in_past [] i h = refl
in_past (x ∷ l) zero h = absurd (not-suc-le-zero h)
in_past (x ∷ l) (suc i) h = in_past l i (le_of_suc-le-suc h)

pub in_here : (l : List TreeLeaf) (i : ℕ) (z : TreeLeaf) → i < length l → in_slot l i ≡ tip (get_or l i z)
in_here [] i z h = absurd (not-suc-le-zero h)
in_here (x ∷ l) zero z h = refl
in_here (x ∷ l) (suc i) z h = in_here l i z (le_of_suc-le-suc h)

pub in_set_same : (l : List TreeLeaf) (i : ℕ) (x : TreeLeaf) → i < length l → in_slot (set l i x) i ≡ tip x
in_set_same [] i x h = absurd (not-suc-le-zero h)
in_set_same (y ∷ l) zero x h = refl
in_set_same (y ∷ l) (suc i) x h = in_set_same l i x (le_of_suc-le-suc h)

pub in_set_other : (l : List TreeLeaf) (i j : ℕ) (x : TreeLeaf) → j ≢ i → in_slot (set l i x) j ≡ in_slot l j
in_set_other [] i j x n = refl
in_set_other (y ∷ l) zero zero x n = absurd (n refl)
in_set_other (y ∷ l) zero (suc j) x n = refl
in_set_other (y ∷ l) (suc i) zero x n = refl
in_set_other (y ∷ l) (suc i) (suc j) x n = in_set_other l i j x (λ e. n (ap suc e))

-- as slots changed, slot by slot
by_slots : (l m : List TreeLeaf) (w : ℕ) → (1024 ≤ w → in_slot l (w - 1024) ≡ in_slot m (w - 1024)) → slots_of l w ≡ slots_of m w
by_slots l m w k =
    elim (dec_lt w 1024) [
      | yes h ↦ rw (lt-ltb w 1024 h) refl
      | no n ↦ rw (le-ltb w 1024 (omega arith)) (k (omega arith))
    ]

pub set_other : (l : List TreeLeaf) (i : ℕ) (x : TreeLeaf) (w : ℕ) → w ≢ 1024 + i → slots_of l w ≡ slots_of (set l i x) w
set_other l i x w n = by_slots l (set l i x) w (λ h. sym (in_set_other l i (w - 1024) x (λ e. n (omega arith))))

pub append_other : (l : List TreeLeaf) (x : TreeLeaf) (w : ℕ) → w ≢ 1024 + length l → slots_of l w ≡ slots_of (l ++ (x ∷ [])) w
append_other l x w n = by_slots l (l ++ (x ∷ [])) w (λ h. sym (in_append l x (w - 1024) (λ e. n (omega arith))))

pub set_slot : (l : List TreeLeaf) (i : ℕ) (x : TreeLeaf) → i < length l → (w : ℕ)
    → with (slots_of l) (1024 + i) (tip x) w ≡ slots_of (set l i x) w
set_slot l i x h w = by_test (ℕ_discrete w (1024 + i))
  where
    by_test : Dec (w ≡ 1024 + i) → with (slots_of l) (1024 + i) (tip x) w ≡ slots_of (set l i x) w
    by_test (yes e) =
        rw (eq-eqb w (1024 + i) e) (sym (in_set_same l i x h) ∙ sym (slot_is (set l i x) i) ∙ ap (slots_of (set l i x)) (sym e))
    by_test (no n) = rw (ne_eqb w (1024 + i) n) (set_other l i x w n)

pub append_slot : (l : List TreeLeaf) (x : TreeLeaf) → (w : ℕ) → with (slots_of l) (1024 + length l) (tip x) w ≡ slots_of (l ++ (x ∷ [])) w
append_slot l x w = by_test (ℕ_discrete w (1024 + length l))
  where
    by_test : Dec (w ≡ 1024 + length l) → with (slots_of l) (1024 + length l) (tip x) w ≡ slots_of (l ++ (x ∷ [])) w
    by_test (yes e) =
        rw (eq-eqb w (1024 + length l) e)
        (sym (in_append_last l x) ∙ sym (slot_is (l ++ (x ∷ [])) (length l)) ∙ ap (slots_of (l ++ (x ∷ []))) (sym e))
    by_test (no n) = rw (ne_eqb w (1024 + length l) n) (append_other l x w n)

-- memory that keeps a tree keeps any with the same slots
pub kept_same : (D : List ℕ → Dig) (f g : ℕ → Tree) (m : List ℕ) → ((w : ℕ) → f w ≡ g w) → Kept D f m → Kept D g m
kept_same D f g m e k =
    record {
      long = k.long;
      slots = λ i h. k.slots i h ∙ ap (hash_of D) (e (1024 + i));
      above = k.above;
    }
