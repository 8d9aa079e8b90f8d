-- A world and a tree that stands for it: what is known of the leaf that a test finds.
use mathlib.Core.Path.{◌≡◌, refl, sym, ap, subst, ◌∙◌}
use mathlib.Core.Bool.{Bool, true}
use mathlib.Core.List.{List}
use Prim.Native.Nat.{ℕ, ◌≤◌, ◌<◌}
use native.Mathlib.Omega.{arith}
use borrow.Author.Tests.{eq-eqb}
use Rattle.paper.specs.declared.Record.{Record}
use Rattle.paper.specs.declared.Registers.{Registers}
use Rattle.paper.specs.Strings.{Dig, leaf, digest_of, record_hash}
use Rattle.paper.specs.Refusals.{leaf_of}
use Rattle.rings.specs.Trees.{TreeLeaf, points, Tree, tip, leaves, hash_of, count, SameLeaves}
use Rattle.rings.specs.Lists.{AscendingFrom, OnList, ring}
use Rattle.rings.proofs.Items.{listed_above}
use Rattle.rings.proofs.Find.{item_leaf}
use Rattle.runs.specs.Run.{World}
use Rattle.runs.specs.Sizes.{InEightBytes, ItemsFit}
use Rattle.runs.specs.Ways.{item_of, next_of, hash_in, is_of, has, found, way_to, rise}
use Rattle.runs.specs.Honest.{record_of}
use Rattle.runs.proofs.Places.{rise_plug, has_it, located}
use Rattle.runs.proofs.RingLeaves.{ring_once, leaf_held, leaf_next}
use Rattle.runs.proofs.Reach.{Ready}
use Rattle.runs.proofs.Sizes.{record_is}

module _ (D : List ℕ → Dig) where
  -- a leaf of the ring of a world's list
  abbrev pub InRing : World → TreeLeaf → Type 0
  InRing w x = 0 < count x (ring (record_hash D) w.items)

  -- the module is open, the tree stands for the list, and what is listed fits lines
  pub record Ground (w : World) (T : Tree) : Type 0 where
    pub ready : Ready D w
    pub root : hash_of D T ≡ w.registers.root
    pub ascending : AscendingFrom 0 w.items
    pub holds : SameLeaves (leaves T) (ring (record_hash D) w.items)
    pub counter : w.registers.counter.0 ≡ w.changed
    pub fits : ItemsFit w.items

  pub leaf_digest : (x : TreeLeaf) → digest_of D (leaf (item_of x) (next_of x) (hash_in x)) ≡ hash_of D (tip x)
  leaf_digest (points A B v) = refl

module _ {D : List ℕ → Dig} {w : World} {T : Tree} (g : Ground D w T) where
  abbrev s : Registers
  s = w.registers

  -- ── the leaf that a test finds ──

  pub record Spotted (p : TreeLeaf → Bool) : Type 0 where
    pub passes : p (found p T) ≡ true
    pub in_ring : InRing D w (found p T)
    pub held : Record
    pub listed : OnList (item_of (found p T)) held w.items
    pub hash_is : record_hash D held ≡ hash_in (found p T)
    pub next_positive : 0 < next_of (found p T)
    pub next_fits : InEightBytes (next_of (found p T))
    pub to_root : rise D (way_to p T) (hash_of D (tip (found p T))) ≡ s.root

  -- a listed number is above 0
  pub above_zero : (A : ℕ) (r : Record) → OnList A r w.items → 0 < A
  above_zero A r m = listed_above 0 A r w.items g.ascending m

  -- every leaf of the tree occurs once
  pub once : (v : TreeLeaf) → count v (leaves T) ≤ 1
  once v = omega (arith, g.holds v, ring_once (record_hash D) v w.items g.ascending)

  -- where some leaf of the ring passes
  pub spot_by : (p : TreeLeaf → Bool) (x : TreeLeaf) → p x ≡ true → InRing D w x → has p T ≡ true
  spot_by p x e m = has_it p x T e (omega (arith, g.holds x))

  pub spotted : (p : TreeLeaf → Bool) → has p T ≡ true → Spotted p
  spotted p h =
      let x = found p T in
      let at = located p T h in
      let m : InRing D w x = omega (arith, g.holds x, at.occurs) in
      let i = leaf_held (record_hash D) x w.items m in
      let n = leaf_next (record_hash D) x w.items m in
      record {
        passes = at.passes;
        in_ring = m;
        held = i.0;
        listed = i.1;
        hash_is = i.2;
        next_positive = above_zero (next_of x) n.0 n.1;
        next_fits = (g.fits (next_of x) n.0 n.1).number_fits;
        to_root = rise_plug D (way_to p T) (tip x) ∙ ap (hash_of D) at.under_way ∙ g.root;
      }

  -- the leaf of a listed item
  pub of_item_lem : (A : ℕ) (r : Record) → OnList A r w.items → has (is_of A) T ≡ true
  of_item_lem A r m =
      let i = item_leaf (record_hash D) A r w.items m in
      spot_by (is_of A) (points A i.0 (record_hash D r)) (eq-eqb A A refl) i.1

  -- it holds the item's record
  pub item_digest : (A : ℕ) (r : Record) → OnList A r w.items → (p : TreeLeaf → Bool) (t : Spotted p) → A ≡ item_of (found p T)
      → digest_of D (leaf_of D A (next_of (found p T)) (record_of A w.items)) ≡ hash_of D (tip (found p T))
  item_digest A r m p t e =
      let x = found p T in
      let k : record_of A w.items ≡ t.held =
      record_is 0 A t.held w.items g.ascending (subst (λ (a : ℕ). OnList a t.held w.items) (sym e) t.listed) in
      let h : record_hash D (record_of A w.items) ≡ hash_in x = ap (record_hash D) k ∙ t.hash_is in
      (λ i. digest_of D (leaf (e i) (next_of x) (h i))) ∙ leaf_digest D x
