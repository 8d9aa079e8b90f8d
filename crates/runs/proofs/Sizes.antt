-- The list: a listed item has one record; what a run lists fits lines, and so does what a legal change lists.
use mathlib.Core.Path.{◌≡◌, refl, subst}
use mathlib.Core.Bool.{Bool, true, false}
use mathlib.Core.List.Memᴰ
use mathlib.Core.List.{List, [], ◌∷◌}
use mathlib.Core.Logic.{inl, inr}
use Prim.Native.Nat.{ℕ, ◌+◌, ◌<◌}
use native.Mathlib.Decide.{dec_lt}
use native.Mathlib.Omega.{arith}
use borrow.Author.Tests.{eq-eqb, ne_eqb}
use lib.Dec.{eqb, ltb}
use lib.ListN.{length}
use Rattle.seqs.specs.Choose.{pick}
use Rattle.paper.specs.declared.Record.{Record}
use Rattle.paper.specs.declared.Values.{Values}
use Rattle.paper.specs.declared.Registers.{Registers}
use Rattle.paper.specs.Strings.{Dig, Str, leaf, entry, digest_of, empty_record, malformed}
use Rattle.paper.specs.Refusals.{top, next_record}
use Rattle.rings.specs.Trees.{points, Tree, empty, tip, branch, leaves, count}
use Rattle.rings.specs.Lists.{item_with, AscendingFrom, OnList, insert, remove, put_record}
use Rattle.rings.specs.Meanings.{◌∈◌, TreeIn, hash_record, RecordKnown, known_empty, known_recorded}
use Rattle.rings.proofs.Counting.{count_nil, count_append, count_single}
use Rattle.rings.proofs.Items.{record_at, listed_above}
use Rattle.rings.proofs.Find.{item_leaf}
use Rattle.rings.proofs.Bridge.{known_passes}
use Rattle.runs.specs.Run.{Items, World}
use Rattle.runs.specs.Sizes.{InEightBytes, ValuesFit, RecordFits, ItemFits, ItemsFit}
use Rattle.runs.specs.Honest.{record_of}
use Rattle.runs.proofs.Formed.{Well, well_at}
use Rattle.runs.proofs.Safe.{Core}

-- ── one record for each item ──

pub record_is : (b A : ℕ) (r : Record) (l : Items) → AscendingFrom b l → OnList A r l → record_of A l ≡ r
record_is b A r [] g m = elim m [ ]
record_is b A r (item_with a s ∷ l) g m =
    elim (Memᴰ.cases_cons m) [
      | inl e ↦ (let p : A ≡ a = cc in let q : s ≡ r = cc in rw (eq-eqb A a p) q)
      | inr k ↦ (
          let u = listed_above a A r l g.1 k in
          rw (ne_eqb A a (λ e. omega arith)) (record_is a A r l g.1 k))
    ]

-- ── lists that fit, changed ──

pub item_fits : (A : ℕ) (r : Record) → InEightBytes A → RecordFits r → malformed r ≡ false → ItemFits A r
item_fits A r n f m = record { number_fits = n; record_fits = f; well_formed = rw m refl }

one_more_lem : (A : ℕ) (r : Record) (l : Items) → ItemFits A r → ItemsFit l → ItemsFit (item_with A r ∷ l)
one_more_lem A r l f g B s m =
    elim (Memᴰ.cases_cons m) [
      | inl e ↦ (let p : A ≡ B = cc in let q : r ≡ s = cc in subst (ItemFits B) q (subst (λ (n : ℕ). ItemFits n r) p f))
      | inr k ↦ g B s k
    ]

first_fits : (A : ℕ) (r : Record) (l : Items) → ItemsFit (item_with A r ∷ l) → ItemFits A r
first_fits A r l g = g A r (Memᴰ.head refl)

others_fit : (A : ℕ) (r : Record) (l : Items) → ItemsFit (item_with A r ∷ l) → ItemsFit l
others_fit A r l g B s m = g B s (Memᴰ.tail m)

pub insert_fits : (A : ℕ) (r : Record) (l : Items) → ItemFits A r → ItemsFit l → ItemsFit (insert A r l)
unfolding insert
insert_fits A r [] f g = one_more_lem A r [] f g
insert_fits A r (item_with a s ∷ l) f g = go (ltb A a) (insert_fits A r l f (others_fit a s l g))
  where
    go : (b : Bool) → ItemsFit (insert A r l) → ItemsFit (pick b (item_with A r ∷ item_with a s ∷ l) (item_with a s ∷ insert A r l))
    go true k = one_more_lem A r (item_with a s ∷ l) f g
    go false k = one_more_lem a s (insert A r l) (first_fits a s l g) k

pub remove_fits : (A : ℕ) (l : Items) → ItemsFit l → ItemsFit (remove A l)
unfolding remove
remove_fits A [] g = g
remove_fits A (item_with a s ∷ l) g = go (eqb A a) (remove_fits A l (others_fit a s l g))
  where
    go : (b : Bool) → ItemsFit (remove A l) → ItemsFit (pick b l (item_with a s ∷ remove A l))
    go true k = others_fit a s l g
    go false k = one_more_lem a s (remove A l) (first_fits a s l g) k

pub put_fits : (A : ℕ) (r : Record) (l : Items) → RecordFits r → malformed r ≡ false → ItemsFit l → ItemsFit (put_record A r l)
unfolding put_record
put_fits A r [] f n g = g
put_fits A r (item_with a s ∷ l) f n g = go (eqb A a) (put_fits A r l f n (others_fit a s l g))
  where
    go : (b : Bool) → ItemsFit (put_record A r l) → ItemsFit (pick b (item_with a r ∷ l) (item_with a s ∷ put_record A r l))
    go true k = one_more_lem a r l (item_fits a r (first_fits a s l g).number_fits f n) (others_fit a s l g)
    go false k = one_more_lem a s (put_record A r l) (first_fits a s l g) k

-- the records that changes put there: none, and the next one below the top
pub none_fits_lem : RecordFits empty_record
none_fits_lem = (omega arith, omega arith, omega arith, omega arith)

pub none_well_formed : malformed empty_record ≡ false
unfolding malformed
none_well_formed = refl

pub next_fits : (s : Registers) (v : Values) → s.counter.0 < top → ValuesFit v → RecordFits (next_record s v)
next_fits s v below f = (omega (arith, below), f.0, f.1, f.2)

pub next_well_formed : (s : Registers) (v : Values) → malformed (next_record s v) ≡ false
unfolding malformed
next_well_formed s v = rw (ne_eqb (s.counter.0 + 1) 0 (λ e. omega arith)) refl

-- ── what a run lists ──

-- a leaf of a tree whose strings are formed is formed
leaf_formed : (D : Str → Dig) (F : List Str) (T : Tree) (a b : ℕ) (v : Dig) → TreeIn D F T → 0 < count (points a b v) (leaves T)
    → leaf a b v ∈ F
leaf_formed D F empty a b v i m = absurd (omega (arith, count_nil (points a b v)))
leaf_formed D F (tip (points a' b' v')) a b v i m =
    let e = count_single (points a b v) (points a' b' v') m in
    let p : leaf a' b' v' ≡ leaf a b v = cc in
    subst (λ (s : Str). s ∈ F) p i
leaf_formed D F (branch l r) a b v i m =
    elim (dec_lt 0 (count (points a b v) (leaves l))) [
      | yes k ↦ leaf_formed D F l a b v i.0 k
      | no n ↦ leaf_formed D F r a b v i.1 (omega (arith, count_append (points a b v) (leaves l) (leaves r)))
    ]

known_fits : (D : Str → Dig) (F : List Str) (r : Record) → Well F → RecordKnown D F r → RecordFits r
known_fits D F r w (known_empty e) = rw e none_fits_lem
known_fits D F r w (known_recorded n m) = let s = well_at F (entry r) w m in (s.0, s.1.0, s.1.1.0, s.1.1.1.0)

pub listed_fits : (D : List ℕ → Dig) (D32 : (l : List ℕ) → length (D l) ≡ 32) (w : World) → Core D D32 w → Well w.formed
    → ItemsFit w.items
listed_fits D D32 w c h A r m =
    let dig = digest_of D in
    let g = c.stands in
    let k = record_at (RecordKnown dig w.formed) w.items A r g.known m in
    let i = item_leaf (hash_record dig) A r w.items m in
    let x = points A i.0 (hash_record dig r) in
    let f = leaf_formed dig w.formed c.tree A i.0 (hash_record dig r) g.tree_in (omega (arith, g.permuted x, i.1)) in
    item_fits A r (well_at w.formed _ h f).0 (known_fits dig w.formed r h k) (known_passes dig w.formed r k)
