-- Where tablet and module agree, the tree that memory keeps stands for the module's list.
use mathlib.Core.Path.{◌≡◌, refl, sym, ap, subst, ◌∙◌}
use mathlib.Core.Bool.{Bool, true, false}
use mathlib.Core.List.Memᴰ
use mathlib.Core.List.{List, [], ◌∷◌, Memᴰ}
use mathlib.Core.Logic.{inl, inr}
use Prim.Native.Nat.{ℕ}
use native.Mathlib.Omega.{arith}
use lib.Dec.{eqb}
use Rattle.seqs.specs.Choose.{Every, both_true, opposite}
use Rattle.paper.specs.declared.Record.{Record}
use Rattle.paper.specs.Strings.{Dig, record_hash, malformed}
use Rattle.rings.specs.Trees.{TreeLeaf, hash_of, count}
use Rattle.rings.specs.Lists.{ListItem, AscendingFrom, OnList, ring}
use Rattle.runs.specs.Run.{World}
use Rattle.runs.specs.Sizes.{ItemFits, ItemsFit}
use Rattle.runs.proofs.Reach.{Ready}
use Rattle.runs.proofs.Standing.{Ground}
use Rattle.slots.specs.Nodes.{node_at}
use Rattle.groves.specs.Grove.{slots_of, tree_of, Kept}
use Rattle.groves.proofs.Stored.{tree_leaves}
use Rattle.rows.specs.declared.Row.{Row}
use Rattle.rows.specs.Rows.{rows_from}
use Rattle.ringed.specs.Ringed.{leaves_by}
use Rattle.ringed.proofs.Ringed.{list_ascending, listed_row, ringed}
use Rattle.store.specs.Lines.{may_stand}
use Rattle.store.specs.RoundTrip.{Storable}
use Rattle.keeping.specs.Talking.{Tablet}
use Rattle.keeping.specs.Agreeing.{Agrees}
use Rattle.keeping.proofs.Laid.{leaves_many, kept_root}

-- every row of some
pub of_every : (P : Row → Type 0) (l : List Row) → Every P l → (r : Row) → Memᴰ r l → P r
of_every P [] k r m = elim m [ ]
of_every P (x ∷ l) k r m =
    elim (Memᴰ.cases_cons m) [ inl e ↦ subst P (sym e) k.0 | inr j ↦ of_every P l k.1 r j ]

pub not_malformed : (r : Row) → may_stand r ≡ true → malformed r.entry ≡ false
unfolding may_stand
not_malformed r h =
    let a = both_true (opposite (eqb r.item.0 0)) _ h in
    let b = both_true (opposite (eqb r.next.0 0)) _ a.1 in
    opposite_true (malformed r.entry) b.1
  where
    opposite_true : (b : Bool) → opposite b ≡ true → b ≡ false
    opposite_true true e = sym e
    opposite_true false e = refl

module _ {D : List ℕ → Dig} {w : World} {x : Tablet} (a : Agrees D w x) where
  abbrev l : List TreeLeaf
  l = leaves_by (record_hash D) a.rows

  rows_fit : ItemsFit w.items
  rows_fit A r m =
      let m' = subst (OnList A r) a.items m in
      let q = listed_row A r a.rows m' in
      let k = of_every Storable a.rows a.holds.storable q.0 q.1 in
      let f = k.fits in
      subst (λ (n : ℕ). ItemFits n r) q.2
      (subst (ItemFits q.0.item.0) q.3 (record {
        number_fits = f.0;
        record_fits = (f.1.1.0, f.1.1.1.0, f.1.1.1.1.0, f.1.1.1.1.1.0);
        well_formed = not_malformed q.0 k.stands;
      }))

  root_hash : hash_of D (tree_of (leaves_by (record_hash D) a.rows)) ≡ node_at x.nodes 1
  root_hash = kept_root D l x.nodes a.holds.kept

  ground : Ready D w → w.registers.counter.0 ≡ w.changed → Ground D w (tree_of (leaves_by (record_hash D) a.rows))
  ground ready counter =
      record {
        ready = ready;
        root = root_hash ∙ a.root;
        ascending = subst (λ (t : List (ListItem Record)). AscendingFrom 0 t) (sym a.items)
            (list_ascending a.rows a.holds.closed.distinct a.holds.closed.positive);
        holds =
            λ v.
            ap (λ (t : List TreeLeaf). count v t)
            (tree_leaves l (omega (arith, leaves_many (record_hash D) a.rows, a.holds.size, a.holds.few)))
            ∙ ringed a.rows a.holds.closed (record_hash D) v
            ∙ ap (λ (t : List (ListItem Record)). count v (ring (record_hash D) t)) (sym a.items);
        counter = counter;
        fits = rows_fit;
      }

  -- the same of the rows as memory has them
  pub kept_there : Kept D (slots_of (leaves_by (record_hash D) (rows_from x.leaves x.count 0))) x.nodes
  kept_there = subst (λ (t : List Row). Kept D (slots_of (leaves_by (record_hash D) t)) x.nodes) (sym a.holds.there) a.holds.kept

  pub root_there : hash_of D (tree_of (leaves_by (record_hash D) (rows_from x.leaves x.count 0))) ≡ w.registers.root
  root_there = ap (λ (t : List Row). hash_of D (tree_of (leaves_by (record_hash D) t))) a.holds.there ∙ root_hash ∙ a.root

  pub ground_there : Ready D w → w.registers.counter.0 ≡ w.changed
      → Ground D w (tree_of (leaves_by (record_hash D) (rows_from x.leaves x.count 0)))
  ground_there ready counter =
      subst (λ (t : List Row). Ground D w (tree_of (leaves_by (record_hash D) t))) (sym a.holds.there) (ground ready counter)
