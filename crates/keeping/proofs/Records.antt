-- A set or a clear that the tablet does not refuse is granted.
use mathlib.Core.Path.{◌≡◌, refl, sym, ap, subst, ◌∙◌}
use mathlib.Core.Bool.{false}
use mathlib.Core.List.{List}
use Rattle.std.specs.Prelude.{Ok}
use Prim.Native.Nat.{ℕ, suc, ◌+◌, ◌<◌, ◌≤◌}
use native.Mathlib.Omega.{arith}
use lib.Dec.{eqb}
use Rattle.seqs.specs.Choose.{opposite, ◌and◌}
use Rattle.paper.specs.declared.Registers.{Registers}
use Rattle.paper.specs.declared.Item.{Item}
use Rattle.paper.specs.declared.Record.{Record}
use Rattle.paper.specs.declared.Values.{Values}
use Rattle.paper.specs.Strings.{Dig, record_hash, malformed, blank}
use Rattle.paper.specs.Refusals.{top, next_record, cleared_record}
use Rattle.paper.specs.Answers.{raised}
use Rattle.rings.specs.Trees.{Tree, hash_of}
use Rattle.rings.specs.Lists.{put_record}
use Rattle.runs.specs.Run.{World}
use Rattle.runs.specs.Sizes.{InEightBytes, RecordFits, ValuesFit, SensibleMass}
use Rattle.runs.specs.Honest.{set_lines, clear_lines}
use Rattle.runs.specs.TreesAfter.{tree_rewritten}
use Rattle.runs.proofs.Masses.{sensible}
use Rattle.runs.proofs.Sizes.{none_fits_lem, none_well_formed, next_fits, next_well_formed}
use Rattle.runs.proofs.Fed.{brings_also}
use Rattle.runs.proofs.Reach.{Ready}
use Rattle.runs.proofs.SetClear.{set_brings, clear_brings}
use Rattle.groves.specs.Grove.{tree_of}
use Rattle.rows.specs.declared.Row.{Row}
use Rattle.rows.specs.Rows.{row_at, rows_from}
use Rattle.ringed.specs.Ringed.{leaves_by}
use Rattle.store.specs.RoundTrip.{Storable}
use Rattle.wishes.specs.declared.Wish.TheVariants.{Set, Clear}
use Rattle.wishes.specs.Words.{own_place, is_listed, entry_of}
use Rattle.plans.specs.declared.Plan.{Plan}
use Rattle.plans.specs.declared.Script.TheVariants.{Setting, Clearing}
use Rattle.plans.specs.Plans.{no_values, leaf_of_items, plain_plan, rewritten, record_after}
use Rattle.asking.specs.Saying.{start_of}
use Rattle.hearing.specs.Awaiting.{awaited_at}
use Rattle.saying.proofs.Rewritten.{set_spoken, set_lines_lem, clear_spoken, clear_lines_lem}
use Rattle.keeping.specs.Talking.{Tablet, set_out, converse}
use Rattle.keeping.specs.Agreeing.{Agrees}
use Rattle.keeping.specs.Granting.{begins, Grants}
use Rattle.keeping.proofs.Goes.{talk_after}
use Rattle.keeping.proofs.Ends.{LastStep}
use Rattle.keeping.proofs.Sorts.{line_at}
use Rattle.keeping.proofs.Grounds.{kept_there, ground_there}
use Rattle.keeping.proofs.Listed.{row_stored, own, found_listed}
use Rattle.keeping.proofs.Allowed.{no_word, its_plan, was_begun, is_listed_lem, below_top_lem}
use Rattle.keeping.proofs.After.{item_positive, next_positive, storable_by}
use Rattle.keeping.proofs.Grants.{grants_committed}
use Rattle.keeping.proofs.Rewrites.{Rewritable, OfOne, leaf_fits, raised_is, path_first, roots_digests, last_as, y, committed_is, agrees_then, root_then}

setting : OfOne Setting
setting = record { first = refl; forward = refl; only = refl }

clearing : OfOne Clearing
clearing = record { first = refl; forward = refl; only = refl }

module _ {D : List ℕ → Dig} {w : World} {x : Tablet} {A : Item} (k : Rewritable D w x A) where
  abbrev a : Agrees D w x
  a = k.agrees

  abbrev ready : Ready D w
  ready = k.ready

  abbrev s : Registers
  s = w.registers

  abbrev here : Row
  here = row_at x.leaves (own_place x.leaves x.count A.0)

  abbrev T : Tree
  T = tree_of (leaves_by (record_hash D) (rows_from x.leaves x.count 0))

  there : own_place x.leaves x.count A.0 < x.count
  there = (own a A.0 k.was k.on).place

  few : x.count ≤ 1024
  few = a.holds.few

  -- the leaf with another record can be stored
  storable : (new : Record) → RecordFits new → malformed new ≡ false → Storable (leaf_of_items here.item here.next new)
  storable new fits formed =
      let i = own_place x.leaves x.count A.0 in
      let f = (row_stored a i there).fits in
      storable_by (leaf_of_items here.item here.next new) (f.0 and f.1.0 and fits.0 and fits.1 and fits.2 and fits.3 and tt)
      (item_positive a i there) (next_positive a i there) formed

  -- ── set ──

  module _ (v : Values) (fit : ValuesFit v) (mass : SensibleMass v.mass.0) where
    new_is : next_record w.registers v ≡ record_after x.counter v
    new_is =
        λ j.
        record {
          revision = sym (raised_is k) j;
          mass = v.mass;
          offset = v.offset;
          rigging = v.rigging;
        }

    abbrev new : Record
    new = record_after x.counter v

    abbrev P : Plan
    P = rewritten D x.leaves x.nodes x.count x.counter Setting A v new

    set_last : LastStep D w.registers x (talk_after D w.registers x 1 (start_of P))
    unfolding rewritten plain_plan awaited_at
    set_last =
        let f = leaf_fits k in
        last_as k setting v new _ 0x8c
        (line_at 1 (set_spoken D x.leaves x.nodes x.count (kept_there a) s x.counter A v few there)) refl
        (f.0, f.1, f.2, fit, roots_digests k setting v new _ (ready.digests _))
        refl (omega arith) refl

    set_done : (r : ℕ) → Grants D w (Set A v) (converse D (suc (suc r)) w (set_out x P))
    unfolding rewritten plain_plan
    set_done r =
        let g = ground_there a ready k.counter in
        let stored = storable new (subst RecordFits new_is (next_fits s v k.below fit))
        (subst (λ (u : Record). malformed u ≡ false) new_is (next_well_formed s v)) in
        let root = ap (λ (u : Record). hash_of D (tree_rewritten D A.0 u T)) new_is
        ∙ root_then k setting v new stored in
        grants_committed D w x (y k setting v new) (Set A v) 1 (w.changed + 1) P
        (set_lines D s A.0 v T w.items) (
          path_first k setting v new
              (line_at 0 (set_spoken D x.leaves x.nodes x.count (kept_there a) s x.counter A v few there)),
          tt,
        )
        set_last
        refl refl (committed_is k setting v new)
        (set_lines_lem D x.leaves x.nodes x.count (kept_there a) s x.counter A v few there w.items
        (own a A.0 k.was k.on).record_same new_is)
        (brings_also D refl (ap (raised s) root) refl (set_brings g A.0 v k.was k.on fit mass k.below))
        (ap (λ (n : ℕ). n + 1) k.counter)
        (λ z i. agrees_then k setting v new stored z
        (i ∙ ap (λ (u : Record). put_record A.0 u w.items) new_is))
        tt r

  -- ── clear ──

  module _ (recorded : blank k.was ≡ false) where
    abbrev P₁ : Plan
    P₁ = rewritten D x.leaves x.nodes x.count x.counter Clearing A no_values cleared_record

    clear_last : LastStep D w.registers x (talk_after D w.registers x 1 (start_of P₁))
    unfolding rewritten plain_plan awaited_at
    clear_last =
        let f = leaf_fits k in
        last_as k clearing no_values cleared_record _ 0x8d
        (line_at 1 (clear_spoken D x.leaves x.nodes x.count (kept_there a) s x.counter A no_values few there)) refl
        (f.0, f.1, f.2, roots_digests k clearing no_values cleared_record _ (ready.digests _))
        refl (omega arith) refl

    clear_done : (r : ℕ) → Grants D w (Clear A) (converse D (suc (suc r)) w (set_out x P₁))
    unfolding rewritten plain_plan
    clear_done r =
        let g = ground_there a ready k.counter in
        let stored = storable cleared_record none_fits_lem none_well_formed in
        let root = root_then k clearing no_values cleared_record stored in
        grants_committed D w x (y k clearing no_values cleared_record) (Clear A) 1 (w.changed + 1) P₁
        (clear_lines D s A.0 T w.items) (
          path_first k clearing no_values cleared_record
              (line_at 0 (clear_spoken D x.leaves x.nodes x.count (kept_there a) s x.counter A no_values few there)),
          tt,
        )
        clear_last
        refl refl (committed_is k clearing no_values cleared_record)
        (clear_lines_lem D x.leaves x.nodes x.count (kept_there a) s x.counter A no_values few there w.items
        (own a A.0 k.was k.on).record_same)
        (brings_also D refl (ap (raised s) root) refl (clear_brings g A.0 k.was k.on recorded k.below))
        (ap (λ (n : ℕ). n + 1) k.counter)
        (agrees_then k clearing no_values cleared_record stored)
        tt r

-- ── where the tablet does not refuse ──

module _ {D : List ℕ → Dig} {w : World} {x : Tablet} (a : Agrees D w x) (ready : Ready D w)
    (counter : w.registers.counter.0 ≡ w.changed) (small : InEightBytes w.registers.counter.0) where
  abbrev rewritable : (A : Item) → opposite (is_listed x.leaves x.count A.0) ≡ false → eqb x.counter.0 top ≡ false
      → Rewritable D w x A
  rewritable A listed below =
      record {
        agrees = a;
        ready = ready;
        counter = counter;
        was = entry_of x.leaves x.count A.0;
        on = found_listed a A.0 (is_listed_lem a A.0 listed);
        below = below_top_lem a small below;
      }

  pub set_granted : (A : Item) (v : Values) → ValuesFit v → (p : Plan) → begins D x (Set A v) ≡ Ok p → (r : ℕ)
      → Grants D w (Set A v) (converse D (suc (suc r)) w (set_out x p))
  set_granted A v fit p begun r =
      let t = no_word D x (Set A v) (was_begun begun) in
      subst (λ (p : Plan). Grants D w (Set A v) (converse D (suc (suc r)) w (set_out x p))) (sym (its_plan D x (Set A v) p begun))
      (set_done (rewritable A t.1.1.1.0 t.1.1.1.1.1.1.1.0) v fit (sensible v.mass.0 t.1.0) r)

  pub clear_granted : (A : Item) → (p : Plan) → begins D x (Clear A) ≡ Ok p → (r : ℕ)
      → Grants D w (Clear A) (converse D (suc (suc r)) w (set_out x p))
  clear_granted A p begun r =
      let t = no_word D x (Clear A) (was_begun begun) in
      subst (λ (p : Plan). Grants D w (Clear A) (converse D (suc (suc r)) w (set_out x p))) (sym (its_plan D x (Clear A) p begun))
      (clear_done (rewritable A t.1.1.1.0 t.1.1.1.1.1.1.1.0) t.1.1.1.1.1.0 r)
