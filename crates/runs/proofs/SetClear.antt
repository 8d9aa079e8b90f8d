-- Set and clear, honestly: U1 from the item's leaf up to the root, and the line that changes the record.
use mathlib.Core.Path.{◌≡◌, refl, sym, ap, ◌∙◌}
use mathlib.Core.Bool.{false}
use mathlib.Core.List.{List, [], ◌∷◌}
use Prim.Native.Nat.{ℕ, ◌+◌, ◌<◌}
use native.Mathlib.Omega.{arith}
use borrow.Author.Tests.{ne_eqb, eqb-true}
use lib.Dec.{eqb}
use Rattle.seqs.specs.Choose.{opposite, ◌and◌}
use Rattle.seqs.specs.Bytes.{same}
use Rattle.paper.specs.declared.Record.{Record}
use Rattle.paper.specs.declared.Values.{Values}
use Rattle.paper.specs.declared.Registers.{Registers}
use Rattle.paper.specs.Strings.{Dig, blank, record_hash}
use Rattle.paper.specs.Requests as Q
use Rattle.paper.specs.Refusals.{top, next_record, cleared_record, none_fits}
use Rattle.paper.specs.Answers.{raised}
use Rattle.rings.specs.Trees.{points, Tree, tip, hash_of}
use Rattle.rings.specs.Lists.{OnList, put_record}
use Rattle.runs.specs.Run.{World}
use Rattle.runs.specs.Ways.{next_of, is_of, found, way_to, rise, Edit, risen}
use Rattle.runs.specs.TreesAfter.{tree_rewritten}
use Rattle.runs.specs.Honest.{record_of, say_u1, note, one_place, rewritten, set_lines, clear_lines}
use Rattle.runs.specs.Sizes.{ValuesFit, SensibleMass, ItemFits}
use Rattle.runs.proofs.Parts.{IsDigest, AllDigests}
use Rattle.runs.proofs.Climbs.{rise_digest}
use Rattle.runs.proofs.Places.{rise_plug, located, regrown_one}
use Rattle.runs.proofs.Sizes.{record_is}
use Rattle.runs.proofs.Masses.{not_silly_lem}
use Rattle.runs.proofs.Fed.{at, Got, Brings, brings_also, leads_on, leads_one, brings}
use Rattle.runs.proofs.Reach.{is_open_lem, note_digest, fits_own, one_place_lem}
use Rattle.runs.proofs.Adopts.{not_zero_lem, at_root_lem}
use Rattle.runs.proofs.Standing.{Ground, Spotted, above_zero, once, spotted, of_item_lem, item_digest}

module _ {D : List ℕ → Dig} {w : World} {T : Tree} (g : Ground D w T) where
  abbrev s : Registers
  s = w.registers

  abbrev DD : (l : List ℕ) → IsDigest (D l)
  DD = g.ready.digests

  -- the digests of its leaf and of the root, with item A's record and with another
  abbrev at_leaf : (A : ℕ) (new : Record) → Edit
  at_leaf A new = rewritten D s A new T w.items

  abbrev at_root : (A : ℕ) (new : Record) → Edit
  at_root A new = risen D (way_to (is_of A) T) (at_leaf A new)

  -- what holds of item A's leaf and its U1, whatever the new record
  record Rewrites (A : ℕ) (r new : Record) : Type 0 where
    spot : Spotted g (is_of A)
    item : ItemFits A (record_of A w.items)
    record_same : record_of A w.items ≡ r
    numbered : eqb A 0 ≡ false
    next_numbered : eqb (next_of (found (is_of A) T)) 0 ≡ false
    was_root : opposite (same (at_root A new).was s.root) ≡ false
    digests : AllDigests ((at_root A new).was ∷ (at_root A new).becomes ∷ note D s (say_u1 (at_leaf A new) (at_root A new)) ∷ [])
    fits : none_fits D s.secret (say_u1 (at_leaf A new) (at_root A new) ∷ []) (note D s (say_u1 (at_leaf A new) (at_root A new)))
        ≡ false
    new_root : (at_root A new).becomes ≡ hash_of D (tree_rewritten D A new T)
    lines : Got D w (one_place D s (way_to (is_of A) T) (at_leaf A new)) (say_u1 (at_leaf A new) (at_root A new))

  rewrites : (A : ℕ) (r new : Record) → OnList A r w.items → Rewrites A r new
  rewrites A r new m =
      let have = of_item_lem g A r m in
      let t = spotted g (is_of A) have in
      let x = found (is_of A) T in
      let X = tip (points A (next_of x) (record_hash D new)) in
      let p = way_to (is_of A) T in
      let e = at_leaf A new in
      let k = record_is 0 A r w.items g.ascending m in
      record {
        spot = t;
        item = rw k (g.fits A r m);
        record_same = k;
        numbered = not_zero_lem A (above_zero g A r m);
        next_numbered = not_zero_lem _ t.next_positive;
        was_root = at_root_lem _ s.root
            (ap (rise D p) (item_digest g A r m (is_of A) t (eqb-true A _ t.passes)) ∙ t.to_root);
        digests = rise_digest DD p e.was (DD _) and rise_digest DD p e.becomes (DD _)
            and note_digest g.ready (say_u1 e (risen D p e)) and tt;
        fits = fits_own g.ready (say_u1 e (risen D p e));
        new_root =
            rise_plug D p X
            ∙ ap (hash_of D) (sym (regrown_one x X p T (located (is_of A) T have).under_way (once g x)));
        lines = one_place_lem g.ready w.formed w.book p e (record { old = DD _; new = DD _ });
      }

  not_at_top : (c : ℕ) → c < top → eqb c top ≡ false
  not_at_top c h = ne_eqb c top (λ e. omega arith)

  pub set_brings : (A : ℕ) (v : Values) (r : Record) → OnList A r w.items → ValuesFit v → SensibleMass v.mass.0 → s.counter.0 < top
      → Brings D w (set_lines D s A v T w.items) (raised s (hash_of D (tree_rewritten D A (next_record s v) T)))
      (put_record A (next_record s v) w.items) (w.changed + 1)
  set_brings A v r m fit mass below =
      let u = rewrites A r (next_record s v) m in
      let h = u.lines in
      brings_also D refl (ap (raised s) u.new_root) refl
      (brings D (leads_on D h.leads
      (leads_one D (at w h.formed h.book) (Q.set_to A _ _ v _ _ _)
      (u.item.number_fits, u.spot.next_fits, u.item.record_fits, fit, u.digests)
      (is_open_lem g.ready and u.numbered and u.next_numbered and u.item.well_formed and not_silly_lem v.mass.0 mass
      and not_at_top s.counter.0 below and u.fits and u.was_root and tt)
      (h.got, tt))))

  pub clear_brings : (A : ℕ) (r : Record) → OnList A r w.items → blank r ≡ false → s.counter.0 < top
      → Brings D w (clear_lines D s A T w.items) (raised s (hash_of D (tree_rewritten D A cleared_record T)))
      (put_record A cleared_record w.items) (w.changed + 1)
  clear_brings A r m recorded below =
      let u = rewrites A r cleared_record m in
      let h = u.lines in
      brings_also D refl (ap (raised s) u.new_root) refl
      (brings D (leads_on D h.leads
      (leads_one D (at w h.formed h.book) (Q.clear A _ _ _ _ _)
      (u.item.number_fits, u.spot.next_fits, u.item.record_fits, u.digests)
      (is_open_lem g.ready and u.numbered and u.next_numbered and u.item.well_formed
      and (ap blank u.record_same ∙ recorded) and not_at_top s.counter.0 below and u.fits and u.was_root and tt)
      (h.got, tt))))
