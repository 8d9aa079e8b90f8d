-- Questions, honestly: U1(x,y,x,y) from the leaf that tells of q up to the root, witnessed, and the ask; or the ask of none.
-- The reply is true of the list.
use mathlib.Core.Path.{◌≡◌, refl, sym, ap, subst, ◌∙◌}
use mathlib.Core.Bool.{true}
use mathlib.Core.List.{List, [], ◌∷◌, ◌++◌, append_assoc}
use mathlib.Core.Logic.{inl, inr}
use Prim.Native.Nat.{ℕ, ◌<◌}
use native.Mathlib.Omega.{arith}
use borrow.Author.Tests.{eq-eqb}
use Rattle.seqs.specs.Choose.{either_yes, ◌and◌}
use Rattle.paper.specs.declared.Record.{Record}
use Rattle.paper.specs.declared.Registers.{Registers}
use Rattle.paper.specs.Strings.{Dig, nought, v1, u1, Memo, Str, digest_of, record_hash, H}
use Rattle.paper.specs.Requests as Q
use Rattle.paper.specs.Requests.{Request}
use Rattle.paper.specs.Refusals.{leaf_of, needs}
use Rattle.paper.specs.Answers.{finding_of}
use Rattle.paper.specs.Module.{Told}
use Rattle.rings.specs.Trees.{TreeLeaf, points, Tree, empty, tip, branch, leaves, hash_of, count}
use Rattle.rings.specs.Lists.{item_with, OnList}
use Rattle.rings.proofs.Counting.{one_self, count_nil, count_cons, count_append, occurs}
use Rattle.rings.proofs.Gaps.{gap_holds_lem, gap_tells}
use Rattle.rings.proofs.Items.{listed?}
use Rattle.rings.proofs.Ring.{gap_free}
use Rattle.rings.proofs.Find.{item_leaf, spot}
use Rattle.runs.specs.Run.{Items, last, Issue, World, told_at, next}
use Rattle.runs.specs.Sizes.{InEightBytes, ItemFits}
use Rattle.runs.specs.Frames.{turn_of, turns_of}
use Rattle.runs.specs.Ways.{item_of, next_of, hash_in, tells_of, has, found, way_to, rise}
use Rattle.runs.specs.Honest.{record_of, note, one_place, leaf_lines, ask_lines}
use Rattle.runs.specs.Liveness.{last_reply, TrueReply, finding_given, nothing_listed}
use Rattle.runs.proofs.Accepted.{NoneFails}
use Rattle.runs.proofs.Safe.{true_finding}
use Rattle.runs.proofs.Parts.{IsDigest}
use Rattle.runs.proofs.Frames.{Sendable}
use Rattle.runs.proofs.Climbs.{rise_digest}
use Rattle.runs.proofs.Sizes.{record_is}
use Rattle.runs.proofs.Fed.{at, run, told_is, Leads, leads_on, leads_one, Got, then, Brings, brings}
use Rattle.runs.proofs.Reach.{is_open_lem, note_digest, fits_own, one_place_lem, witness_line}
use Rattle.runs.proofs.Adopts.{not_zero_lem, at_root_lem}
use Rattle.runs.proofs.Standing.{InRing, Ground, spot_by, spotted, item_digest, above_zero}

module _ (D : List ℕ → Dig) where
  -- the reply to the last of some requests
  last_is : (w : World) (a : List Request) (q : Request)
      → last_reply D w (turns_of (a ++ (q ∷ []))) ≡ (told_at D (run D w a) (turn_of q)).says
  last_is w [] q = refl
  last_is w (p ∷ []) q = refl
  last_is w (p ∷ r ∷ a) q = last_is (next D last w (turn_of p)) (r ∷ a) q

  -- a tree without leaves hashes to 0
  pub none_hash : (T : Tree) → ((x : TreeLeaf) → count x (leaves T) ≡ 0) → hash_of D T ≡ nought
  unfolding H
  none_hash empty f = refl
  none_hash (tip x) f = absurd (omega (arith, f x, count_cons x x [], one_self x))
  none_hash (branch l r) f =
      let p = none_hash l (λ x. omega (arith, f x, count_append x (leaves l) (leaves r))) in
      let q = none_hash r (λ x. omega (arith, f x, count_append x (leaves l) (leaves r))) in
      (λ i. H D (p i) (q i))

module _ {D : List ℕ → Dig} {w : World} {T : Tree} (g : Ground D w T) where
  abbrev s : Registers
  s = w.registers

  abbrev DD : (l : List ℕ) → IsDigest (D l)
  DD = g.ready.digests

  -- ── a leaf that tells of q ──

  -- q's own leaf, or the one whose gap holds q
  pub tells : (q : ℕ) → 0 < q → (a : ℕ) (r : Record) (l : Items) → w.items ≡ item_with a r ∷ l → has (tells_of q) T ≡ true
  tells q h a r l e =
      elim (listed? q w.items) [
        | inr t ↦ (
            let i = item_leaf (record_hash D) q t.0 w.items t.1 in
            spot_by g (tells_of q) (points q i.0 (record_hash D t.0)) (rw (eq-eqb q q refl) refl) i.1)
        | inl u ↦ (
            let i = spot (record_hash D) q a r l h (rw e at g.ascending) (rw e at u) in
            spot_by g (tells_of q) (points i.a i.b i.w) (rw (gap_tells i.gap, either_yes) refl)
            (rw e i.on))
      ]

  -- ── what a question comes to ──

  pub record Answers (q : ℕ) (qs : List Request) : Type 0 where
    pub brings : Brings D w qs s w.items w.changed
    pub reply : TrueReply D q w.items (last_reply D w (turns_of qs))

  -- behind lines that change nothing
  answers_last : {a : List Request} {t : Memo} {F : List Str} {b : List Issue} (q : ℕ) (h : Got D w a t) (p : Request)
      → Leads D (at w h.formed h.book) (p ∷ []) (at w F b)
      → TrueReply D q w.items (told_at D (at w h.formed h.book) (turn_of p)).says → Answers q (a ++ (p ∷ []))
  answers_last {a} q h p l t =
      record {
        brings = brings D (leads_on D h.leads l);
        reply =
            subst (TrueReply D q w.items)
            (sym (last_is D w a p ∙ ap (λ (v : World). (told_at D v (turn_of p)).says) h.leads.to)) t;
      }

  module _ (q : ℕ) (small : InEightBytes q) (positive : 0 < q) where
    by_leaf : has (tells_of q) T ≡ true → Answers q (leaf_lines D s q T w.items)
    by_leaf have =
        let t = spotted g (tells_of q) have in
        let z = found (tells_of q) T in
        let A = item_of z in
        let A' = next_of z in
        let r = record_of A w.items in
        let k : r ≡ t.held = record_is 0 A t.held w.items g.ascending t.listed in
        let d : ItemFits A r = rw k (g.fits A t.held t.listed) in
        let x = digest_of D (leaf_of D A A' r) in
        let p = way_to (tells_of q) T in
        let y = rise D p x in
        let e : y ≡ s.root = ap (rise D p) (item_digest g A t.held t.listed (tells_of q) t refl) ∙ t.to_root in
        let hy = rise_digest DD p x (DD _) in
        let h₁ = one_place_lem g.ready w.formed w.book p (record { was = x; becomes = x })
        (record { old = DD _; new = DD _ }) in
        let h₂ = witness_line g.ready h₁.formed h₁.book x y (DD _) hy h₁.got in
        let h = then D h₁ h₂ in
        let m = note D s (v1 x y) in
        let a = Q.ask q A A' r y m in
        let v = at w h.formed h.book in
        let ok : Sendable a =
        (small, d.number_fits, t.next_fits, d.record_fits, (hy, (note_digest g.ready (v1 x y), tt))) in
        let n : NoneFails (needs D s a) =
        is_open_lem g.ready and not_zero_lem q positive and not_zero_lem A (above_zero g A t.held t.listed) and not_zero_lem A' t.next_positive
        and d.well_formed and rw t.passes refl and fits_own g.ready (v1 x y) and at_root_lem y s.root e and tt in
        let on = subst (InRing D w) (at_z z (record_hash D r) (ap (record_hash D) k ∙ t.hash_is)) t.in_ring in
        let listed : OnList A r w.items = subst (λ (u : Record). OnList A u w.items) (sym k) t.listed in
        let true_of = true_finding D (λ l. (DD l).wide) w.formed w.items q A A' r d.well_formed t.passes (
          listed,
          (λ c j. gap_free (record_hash D) c A A' (record_hash D r) w.items g.ascending (gap_holds_lem c A A' j) on),
          occurs _ _ on,
        ) in
        subst (Answers q)
        (append_assoc (one_place D s p (record { was = x; becomes = x })) (Q.witness x y (note D s (u1 x y x y)) ∷ []) (a ∷ []))
        (answers_last q h a (leads_one D v a ok n (h.got, tt))
        (finding_given (finding_of q A A' r) true_of (ap (λ (u : Told). u.says) (told_is D v a ok n))))
      where
        at_z : (z : TreeLeaf) (v : Dig) → v ≡ hash_in z → z ≡ points (item_of z) (next_of z) v
        at_z (points A B u) v e = ap (points A B) (sym e)

    none_at_all : w.items ≡ [] → Answers q (Q.ask_none q ∷ [])
    none_at_all e =
        let a = Q.ask_none q in
        let empty-root : nought ≡ s.root = sym (none_hash D T (λ x. g.holds x ∙ rw e (count_nil x))) ∙ g.root in
        let n : NoneFails (needs D s a) =
        (is_open_lem g.ready and not_zero_lem q positive and at_root_lem nought s.root empty-root and tt) in
        record {
          brings = brings D (leads_one D w a small n tt);
          reply = nothing_listed e (ap (λ (u : Told). u.says) (told_is D w a small n));
        }

    pub ask_answers : Answers q (ask_lines D s q T w.items)
    ask_answers = by_items w.items refl
      where
        by_items : (l : Items) → w.items ≡ l → Answers q (ask_lines D s q T l)
        by_items [] e = none_at_all e
        by_items (item_with b r ∷ l) e = subst (λ (m : Items). Answers q (leaf_lines D s q T m)) e (by_leaf (tells q positive b r l e))
