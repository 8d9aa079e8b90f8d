-- What no memorandum bears on, a line at a time: the counter is a number of 64 bits, an open module has a secret and stays open,
-- every string formed is well formed, and before opening nothing is touched, formed or carried.
use mathlib.Core.Path.{◌≡◌, refl, sym, ap, subst, ◌∙◌}
use mathlib.Core.Bool.{Bool, true, false, true≢false}
use mathlib.Core.List.{List, [], ◌∷◌, ◌++◌}
use mathlib.Core.Logic.{inl, inr}
use Prim.Native.Nat.{ℕ}
use native.Mathlib.Omega.{arith}
use lib.ListN.{length}
use Rattle.paper.specs.declared.Registers.{Registers}
use Rattle.paper.specs.Strings.{Dig, Str}
use Rattle.paper.specs.Requests as Q
use Rattle.paper.specs.Requests.{Request}
use Rattle.paper.specs.Refusals.{is_open, below_top, needs, carried_memoranda, applies, Verdict, refused_by, all_passed, judge}
use Rattle.paper.specs.Answers.{rooted, raised, answer}
use Rattle.paper.specs.Module.{Told, told_by}
use Rattle.paper.proofs.Early.{late}
use Rattle.paper.proofs.Verdicts.{opposite_false, the_one}
use Rattle.runs.specs.Run.{LineTurn, BookReading, of_runs, World, told_at, landed, next, after}
use Rattle.runs.specs.Sizes.{InEightBytes}
use Rattle.runs.specs.Safety.{Untouched}
use Rattle.runs.proofs.Accepted.{NoneApplies}
use Rattle.runs.proofs.Lines.{asked, kind_in, Sorted, refusal, acceptance, sorted}
use Rattle.runs.proofs.Widths.{Is32, Wide}
use Rattle.runs.proofs.Formed.{Well, well_append, below_top_lem, closed_forms, well_formed_lem}
use Rattle.runs.proofs.Book.{entered_none}

module _ (D : List ℕ → Dig) (D32 : (l : List ℕ) → length (D l) ≡ 32) where
  -- ── the registers after an accepted line ──

  -- an open module has a secret of 32 bytes
  abbrev Keyed : Registers → Type 0
  Keyed s = s.opened ≡ true → Is32 s.secret

  -- what an accepted line leaves in the registers, whatever its root; and that it carries no memorandum to a module that is not
  -- open
  record Left (s a : Registers) (carries : List Dig) : Type 0 where
    small : InEightBytes s.counter.0 → InEightBytes a.counter.0
    keyed : Keyed s → Keyed a
    opened : a.opened ≡ true
    shut : s.opened ≡ false → carries ≡ []

  -- 13 and 7, each the only check of its number
  abbrev Open : Registers → Type 0
  Open s = applies 13 (is_open s ∷ []) ≡ false

  is_open_lem : (s : Registers) → Open s → s.opened ≡ true
  is_open_lem s o = opposite_false s.opened (the_one o)

  not_shut : {A : Type 0} (s : Registers) → Open s → s.opened ≡ false → A
  not_shut s o z = absurd (true≢false (sym (is_open_lem s o) ∙ z))

  stays : {ms : List Dig} (s : Registers) (y : Dig) → Open s → Left s (rooted s y) ms
  stays s y o = record { small = λ c. c; keyed = λ k. k; opened = is_open_lem s o; shut = not_shut s o }

  raises : {ms : List Dig} (s : Registers) (y : Dig) → Open s → applies 7 (below_top s ∷ []) ≡ false → Left s (raised s y) ms
  raises s y o e =
      record {
        small = λ c. below_top_lem s.counter.0 c (the_one e);
        keyed = λ k. k;
        opened = is_open_lem s o;
        shut = not_shut s o;
      }

  left : (s : Registers) (q : Request) → NoneApplies (needs D s q) → Wide q → Left s (answer D s q).after (carried_memoranda D s q)
  left s (Q.path x x' sides l) h w = stays s s.root (h 13)
  left s (Q.witness x y m) h w = stays s s.root (h 13)
  left s (Q.join x y x' y' m1 z z' m2) h w = stays s s.root (h 13)
  left s (Q.pair x1 y x1' y' m1 x2 z x2' z' m2) h w = stays s s.root (h 13)
  left s (Q.raise x1 x2 y x1' x2' y' m1 z z' m2) h w = stays s s.root (h 13)
  left s (Q.swap x1 x2 y y' m) h w = stays s s.root (h 13)
  left s (Q.first A) h w = stays s s.root (h 13)
  left s (Q.place A A' B' ω y y' m) h w = stays s s.root (h 13)
  left s (Q.turn x y m) h w = stays s s.root (h 13)
  left s (Q.chain x y m1 z m2) h w = stays s s.root (h 13)
  left s (Q.adopt y y' m) h w = stays s y' (h 13)
  left s (Q.set_to A A' old v y y' m) h w = raises s y' (h 13) (h 7)
  left s (Q.clear A A' old y y' m) h w = raises s y' (h 13) (h 7)
  left s (Q.ask q A A' r y m) h w = stays s s.root (h 13)
  left s (Q.ask_none q) h w = stays s s.root (h 13)
  left s (Q.unlock k) h w = record { small = λ c. c; keyed = λ k o. w; opened = refl; shut = λ o. refl }

  -- ── the side of the invariant that no memorandum bears on ──

  pub record Side (secret : Dig) (w : World) : Type 0 where
    pub small : InEightBytes w.registers.counter.0
    pub keyed : Keyed w.registers
    pub well : Well w.formed
    pub closed : w.registers.opened ≡ false → Untouched D secret w

  -- a refused line
  refused_side : (by : BookReading) (k : Dig) (w : World) (kind : ℕ) (q : Request) (n : ℕ) (fs : List Str) → Well fs
      → (w.registers.opened ≡ false → fs ≡ []) → Side k w → Side k (landed D by w (told_by D w.registers kind q (refused_by n fs)))
  refused_side by k w kind q n fs h none v =
      record {
        small = v.small;
        keyed = v.keyed;
        well = well_append fs w.formed h v.well;
        closed = λ o.
            let u = v.closed o in
            record {
              registers = u.registers;
              formed = rw (none o, u.formed) refl;
              issued = rw u.issued (entered_none by []);
              listed = u.listed;
              changed = u.changed;
            };
      }

  -- an accepted line
  accepted_side : (by : BookReading) (k : Dig) (w : World) (kind : ℕ) (q : Request) (fs : List Str)
      → NoneApplies (needs D w.registers q) → Wide q
      → Well (told_by D w.registers kind q (all_passed fs)).formed → Side k w → Side k
      (landed D by w (told_by D w.registers kind q (all_passed fs)))
  accepted_side by k w kind q fs n h f v =
      let s = w.registers in
      let l = left s q n h in
      record {
        small = l.small v.small;
        keyed = l.keyed v.keyed;
        well = well_append ((answer D s q).forms ++ fs) w.formed f v.well;
        closed = λ o. absurd (true≢false (sym l.opened ∙ o));
      }

  -- ── any line ──

  -- the strings of a line that is read and comes to the verdict u
  module _ (s : Registers) (small : InEightBytes s.counter.0) (keyed : Keyed s) (kind : ℕ) (q : Request) (h : Wide q) where
    abbrev NoneIfShut : Told → Type 0
    NoneIfShut a = s.opened ≡ false → a.formed ≡ []

    read_shut : (u : Verdict) → judge late [] (needs D s q) ≡ u → NoneIfShut (told_by D s kind q u)
    read_shut u e = subst (λ (v : Verdict). NoneIfShut (told_by D s kind q v)) e (closed_forms D D32 s kind q small h)

    read_well : (u : Verdict) → judge late [] (needs D s q) ≡ u → Well (told_by D s kind q u).formed
    read_well u e = by_open s.opened refl
      where
        by_open : (b : Bool) → s.opened ≡ b → Well (told_by D s kind q u).formed
        by_open true o =
            subst (λ (v : Verdict). Well (told_by D s kind q v).formed) e (well_formed_lem D D32 s kind q small (keyed o) h)
        by_open false o = subst Well (sym (read_shut u e o)) tt

  line_side : (by : BookReading) (k : Dig) (w : World) (t : LineTurn) → Side k w → Side k (next D by w t)
  line_side by k w t v = by_sort (sorted D w.registers t.line t.space)
    where
      by_sort : Sorted D w.registers t.line t.space → Side k (landed D by w (told_at D w t))
      by_sort (refusal n fs z e (inl p)) =
          subst (λ (x : Told). Side k (landed D by w x)) (sym e)
          (refused_side by k w (kind_in t) (asked t) n fs (rw p tt) (λ o. p) v)
      by_sort (refusal n fs z e (inr r)) =
          let well = read_well w.registers v.small v.keyed (kind_in t) (asked t) r.0 (refused_by n fs) r.1 in
          let shut = read_shut w.registers v.small v.keyed (kind_in t) (asked t) r.0 (refused_by n fs) r.1 in
          subst (λ (x : Told). Side k (landed D by w x)) (sym e)
          (refused_side by k w (kind_in t) (asked t) n fs well shut v)
      by_sort (acceptance fs e h j n i) =
          let well = read_well w.registers v.small v.keyed (kind_in t) (asked t) h (all_passed fs) j in
          subst (λ (x : Told). Side k (landed D by w x)) (sym e) (accepted_side by k w (kind_in t) (asked t) fs n h well v)

  -- ── a line at a module that is not open, and one at an open module ──

  pub record AtShut (w : World) (t : LineTurn) : Type 0 where
    pub forms_none : (told_at D w t).formed ≡ []
    pub carries_none : (told_at D w t).refusal ≡ 0 → carried_memoranda D w.registers (asked t) ≡ []

  pub at_shut : (k : Dig) (w : World) (t : LineTurn) → Side k w → w.registers.opened ≡ false → AtShut w t
  at_shut k w t v o = by_sort (sorted D w.registers t.line t.space)
    where
      by_sort : Sorted D w.registers t.line t.space → AtShut w t
      by_sort (refusal n fs z e (inl p)) =
          record {
            forms_none = ap (λ (a : Told). a.formed) e ∙ p;
            carries_none = λ h. absurd (z (sym (ap (λ (a : Told). a.refusal) e) ∙ h));
          }
      by_sort (refusal n fs z e (inr r)) =
          record {
            forms_none = ap (λ (a : Told). a.formed) e
                ∙ read_shut w.registers v.small v.keyed (kind_in t) (asked t) r.0 (refused_by n fs) r.1 o;
            carries_none = λ h. absurd (z (sym (ap (λ (a : Told). a.refusal) e) ∙ h));
          }
      by_sort (acceptance fs e h j n i) =
          record {
            forms_none = ap (λ (a : Told). a.formed) e
                ∙ read_shut w.registers v.small v.keyed (kind_in t) (asked t) h (all_passed fs) j o;
            carries_none = λ z. (left w.registers (asked t) n h).shut o;
          }

  pub stays_open : (w : World) (t : LineTurn) → w.registers.opened ≡ true → (told_at D w t).after.opened ≡ true
  stays_open w t o = by_sort (sorted D w.registers t.line t.space)
    where
      by_sort : Sorted D w.registers t.line t.space → (told_at D w t).after.opened ≡ true
      by_sort (refusal n fs z e r) = ap (λ (a : Told). a.after.opened) e ∙ o
      by_sort (acceptance fs e h j n i) = ap (λ (a : Told). a.after.opened) e ∙ (left w.registers (asked t) n h).opened

  -- ── a run ──

  pub side : (k : Dig) (ts : List LineTurn) → Side k (after D k ts)
  side k [] =
      record {
        small = omega arith;
        keyed = λ o. absurd (true≢false (sym o));
        well = tt;
        closed = λ o. record { registers = refl; formed = refl; issued = refl; listed = refl; changed = refl };
      }
  side k (t ∷ ts) = line_side of_runs k (after D k ts) t (side k ts)
