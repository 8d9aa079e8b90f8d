-- The invariant: the root stands for the list, and every memorandum in the book means what it says. Kind by kind, an accepted
-- line keeps it, its answer is true and what it does is legal, or a fault or a forgery can be shown.
use mathlib.Core.Path.{◌≡◌, refl, sym, ap, subst, ◌∙◌}
use mathlib.Core.Bool.{Bool, true, false, true≢false}
use mathlib.Core.List.Memᴰ
use mathlib.Core.List.{List, [], ◌∷◌, ◌++◌, Memᴰ}
use mathlib.Core.Logic.{◌⊎◌, inl, inr}
use Prim.Native.Nat.{ℕ, ◌+◌}
use native.Mathlib.Omega.{arith}
use borrow.Author.Tests.{eqb-true, eqb-false, ne_eqb}
use lib.Dec.{eqb}
use lib.ListN.{length}
use Rattle.seqs.specs.Choose.{pick, either}
use Rattle.seqs.specs.Bytes.{same, same_true}
use Rattle.paper.specs.declared.Record.{Record}
use Rattle.paper.specs.declared.Values.{Values}
use Rattle.paper.specs.declared.Registers.{Registers}
use Rattle.paper.specs.Strings.{Dig, nought, empty_record, Memo, u1, v1, u2, ei, Str, leaf, digest_of, memorandum_forms, malformed, blank, record_forms, in_gap, parent_forms, fold_forms}
use Rattle.paper.specs.Requests as Q
use Rattle.paper.specs.Requests.{Request}
use Rattle.paper.specs.Refusals.{is_root, first_memo, next_record, cleared_record, place_forms, place_says, none_fits, tried, leaf_of, leaf_forms, change_forms, change_says, needs, those, applies, all_passed}
use Rattle.paper.specs.Answers.{ListChange, none', issues, changes, answer, finding_of}
use Rattle.paper.specs.Module.{Told, told_by}
use Rattle.paper.specs.declared.Finding.TheVariants.{Recorded, Listed, Gap}
use Rattle.paper.proofs.Verdicts.{opposite_false, the_one}
use Rattle.rings.specs.Trees.{Tree, hash_of}
use Rattle.rings.specs.Lists.{item_with}
use Rattle.rings.specs.Meanings.{Within, RecordKnown, known_empty, known_recorded, StandsFor, MemoMeans}
use Rattle.rings.proofs.Nodes.{◌>>=◌, instead}
use Rattle.rings.proofs.Memos.{stands_more}
use Rattle.rings.proofs.Bridge.{hash_is, known_by}
use Rattle.rings.proofs.Paths.{path}
use Rattle.rings.proofs.TreeKinds as T
use Rattle.rings.proofs.RingKinds as R
use Rattle.rings.proofs.InPaper as P
use Rattle.runs.specs.Run.{BookReading, Items, steps_for, meaning, World, landed}
use Rattle.runs.specs.Sizes.{SensibleMass}
use Rattle.runs.specs.Safety.{TrueFinding, LegalEffect}
use Rattle.runs.specs.Also.{AllBacked}
use Rattle.runs.proofs.Book.{entered_none, entry_by, book_more, book_enter}
use Rattle.runs.proofs.Masses.{sensible}
use Rattle.runs.proofs.Carried as C
use Rattle.runs.proofs.Carried.{Given, Or, Asked, asked_at}

-- a well formed record with revision 0 is the empty one
pub blank_empty : (r : Record) → blank r ≡ true → malformed r ≡ false → r ≡ empty_record
unfolding record_forms
blank_empty r e ok = by_known (known_by (λ s. []) [] r ok no_forms)
  where
    no_forms : Within (record_forms r) []
    no_forms = rw e (λ s i. i)

    by_known : RecordKnown (λ s. []) [] r → r ≡ empty_record
    by_known (known_empty p) = p
    by_known (known_recorded n m) = absurd (n (eqb-true r.revision.0 0 e))

module _ (D : List ℕ → Dig) where
  -- The answer to a request is true of the list: an ask's by its finding, an ask of none's by there being none. A line that does
  -- something, and an opening, tell nothing of it.
  pub data TrueFor (l : Items) : Request → Type 0 where
    of_ask : {n A A' : ℕ} {r : Record} {y m : Dig} → TrueFinding D n (finding_of n A A' r) l → TrueFor l (Q.ask n A A' r y m)
    of_ask_none : {n : ℕ} → l ≡ [] → TrueFor l (Q.ask_none n)
    of_open : {k : Dig} → TrueFor l (Q.unlock k)
    of_doing : {q : Request} (s : Registers) → ((answer D s q).effect ≡ none' → ⊥) → TrueFor l q

  pub finding_true : {l : Items} {n A A' : ℕ} {r : Record} {y m : Dig} → TrueFor l (Q.ask n A A' r y m)
      → TrueFinding D n (finding_of n A A' r) l
  finding_true (of_ask f) = f
  finding_true (of_doing s d) = absurd (d refl)

  pub none_true : {l : Items} {n : ℕ} → TrueFor l (Q.ask_none n) → l ≡ []
  none_true (of_ask_none e) = e
  none_true (of_doing s d) = absurd (d refl)

module _ (D : List ℕ → Dig) (D32 : (l : List ℕ) → length (D l) ≡ 32) where
  -- the root stands for the list, and the book is backed
  pub record Core (w : World) : Type 0 where
    pub tree : Tree
    pub root : hash_of D tree ≡ w.registers.root
    pub stands : StandsFor (digest_of D) w.formed tree w.items
    pub book : AllBacked D w.formed w.book
    pub counter : w.registers.counter.0 ≡ w.changed

  -- strings formed stay formed
  more : (a : Told) (w : World) → Within w.formed (a.formed ++ w.formed)
  more a w s i = Memᴰ.append_right a.formed i

  -- ── a line that changes nothing but the strings ──

  pub kept_core : (by : BookReading) (w : World) (a : Told) → a.after.root ≡ w.registers.root → a.after.counter
      ≡ w.registers.counter
      → a.effect ≡ none' → Core w → Core (landed D by w a)
  kept_core by w a r c e v =
      record {
        tree = v.tree;
        root = v.root ∙ sym r;
        stands = rw e (stands_more (digest_of D) (more a w) v.stands);
        book = rw (e, entered_none by w.book) (book_more D w.book (more a w) v.book);
        counter = rw e (ap (λ (x : _). x.0) c ∙ v.counter);
      }

  -- what an ask tells is true
  pub true_finding : (F : List Str) (l : Items) (q A A' : ℕ) (r : Record) → malformed r ≡ false
      → either (eqb q A) (in_gap q A A') ≡ true
      → P.Found D D32 F A A' r l → TrueFinding D q (finding_of q A A' r) l
  unfolding finding_of malformed
  true_finding F l q A A' r ok near f = by_tests (eqb q A) (blank r) refl refl near
    where
      by_tests : (b c : Bool) → eqb q A ≡ b → blank r ≡ c → either b (in_gap q A A') ≡ true
          → TrueFinding D q (pick b (pick c (Listed (record { 0 = A })) (Recorded (record { 0 = A }) r))
          (Gap (record { 0 = A }) (record { 0 = A' }))) l
      by_tests true true e e' n = (eqb-true q A e, subst (λ (x : Record). Memᴰ (item_with A x) l) (blank_empty r e' ok) f.0)
      by_tests true false e e' n = (eqb-true q A e, e', f.0)
      by_tests false c e e' n = (n, f.1 q n, (r, f.0, f.2))

  -- ── an accepted line ──

  module _ (by : BookReading) (w : World) (kind : ℕ) (fs : List Str) (v : Core w) where
    abbrev s : Registers
    s = w.registers

    abbrev key : Dig
    key = s.secret

    abbrev dig : Str → Dig
    dig = digest_of D

    abbrev a : Request → Told
    a q = told_by D s kind q (all_passed fs)

    abbrev G : Request → List Str
    G q = (a q).formed ++ w.formed

    abbrev GivenTo : Request → Type 0
    GivenTo q = Given D w (G q) q

    -- what it comes to
    abbrev Comes : Request → Type 0
    Comes q = Or D w (G q) q (Core (landed D by w (a q)) × TrueFor D w.items q × LegalEffect D w (a q).effect)

    backed : (q : Request) → AllBacked D (G q) w.book
    backed q = book_more D w.book (more (a q) w) v.book

    standing : (q : Request) → StandsFor dig (G q) v.tree w.items
    standing q = stands_more dig (more (a q) w) v.stands

    -- 10: y is the root
    at_root_lem : (y : Dig) → applies 10 (is_root s y ∷ []) ≡ false → hash_of D v.tree ≡ y
    at_root_lem y h = v.root ∙ sym (same_true y s.root (opposite_false (same y s.root) (the_one h)))

    -- a memorandum that the check of number n asks to say t, behind other strings or none
    means_after : {q : Request} {l : List Str} {t : Memo} {m : Dig} → Asked D w (G q) q l (t ∷ []) m
        → Or D w (G q) q (MemoMeans dig (G q) t (steps_for m w.book))
    means_after {q} {l} {t} {m} a = C.means D w (G q) (backed q) t m a

    means : {q : Request} (g : GivenTo q) (n : ℕ) (t : Memo) (m : Dig)
        → those n (needs D s q)
        ≡ record { number = n; fails = none_fits D key (t ∷ []) m; forms = tried D key (t ∷ []) m; compares = m ∷ [] } ∷ []
        → Or D w (G q) q (MemoMeans dig (G q) t (steps_for m w.book))
    means {q} g n t m e = means_after (asked_at D w (G q) g n [] (t ∷ []) m e)

    -- the strings that an answer forms before its memorandum
    before_issue : {q : Request} → GivenTo q → {t : Memo} {l : List Str} → (answer D s q).forms ≡ memorandum_forms D t key ++ l
        → Within l (G q)
    before_issue g {t} e x i = g.of_answer x (rw e (Memᴰ.append_right (memorandum_forms D t key) i))

    -- a line that issues a memorandum whose meaning is known; its strings are the first that the answer forms
    issued : {q : Request} (g : GivenTo q) {t : Memo} {c : ListChange} {l : List Str} → (answer D s q).after ≡ s
        → (answer D s q).effect ≡ issues t c → (answer D s q).forms ≡ memorandum_forms D t key ++ l
        → MemoMeans dig (G q) t (meaning w.book c) → Comes q
    issued {q} g {t} {l = l} e₁ e₂ e₃ m =
        inr (
          record {
            tree = v.tree;
            root = v.root ∙ sym (ap (λ (r : Registers). r.root) e₁);
            stands = rw e₂ (standing q);
            book =
                rw e₂
                (book_enter D by w.book _ (backed q)
                (entry_by D t key _ (λ x i. g.of_answer x (rw e₃ (Memᴰ.append_left l i))) m));
            counter = rw e₂ (ap (λ (r : Registers). r.counter.0) e₁ ∙ v.counter);
          },
          of_doing {q = q} s (λ z. true≢false (let e = sym e₂ ∙ z in cc)),
          rw e₂ tt,
        )

    -- a record that changes
    changed : {q : Request} → GivenTo q → (A A' : ℕ) (old new : Record) (y y' m : Dig)
        → those 8 (needs D s q) ≡ first_memo D s (change_forms D A A' old new) (change_says D A A' old new y y' ∷ []) m ∷ []
        → malformed old ≡ false → malformed new ≡ false → hash_of D v.tree ≡ y
        → (answer D s q).after.root ≡ y' → (answer D s q).after.counter.0 ≡ s.counter.0 + 1
        → (answer D s q).effect ≡ changes A new → (blank new ≡ true → blank old ≡ false)
        → ((new.revision.0 ≡ s.counter.0 + 1) × SensibleMass new.mass.0) ⊎ (new ≡ cleared_record) → Comes q
    changed {q} g A A' old new y y' m e ok ok' r e₁ e₂ e₃ full next = do
      let a = asked_at D w (G q) g 8 (change_forms D A A' old new) (change_says D A A' old new y y' ∷ []) m e
      u ← means_after a
      p ← instead inl (P.put D D32 (G q) A A' old new v.tree w.items ok ok' a.formed_before u r (standing q))
      inr (
        record {
          tree = p.tree;
          root = hash_is D D32 p.tree ∙ p.tree_hash ∙ sym e₁;
          stands = rw e₃ p.stands;
          book = rw (e₃, entered_none by w.book) (backed q);
          counter = rw e₃ (e₂ ∙ ap (λ (n : ℕ). n + 1) v.counter);
        },
        of_doing {q = q} s (λ z. true≢false (let e = sym e₃ ∙ z in cc)),
        rw e₃ (old, p.was, full, next),
      )

    -- a set's new record has a revision above 0
    set_recorded : (v : Values) → blank (next_record s v) ≡ false
    set_recorded v = ne_eqb (s.counter.0 + 1) 0 (λ z. omega arith)

    set_sound : (v : Values) → malformed (next_record s v) ≡ false
    unfolding malformed
    set_sound v = rw (set_recorded v) refl

    cleared_sound : malformed cleared_record ≡ false
    unfolding malformed
    cleared_sound = refl

    pub accepted : (q : Request) → GivenTo q → Comes q
    accepted (Q.path x x' sides l) g =
        let q = Q.path x x' sides l in
        let i = before_issue g refl in
        issued g refl refl refl
        (path D D32 (G q) x x' sides l g.wide.0 g.wide.1 g.wide.2
        (λ t m. i t (Memᴰ.append_right (fold_forms D x' sides l) m)) (λ t m. i t (Memᴰ.append_left _ m)))
    accepted (Q.witness x y m) g = do
      u ← means g 8 (u1 x y x y) m refl
      issued g refl refl refl (T.witness dig u)
    accepted (Q.join x y x' y' m1 z z' m2) g = do
      u ← means g 8 (u1 x y x' y') m1 refl
      v ← means g 9 (u1 y z y' z') m2 refl
      issued g refl refl refl (T.join dig u v)
    accepted (Q.pair x1 y x1' y' m1 x2 z x2' z' m2) g = do
      let q = Q.pair x1 y x1' y' m1 x2 z x2' z' m2
      let i = before_issue g refl
      u ← means g 8 (u1 x1 y x1' y') m1 refl
      v ← means g 9 (u1 x2 z x2' z') m2 refl
      issued g refl refl refl (P.pair D D32 (G q) g.wide.1 g.wide.5 g.wide.3 g.wide.7
          (λ t m. i t (Memᴰ.append_right (parent_forms y' z') m)) (λ t m. i t (Memᴰ.append_left _ m)) u v)
    accepted (Q.raise x1 x2 y x1' x2' y' m1 z z' m2) g = do
      u ← means g 8 (u2 x1 x2 y x1' x2' y') m1 refl
      v ← means g 9 (u1 y z y' z') m2 refl
      issued g refl refl refl (T.raise dig u v)
    accepted (Q.swap x1 x2 y y' m) g = do
      u ← means g 8 (u2 x1 x2 y x2 x1 y') m refl
      issued g refl refl refl (R.swap dig u)
    accepted (Q.first A) g =
        issued g refl refl refl
        (R.first dig A (omega (arith, eqb-false A 0 (the_one (g.passes 4)))) (before_issue g refl _ (Memᴰ.head refl)))
    accepted (Q.place A A' B' ω y y' m) g = do
      let q = Q.place A A' B' ω y y' m
      let x1 = dig (leaf A A' ω)
      let x1' = dig (leaf A B' ω)
      let x2 = dig (leaf A' B' nought)
      let c = asked_at D w (G q) g 8 (place_forms A A' B' ω) (place_says D A A' B' ω y y') m refl
      u ← C.means_either D w (G q) (backed q) (u2 x1 x2 y x1' nought y') (u2 x2 x1 y nought x1' y') m c
      issued g refl refl refl (P.place D D32 (G q) A A' B' ω (opposite_false _ (the_one (g.passes 6))) c.formed_before u)
    accepted (Q.turn x y m) g = do
      u ← means g 8 (ei x y) m refl
      issued g refl refl refl (R.turn dig u)
    accepted (Q.chain x y m1 z m2) g = do
      u ← means g 8 (ei x y) m1 refl
      v ← means g 9 (ei y z) m2 refl
      issued g refl refl refl (R.chain dig u v)
    accepted (Q.adopt y y' m) g = do
      let q = Q.adopt y y' m
      u ← means g 8 (ei y y') m refl
      p ← instead inl (P.adopt D D32 (G q) v.tree w.items u (at_root_lem y (g.passes 10)) (standing q))
      inr (
        record {
          tree = p.tree;
          root = hash_is D D32 p.tree ∙ p.tree_hash;
          stands = p.stands;
          book = rw (entered_none by w.book) (backed q);
          counter = v.counter;
        },
        of_doing {q = q} s (λ z. true≢false cc),
        p.legal,
      )
    accepted (Q.set_to A A' old v y y' m) g =
        changed g A A' old (next_record s v) y y' m refl (the_one (g.passes 5)) (set_sound v) (at_root_lem y (g.passes 10)) refl refl refl
        (λ e. absurd (true≢false (sym e ∙ set_recorded v))) (inl (refl, sensible v.mass.0 (the_one (g.passes 16))))
    accepted (Q.clear A A' old y y' m) g =
        changed g A A' old cleared_record y y' m refl (the_one (g.passes 5)) cleared_sound (at_root_lem y (g.passes 10)) refl refl refl
        (λ e. the_one (g.passes 11)) (inr refl)
    accepted (Q.ask n A A' r y m) g = do
      let q = Q.ask n A A' r y m
      let c = asked_at D w (G q) g 8 (leaf_forms D A A' r) (v1 (dig (leaf_of D A A' r)) y ∷ []) m refl
      let ok : malformed r ≡ false = the_one (g.passes 5)
      u ← means_after c
      f ← instead inl (P.ask D D32 (G q) A A' r v.tree w.items ok c.formed_before u (at_root_lem y (g.passes 10)) (standing q))
      inr (
        kept_core by w (a q) refl refl refl v,
        of_ask (true_finding w.formed w.items n A A' r ok (opposite_false _ (the_one (g.passes 6))) f),
        tt,
      )
    accepted (Q.ask_none n) g = do
      let q = Q.ask_none n
      f ← instead inl
          (P.ask_none_lem D D32 (G q) v.tree w.items (at_root_lem nought (g.passes 10)) (standing q))
      inr (kept_core by w (a q) refl refl refl v, of_ask_none f, tt)
    accepted (Q.unlock k) g = inr (kept_core by w (a (Q.unlock k)) refl refl refl v, of_open, tt)
