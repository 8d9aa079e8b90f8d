-- Memoranda read by the earliest and by the last line that issued them: worlds that differ in the reading alone have the same
-- registers and strings, both keep the invariant, and so, the root settling the list, they have one list.
use mathlib.Core.Path.{◌≡◌, refl, sym, ap, subst, ◌∙◌}
use mathlib.Core.Bool.{Bool, true, false}
use mathlib.Core.List.{List, [], ◌∷◌, ◌++◌, reverse_aux, Memᴰ}
use mathlib.Core.Logic.{◌⊎◌, inl, inr}
use Prim.Native.Nat.{ℕ}
use lib.ListN.{length}
use Rattle.seqs.specs.Choose.{either, either_no}
use Rattle.seqs.specs.Bytes.{same}
use Rattle.paper.specs.declared.Registers.{Registers}
use Rattle.paper.specs.Strings.{Dig, Str, digest_of}
use Rattle.paper.specs.Refusals.{carried_memoranda}
use Rattle.paper.specs.Answers.{Effect, none', issues, adopts, changes}
use Rattle.paper.specs.Module.{Told, answer_to}
use Rattle.rings.specs.Meanings.{StandsFor, Fault}
use Rattle.rings.proofs.Nodes.{◌>>=◌, instead}
use Rattle.rings.proofs.InPaper.{same_list}
use Rattle.runs.specs.Run.{LineTurn, Issue, BookReading, earliest, last, of_runs, entered, is_issued, World, issued_by, told_at, next, after}
use Rattle.runs.specs.Endings.{Ending, by_forgery, earlier}
use Rattle.runs.specs.Liveness.{latest_first, fed}
use Rattle.runs.specs.Also.{AllBacked, onwards, ReadingsAgree}
use Rattle.runs.proofs.Safe.{Core}
use Rattle.runs.proofs.Lines.{asked}
use Rattle.runs.proofs.Runs.{Out, line_out, shown, run}

-- ── what is in a book, whichever way it is kept ──

either_swap : (a b : Bool) → either a b ≡ either b a
either_swap true true = refl
either_swap true false = refl
either_swap false true = refl
either_swap false false = refl

either_assoc : (a b c : Bool) → either (either a b) c ≡ either a (either b c)
either_assoc true b c = refl
either_assoc false b c = refl

issued_append : (m : Dig) (a b : List Issue) → is_issued m (a ++ b) ≡ either (is_issued m a) (is_issued m b)
issued_append m [] b = refl
issued_append m (i ∷ a) b =
    ap (either (same i.memorandum m)) (issued_append m a b)
    ∙ sym (either_assoc (same i.memorandum m) (is_issued m a) (is_issued m b))

issued_entered : (by : BookReading) (m : Dig) (b i : List Issue) → is_issued m (entered by b i) ≡ either (is_issued m b) (is_issued m i)
issued_entered earliest m b i = issued_append m b i
issued_entered last m b i = issued_append m i b ∙ either_swap (is_issued m i) (is_issued m b)

issued_reverse : (m : Dig) (b c : List Issue) → is_issued m (reverse_aux b c) ≡ either (is_issued m b) (is_issued m c)
issued_reverse m [] c = refl
issued_reverse m (i ∷ b) c =
    issued_reverse m b (i ∷ c) ∙ sym (either_assoc (is_issued m b) (same i.memorandum m) (is_issued m c))
    ∙ ap (λ (x : Bool). either x (is_issued m c)) (either_swap (is_issued m b) (same i.memorandum m))

-- ── worlds that differ in their reading alone ──

pub record Alike (v w : World) : Type 0 where
  pub registers : v.registers ≡ w.registers
  pub formed : v.formed ≡ w.formed
  pub issued : (m : Dig) → is_issued m v.book ≡ is_issued m w.book

pub alike_latest : (w : World) → Alike (latest_first w) w
alike_latest w =
    record {
      registers = refl;
      formed = refl;
      issued = λ m. issued_reverse m w.book [] ∙ either_no (is_issued m w.book);
    }

module _ (D : List ℕ → Dig) where
  told_alike : (v w : World) (t : LineTurn) → Alike v w → told_at D v t ≡ told_at D w t
  told_alike v w t a = ap (λ (r : Registers). answer_to D r t.line t.space) a.registers

  -- the memorandum that a line issues is the same in both
  issued_alike : (v w : World) (e : Effect) (m : Dig) → v.registers ≡ w.registers
      → is_issued m (issued_by D v e) ≡ is_issued m (issued_by D w e)
  issued_alike v w none' m h = refl
  issued_alike v w (issues t c) m h = rw h refl
  issued_alike v w (adopts n) m h = refl
  issued_alike v w (changes A r) m h = refl

  pub alike_next : (by by' : BookReading) (v w : World) (t : LineTurn) → Alike v w → Alike (next D by v t) (next D by' w t)
  alike_next by by' v w t a =
      let e = told_alike v w t a in
      record {
        registers = ap (λ (x : Told). x.after) e;
        formed = (λ i. (e i).formed ++ a.formed i);
        issued = λ m.
            issued_entered by m v.book (issued_by D v (told_at D v t).effect)
            ∙ (λ i. either (a.issued m i) (is_issued m (issued_by D v (e i).effect)))
            ∙ ap (either (is_issued m w.book)) (issued_alike v w (told_at D w t).effect m a.registers)
            ∙ sym (issued_entered by' m w.book (issued_by D w (told_at D w t).effect));
      }

module _ (D : List ℕ → Dig) (D32 : (l : List ℕ) → length (D l) ≡ 32) where
  -- ── the invariant by either reading ──

  core_next : (by : BookReading) (k : Dig) (ts : List LineTurn) (v : World) (t : LineTurn) → Alike v (after D k ts) → Core D D32 v
      → Ending D k (t ∷ ts) ⊎ Core D D32 (next D by v t)
  core_next by k ts v t a c = by_out (line_out D D32 by v t c)
    where
      by_out : Out D D32 by v (asked t) (told_at D v t) → Ending D k (t ∷ ts) ⊎ Core D D32 (next D by v t)
      by_out (inl (inl f)) =
          inl (shown D D32 k (t ∷ ts) (subst (Fault (digest_of D)) (alike_next D by of_runs v (after D k ts) t a).formed f))
      by_out (inl (inr x)) =
          inl (by_forgery t (record {
            accepted = ap (λ (y : Told). y.refusal) (sym (told_alike D v (after D k ts) t a)) ∙ x.0;
            memorandum = x.1.0;
            carries = subst (λ (r : Registers). Memᴰ x.1.0 (carried_memoranda D r (asked t))) a.registers x.1.1;
            unissued = sym (a.issued x.1.0) ∙ x.1.2;
          }))
      by_out (inr x) = inr x.0

  book_reversed : (F : List Str) (b c : List Issue) → AllBacked D F b → AllBacked D F c → AllBacked D F (reverse_aux b c)
  book_reversed F [] c h k = k
  book_reversed F (i ∷ b) c h k = book_reversed F b (i ∷ c) h.1 (h.0, k)

  core_latest : (w : World) → Core D D32 w → Core D D32 (latest_first w)
  core_latest w c =
      record {
        tree = c.tree;
        root = c.root;
        stands = c.stands;
        book = book_reversed w.formed w.book [] c.book tt;
        counter = c.counter;
      }

  -- ── further lines ──

  ended : (k : Dig) (us ts : List LineTurn) → Ending D k ts → Ending D k (onwards us ts)
  ended k [] ts e = e
  ended k (t ∷ us) ts e = ended k us (t ∷ ts) (earlier t e)

  -- they come to a world that keeps the invariant and differs from the run's own in its reading alone
  abbrev FedWell : (k : Dig) (us ts : List LineTurn) (v : World) → Type 0
  FedWell k us ts v = Core D D32 (fed D v us) × Alike (fed D v us) (after D k (onwards us ts))

  core_fed : (k : Dig) (us ts : List LineTurn) (v : World) → Alike v (after D k ts) → Core D D32 v
      → Ending D k (onwards us ts) ⊎ FedWell k us ts v
  core_fed k [] ts v a c = inr (c, a)
  core_fed k (t ∷ us) ts v a c = do
    c' ← instead (ended k us (t ∷ ts)) (core_next last k ts v t a c)
    core_fed k us (t ∷ ts) (next D last v t) (alike_next D last of_runs v (after D k ts) t a) c'

  -- one root, one list
  same_by_root : (k : Dig) (ts : List LineTurn) (v : World) → Alike v (after D k ts) → Core D D32 v → Core D D32 (after D k ts)
      → Ending D k ts ⊎ (v.items ≡ (after D k ts).items)
  same_by_root k ts v a c d =
      instead (shown D D32 k ts)
      (same_list D D32 (after D k ts).formed c.tree d.tree v.items (after D k ts).items
      (c.root ∙ ap (λ (r : Registers). r.root) a.registers ∙ sym d.root)
      (subst (λ (F : List Str). StandsFor (digest_of D) F c.tree v.items) a.formed c.stands) d.stands)

  pub readings_agree : ReadingsAgree D
  readings_agree k ts us = do
    let v = latest_first (after D k ts)
    c ← instead (ended k us ts) (run D D32 k ts)
    x ← core_fed k us ts v (alike_latest (after D k ts)) (core_latest (after D k ts) c.0)
    y ← run D D32 k (onwards us ts)
    same_by_root k (onwards us ts) (fed D v us) x.1 x.0 y.0
