-- A mass that is not silly, by its bounds. And no record on a run's list has a silly one: only a set puts a record there that stands for
-- one, and no set is accepted but past check 16.
use mathlib.Core.Path.{◌≡◌, refl, sym, subst, ◌∙◌}
use mathlib.Core.Bool.{false, true≢false}
use mathlib.Core.List.{List, [], ◌∷◌}
use Prim.Native.Nat.{ℕ, ◌≤◌}
use native.Mathlib.Decide.{dec_le}
use native.Mathlib.Omega.{arith}
use borrow.Author.Tests.{eq-eqb, ne_eqb, lt-ltb, le-ltb}
use Rattle.paper.specs.declared.Record.{Record}
use Rattle.paper.specs.Strings.{Dig, empty_record, blank, heaviest, silly_mass}
use Rattle.paper.specs.Requests as Q
use Rattle.paper.specs.Requests.{Request}
use Rattle.paper.specs.Refusals.{needs}
use Rattle.paper.specs.Answers.{Effect, answer}
use Rattle.paper.specs.Module.{Told}
use Rattle.paper.proofs.Verdicts.{the_one}
use Rattle.rings.specs.Changes.{Step, insertion, removal, do_steps}
use Rattle.rings.specs.Meanings.{AllRecords}
use Rattle.rings.proofs.Items.{record_at, insert_all, remove_all, put_all}
use Rattle.runs.specs.Run.{LineTurn, Items, World, of_runs, steps_for, replayed, next, after}
use Rattle.runs.specs.Sizes.{SensibleMass}
use Rattle.runs.specs.Also.{MassesSensible}
use Rattle.runs.proofs.Accepted.{NoneApplies}
use Rattle.runs.proofs.Lines.{asked, Sorted, refusal, acceptance, sorted}

-- ── one mass ──

pub not_silly_lem : (n : ℕ) → SensibleMass n → silly_mass n ≡ false
unfolding silly_mass
not_silly_lem n h = let some = h.0 in rw (ne_eqb n 0 (λ e. omega arith), le-ltb heaviest n h.1) refl

pub sensible : (n : ℕ) → silly_mass n ≡ false → SensibleMass n
unfolding silly_mass
sensible n h = by_bounds (dec_le 1 n) (dec_le n heaviest)
  where
    by_bounds : Dec (1 ≤ n) → Dec (n ≤ heaviest) → SensibleMass n
    by_bounds (yes a) (yes b) = (a, b)
    by_bounds (no a) b = absurd (true≢false (sym (rw (eq-eqb n 0 (omega (arith, a))) refl) ∙ h))
    by_bounds (yes a) (no b) =
        absurd (true≢false (sym (rw (ne_eqb n 0 (λ e. omega arith), lt-ltb heaviest n (omega (arith, b))) refl) ∙ h))

-- ── every record of the list ──

abbrev Sensible : Record → Type 0
Sensible r = blank r ≡ false → SensibleMass r.mass.0

steps_sensible : (c : List Step) (l : Items) → AllRecords Sensible l → AllRecords Sensible (do_steps c l)
steps_sensible [] l g = g
steps_sensible (insertion A ∷ c) l g =
    steps_sensible c _ (insert_all Sensible A empty_record l (λ e. absurd (true≢false e)) g)
steps_sensible (removal A ∷ c) l g = steps_sensible c _ (remove_all Sensible A l g)

module _ (D : List ℕ → Dig) where
  module _ (w : World) (g : AllRecords Sensible w.items) where
    abbrev Kept : Effect → Type 0
    Kept e = AllRecords Sensible (replayed D w e)

    -- what an accepted request does
    done : (q : Request) → NoneApplies (needs D w.registers q) → Kept (answer D w.registers q).effect
    done (Q.path x x' sides l) n = g
    done (Q.witness x y m) n = g
    done (Q.join x y x' y' m1 z z' m2) n = g
    done (Q.pair x1 y x1' y' m1 x2 z x2' z' m2) n = g
    done (Q.raise x1 x2 y x1' x2' y' m1 z z' m2) n = g
    done (Q.swap x1 x2 y y' m) n = g
    done (Q.first A) n = g
    done (Q.place A A' B' ω y y' m) n = g
    done (Q.turn x y m) n = g
    done (Q.chain x y m1 z m2) n = g
    done (Q.adopt y y' m) n = steps_sensible (steps_for m w.book) w.items g
    done (Q.set_to A A' old v y y' m) n =
        put_all Sensible A _ w.items (λ e. sensible v.mass.0 (the_one (n 16))) g
    done (Q.clear A A' old y y' m) n = put_all Sensible A empty_record w.items (λ e. absurd (true≢false e)) g
    done (Q.ask q A A' r y m) n = g
    done (Q.ask_none q) n = g
    done (Q.unlock k) n = g

    kept : (t : LineTurn) → AllRecords Sensible (next D of_runs w t).items
    kept t = by_sort (sorted D w.registers t.line t.space)
      where
        by_sort : Sorted D w.registers t.line t.space → AllRecords Sensible (next D of_runs w t).items
        by_sort (refusal n fs z e r) = subst (λ (a : Told). Kept a.effect) (sym e) g
        by_sort (acceptance fs e j h n i) = subst (λ (a : Told). Kept a.effect) (sym e) (done (asked t) n)

  all_sensible : (k : Dig) (ts : List LineTurn) → AllRecords Sensible (after D k ts).items
  all_sensible k [] = tt
  all_sensible k (t ∷ ts) = kept (after D k ts) (all_sensible k ts) t

  pub masses_sensible : MassesSensible D
  masses_sensible k ts A r m = record_at Sensible (after D k ts).items A r (all_sensible k ts) m
