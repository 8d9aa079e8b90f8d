-- A wish that the tablet does not refuse: no word applies, and its plan is the wish's own.
use mathlib.Core.Path.{◌≡◌, refl, sym, ap, ◌∙◌}
use mathlib.Core.Bool.{Bool, true, false, true≢false}
use Rattle.std.specs.Prelude.{Option, Some, None, is_some, Result, Ok, is_ok, IsOk}
use mathlib.Core.List.{List, [], ◌∷◌}
use mathlib.Core.Logic.{◌≢◌}
use Prim.Native.Nat.{ℕ, ◌<◌, ◌≤◌}
use lib.ListN.{length}
use native.Mathlib.Omega.{arith}
use borrow.Author.Tests.{eqb-false, ltb-true}
use lib.Dec.{eqb}
use Rattle.seqs.specs.Choose.{pick, opposite, Every}
use Rattle.paper.specs.declared.Revision.{Revision}
use Rattle.paper.specs.Strings.{Dig}
use Rattle.paper.specs.Refusals.{top}
use Rattle.runs.specs.Run.{World}
use Rattle.runs.specs.Sizes.{InEightBytes}
use Rattle.wishes.specs.declared.Wish.{Wish}
use Rattle.wishes.specs.declared.Wish.TheVariants.{Insert, Remove, Set, Clear, Ask}
use Rattle.wishes.specs.declared.Refused.{Refused}
use Rattle.wishes.specs.Words.{own_place, is_listed, words, first_true, tests, unless, word_for}
use Rattle.plans.specs.declared.Plan.{Plan}
use Rattle.plans.specs.Plans.{plan_for, begun_for}
use Rattle.keeping.specs.Talking.{Tablet}
use Rattle.keeping.specs.Agreeing.{Agrees}
use Rattle.keeping.specs.Granting.{begins}

-- no test of some is true, where there is a word for each
none_true : (ws : List Refused) (l : List Bool) → length l ≤ length ws → first_true ws l ≡ None → Every (λ t. t ≡ false) l
none_true ws [] h e = tt
none_true [] (t ∷ l) h e = absurd (omega arith)
none_true (w ∷ ws) (t ∷ l) h e = by_test t e (none_true ws l (omega arith))
  where
    by_test : (t : Bool) → pick t (Some w) (first_true ws l) ≡ None → (first_true ws l ≡ None → Every (λ t. t ≡ false) l)
        → (t ≡ false) × Every (λ t. t ≡ false) l
    by_test true e f = absurd (true≢false (ap is_some e))
    by_test false e f = (refl, f e)

eight_tests : (leaves : List ℕ) (k c : ℕ) (v : Wish) → length (tests leaves k c v) ≤ 8
eight_tests leaves k c (Insert A) = omega arith
eight_tests leaves k c (Remove A) = omega arith
eight_tests leaves k c (Set A v) = omega arith
eight_tests leaves k c (Clear A) = omega arith
eight_tests leaves k c (Ask q) = omega arith

-- what no word refuses
unless_none : {A : Type 0} (w : Option Refused) (a : A) → is_ok (unless w a) ≡ true → w ≡ None
unless_none None a e = refl
unless_none (Some r) a e = absurd (true≢false (sym e))

unless_is : {A : Type 0} (w : Option Refused) (a p : A) → unless w a ≡ Ok p → p ≡ a
unless_is None a p e = cc
unless_is (Some r) a p e = absurd (true≢false (sym (ap is_ok e)))

module _ (D : List ℕ → Dig) (x : Tablet) (v : Wish) where
  pub no_word : IsOk (begins D x v) → Every (λ t. t ≡ false) (tests x.leaves x.count x.counter.0 v)
  unfolding begun_for word_for
  no_word allowed =
      none_true words (tests x.leaves x.count x.counter.0 v) (eight_tests x.leaves x.count x.counter.0 v)
      (unless_none (first_true words (tests x.leaves x.count x.counter.0 v)) (plan_for D x.leaves x.nodes x.count x.counter v) allowed)

  pub its_plan : (p : Plan) → begins D x v ≡ Ok p → p ≡ plan_for D x.leaves x.nodes x.count x.counter v
  unfolding begun_for
  its_plan p begun = unless_is (word_for x.leaves x.count x.counter.0 v) (plan_for D x.leaves x.nodes x.count x.counter v) p begun

-- a plan was made
pub was_begun : {p : Plan} {r : Result Plan Refused} → r ≡ Ok p → IsOk r
was_begun e = ap is_ok e

-- ── what tests that are false say ──

pub opposite_false : (b : Bool) → opposite b ≡ false → b ≡ true
opposite_false true e = refl
opposite_false false e = sym e

module _ {D : List ℕ → Dig} {w : World} {x : Tablet} (a : Agrees D w x) where
  pub is_listed_lem : (A : ℕ) → opposite (is_listed x.leaves x.count A) ≡ false → own_place x.leaves x.count A < x.count
  is_listed_lem A e = ltb-true (own_place x.leaves x.count A) x.count (opposite_false (is_listed x.leaves x.count A) e)

  pub below_top_lem : InEightBytes w.registers.counter.0 → eqb x.counter.0 top ≡ false → w.registers.counter.0 < top
  below_top_lem small e =
      let same : x.counter.0 ≡ w.registers.counter.0 = ap (λ (c : Revision). c.0) a.counter in
      let other : w.registers.counter.0 ≢ top = λ t. eqb-false x.counter.0 top e (same ∙ t) in
      omega (arith, small, other)
