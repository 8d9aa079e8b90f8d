-- The tablet refuses by itself just what is not legal, what it has no room for, and changes with the counter at its top.
use mathlib.Core.Path.{◌≡◌, refl, ap, ◌∙◌}
use mathlib.Core.Bool.{Bool, false}
use mathlib.Core.List.{List, [], ◌∷◌}
use Rattle.std.specs.Prelude.{Option, Some, None, is_ok, IsOk}
use Prim.Native.Nat.{ℕ, ◌<◌}
use native.Mathlib.Omega.{arith}
use native.Mathlib.Decide.{dec_lt}
use borrow.Author.Tests.{ne_eqb, eqb-false, lt-ltb, le-ltb, lt-leb, leb-false}
use lib.Dec.{eqb}
use Rattle.seqs.specs.Choose.{pick, opposite, Every, ◌and◌}
use Rattle.paper.specs.declared.Record.{Record}
use Rattle.paper.specs.declared.Revision.{Revision}
use Rattle.paper.specs.Strings.{Dig, empty_record, blank}
use Rattle.paper.specs.Refusals.{top}
use Rattle.rings.specs.Lists.{OnList, Unlisted}
use Rattle.rings.proofs.Items.{listed_above}
use Rattle.ringed.proofs.Ringed.{listed_not}
use Rattle.runs.specs.Run.{World}
use Rattle.runs.specs.Wishes.{LegalWish}
use Rattle.runs.specs.Sizes.{InEightBytes}
use Rattle.runs.proofs.Masses.{not_silly_lem, sensible}
use Rattle.wishes.specs.declared.Wish.{Wish}
use Rattle.wishes.specs.declared.Wish.TheVariants.{Insert, Remove, Set, Clear, Ask}
use Rattle.wishes.specs.declared.Refused.{Refused}
use Rattle.wishes.specs.Words.{own_place, is_listed, words, first_true, tests, unless, word_for}
use Rattle.plans.specs.Plans.{plan_for, begun_for}
use Rattle.keeping.specs.Talking.{Tablet}
use Rattle.keeping.specs.Agreeing.{Agrees}
use Rattle.keeping.specs.Granting.{wish_of, WishFits, Within, begins, RefusesJust}
use Rattle.keeping.proofs.Listed.{own, found_listed}
use Rattle.keeping.proofs.Allowed.{no_word, is_listed_lem, below_top_lem}
use Rattle.keeping.proofs.After.{list_up}
use Rattle.keeping.proofs.Places.{not_listed, empty_listed}

module _ {D : List ℕ → Dig} {w : World} {x : Tablet} (a : Agrees D w x) where
  abbrev AllFalse : Wish → Type 0
  AllFalse v = Every (λ t. t ≡ false) (tests x.leaves x.count x.counter.0 v)

  -- ── what is not refused is legal ──

  possible_by : InEightBytes w.registers.counter.0 → (v : Wish) → WishFits v → AllFalse v → LegalWish w.items (wish_of v) × Within w x v
  possible_by narrow (Insert A) fits t = (
    (omega (arith, eqb-false A.0 0 t.0), fits, not_listed a A.0 t.1.1.0),
    (omega (arith, leb-false 1024 x.count t.1.1.1.1.1.1.0), below_top_lem a narrow t.1.1.1.1.1.1.1.0),
  )
  possible_by narrow (Remove A) fits t =
      (empty_listed a A.0 (is_listed_lem a A.0 t.1.1.1.0) t.1.1.1.1.0, omega (arith, below_top_lem a narrow t.1.1.1.1.1.1.1.0))
  possible_by narrow (Set A v) fits t = (
    ((_, found_listed a A.0 (is_listed_lem a A.0 t.1.1.1.0)), fits.1, sensible v.mass.0 t.1.0),
    below_top_lem a narrow t.1.1.1.1.1.1.1.0,
  )
  possible_by narrow (Clear A) fits t = (
    (_, found_listed a A.0 (is_listed_lem a A.0 t.1.1.1.0), t.1.1.1.1.1.0),
    below_top_lem a narrow t.1.1.1.1.1.1.1.0,
  )
  possible_by narrow (Ask q) fits t = ((omega (arith, eqb-false q.0 0 t.0), fits), tt)

  -- ── what is legal is not refused ──

  not_zero_lem : (n : ℕ) → 0 < n → eqb n 0 ≡ false
  not_zero_lem n h = ne_eqb n 0 (λ e. omega arith)

  listed_positive : (A : ℕ) (r : Record) → OnList A r w.items → eqb A 0 ≡ false
  listed_positive A r m = not_zero_lem A (listed_above 0 A r w.items (list_up a) m)

  says_listed : (A : ℕ) (r : Record) → OnList A r w.items → opposite (is_listed x.leaves x.count A) ≡ false
  says_listed A r m = rw (lt-ltb _ x.count (own a A r m).place) refl

  says_unlisted : (A : ℕ) → Unlisted A w.items → is_listed x.leaves x.count A ≡ false
  says_unlisted A u =
      elim (dec_lt (own_place x.leaves x.count A) x.count) [
        | yes h ↦ absurd (listed_not A _ w.items u (found_listed a A h))
        | no n ↦ le-ltb _ x.count (omega (arith, n))
      ]

  not_at_top : w.registers.counter.0 < top → eqb x.counter.0 top ≡ false
  not_at_top h = let same = ap (λ (c : Revision). c.0) a.counter in ne_eqb x.counter.0 top (λ e. omega (arith, e, same, h))

  false_by : (v : Wish) → LegalWish w.items (wish_of v) → Within w x v → AllFalse v
  false_by (Insert A) l h =
      not_zero_lem A.0 l.0 and refl and says_unlisted A.0 l.2 and refl and refl and refl and lt-leb 1024 x.count h.0
      and not_at_top h.1 and tt
  false_by (Remove A) l h =
      listed_positive A.0 empty_record l and refl and refl and says_listed A.0 empty_record l
      and ap (λ (r : Record). opposite (blank r)) (own a A.0 empty_record l).entry and refl and refl and not_at_top h and tt
  false_by (Set A v) l h =
      listed_positive A.0 l.0.0 l.0.1 and not_silly_lem v.mass.0 l.2 and refl and says_listed A.0 l.0.0 l.0.1
      and refl and refl and refl and not_at_top h and tt
  false_by (Clear A) l h =
      listed_positive A.0 l.0 l.1 and refl and refl and says_listed A.0 l.0 l.1 and refl
      and (ap blank (own a A.0 l.0 l.1).entry ∙ l.2) and refl and not_at_top h and tt
  false_by (Ask q) l h = not_zero_lem q.0 l.0 and refl and refl and refl and refl and refl and refl and refl and tt

  -- no test true, no word
  none_first : (ws : List Refused) (l : List Bool) → Every (λ t. t ≡ false) l → first_true ws l ≡ None
  none_first [] l k = refl
  none_first (w ∷ ws) [] k = refl
  none_first (w ∷ ws) (t ∷ l) k = ap (λ (b : Bool). pick b (Some w) (first_true ws l)) k.0 ∙ none_first ws l k.1

  no_word_by : (v : Wish) → AllFalse v → IsOk (begins D x v)
  unfolding begun_for word_for
  no_word_by v k =
      ap (λ (r : Option Refused). is_ok (unless r (plan_for D x.leaves x.nodes x.count x.counter v)))
      (none_first words (tests x.leaves x.count x.counter.0 v) k)

pub refuses_just : (D : List ℕ → Dig) → RefusesJust D
refuses_just D =
    record {
      possible = λ w x t v fits e. possible_by t.agrees t.narrow v fits (no_word D x v e);
      allowed = λ w x t v l h. no_word_by t.agrees v (false_by t.agrees v l h);
    }
