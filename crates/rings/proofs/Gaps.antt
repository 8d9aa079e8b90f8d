-- The gap as a proposition, in its three cases, and that it is the paper's gap (`in_gap`).
use mathlib.Core.Bool.{Bool, true, false, true≢false}
use mathlib.Core.Path.{◌≡◌, refl, sym}
use mathlib.Core.Logic.{◌≢◌}
use Prim.Native.Nat.{ℕ, ◌≤◌, ◌<◌}
use native.Mathlib.Omega.{arith}
use borrow.Author.Tests.{ltb-true, ltb-false, eqb-false, lt-ltb, le-ltb, ne_eqb}
use lib.Dec.{eqb, ltb}
use Rattle.seqs.specs.Choose.{pick, both, either, opposite, either_yes}
use Rattle.paper.specs.Strings.{in_gap}

-- the numbers met going up from a to b, round the top where b is not above a
pub data Gap (a b q : ℕ) : Type 0 where
  between : a < q → q < b → Gap a b q
  beyond : b ≤ a → a < q → Gap a b q
  before : b ≤ a → 0 < q → q < b → Gap a b q

pub gap_positive : {a b q : ℕ} → Gap a b q → 0 < q
gap_positive (between h k) = omega arith
gap_positive (beyond h k) = omega arith
gap_positive (before h k l) = k

pub gap_apart : {a b q : ℕ} → Gap a b q → a ≢ q
gap_apart (between h k) = omega arith
gap_apart (beyond h k) = omega arith
gap_apart (before h k l) = omega arith

-- what the paper's test says
pub gap_holds_lem : (q A A' : ℕ) → in_gap q A A' ≡ true → Gap A A' q
unfolding in_gap
gap_holds_lem q A A' = go (ltb A A') (ltb A q) (ltb q A') (eqb q 0) refl refl refl refl
  where
    go : (t u v z : Bool) → ltb A A' ≡ t → ltb A q ≡ u → ltb q A' ≡ v → eqb q 0 ≡ z
        → pick t (both u v) (both (opposite z) (either u v)) ≡ true → Gap A A' q
    go true true true z et eu ev ez h = between (ltb-true A q eu) (ltb-true q A' ev)
    go true true false z et eu ev ez h = absurd (true≢false (sym h))
    go true false v z et eu ev ez h = absurd (true≢false (sym h))
    go false u v true et eu ev ez h = absurd (true≢false (sym h))
    go false true v false et eu ev ez h = beyond (ltb-false A A' et) (ltb-true A q eu)
    go false false true false et eu ev ez h =
        before (ltb-false A A' et) (omega (arith, eqb-false q 0 ez)) (ltb-true q A' ev)
    go false false false false et eu ev ez h = absurd (true≢false (sym h))

pub gap_tells : {q A A' : ℕ} → Gap A A' q → in_gap q A A' ≡ true
unfolding in_gap
gap_tells {q} {A} {A'} (between h k) = rw (lt-ltb A A' (omega arith), lt-ltb A q h, lt-ltb q A' k) refl
gap_tells {q} {A} {A'} (beyond h k) = rw (le-ltb A A' h, lt-ltb A q k, ne_eqb q 0 (λ z. omega arith)) refl
gap_tells {q} {A} {A'} (before h k l) =
    rw (le-ltb A A' h, lt-ltb q A' l, ne_eqb q 0 (λ z. omega arith), either_yes) refl
