-- The test of pairs on short lists of leaves, to be compared by eye.
use mathlib.Core.Path.{◌≡◌, refl}
use mathlib.Core.List.{[], ◌∷◌}
use Prim.Native.Nat.{ℕ}
use Rattle.paper.specs.Strings.{in_gap, empty_record}
use Rattle.rows.specs.declared.Row.{Row}
use Rattle.rows.specs.Rows.{row_at}
use Rattle.rows.specs.Pairs.{break_at, no_break, first_break}

infix 90 ◌leads-to◌
abbrev ◌leads-to◌ : ℕ → ℕ → Row
a leads-to b = record { item = record { 0 = a }; next = record { 0 = b }; entry = empty_record }

-- no leaf at all; one that leads to itself; three in any order
nothing : first_break [] ≡ no_break
unfolding first_break in_gap row_at
nothing = refl

alone : first_break (5 leads-to 5 ∷ []) ≡ no_break
unfolding first_break in_gap row_at
alone = refl

round : first_break (7 leads-to 9 ∷ 5 leads-to 7 ∷ 9 leads-to 5 ∷ []) ≡ no_break
unfolding first_break in_gap row_at
round = refl

-- one item twice; an item in a gap, between two or round the end; a leaf that leads to none
twice : first_break (7 leads-to 7 ∷ 7 leads-to 7 ∷ []) ≡ break_at 0 1
unfolding first_break in_gap row_at
twice = refl

passed_over : first_break (9 leads-to 5 ∷ 5 leads-to 9 ∷ 7 leads-to 9 ∷ []) ≡ break_at 1 2
unfolding first_break in_gap row_at
passed_over = refl

wrapped_too_early : first_break (5 leads-to 7 ∷ 7 leads-to 5 ∷ 9 leads-to 5 ∷ []) ≡ break_at 1 2
unfolding first_break in_gap row_at
wrapped_too_early = refl

astray : first_break (7 leads-to 5 ∷ 5 leads-to 6 ∷ []) ≡ break_at 1 1
unfolding first_break in_gap row_at
astray = refl

astray_alone : first_break (5 leads-to 6 ∷ []) ≡ break_at 0 0
unfolding first_break in_gap row_at
astray_alone = refl

-- pairs in order of their first leaf: 1 with 5 comes before 2 with itself
by_the_first : first_break (1 leads-to 3 ∷ 3 leads-to 7 ∷ 7 leads-to 8 ∷ 9 leads-to 11 ∷ 11 leads-to 1 ∷ 5 leads-to 7 ∷ []) ≡ break_at 1 5
unfolding first_break in_gap row_at
by_the_first = refl
