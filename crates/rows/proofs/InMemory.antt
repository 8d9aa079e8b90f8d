-- The leaves of memory as a list: how many they are, and each at its place.
use mathlib.Core.Path.{◌≡◌, refl, ap, ◌∙◌}
use mathlib.Core.List.{List}
use Prim.Native.Nat.{ℕ, zero, suc, ◌+◌, ◌<◌}
use native.Mathlib.Nat.{not-suc-le-zero}
use native.Mathlib.Omega.{arith}
use lib.ListN.{length, get_or}
use Rattle.rows.specs.declared.Row.{Row}
use Rattle.rows.specs.Rows.{row_at, rows_from}

module _ (m : List ℕ) where
  pub rows_length : (n first : ℕ) → length (rows_from m n first) ≡ n
  rows_length zero first = refl
  rows_length (suc n) first = ap (λ (k : ℕ). suc k) (rows_length n (first + 1))

  pub rows_at : (n first i : ℕ) (z : Row) → i < n → get_or (rows_from m n first) i z ≡ row_at m (first + i)
  rows_at zero first i z h = absurd (not-suc-le-zero h)
  rows_at (suc n) first zero z h = let same : first ≡ first + 0 = omega arith in ap (row_at m) same
  rows_at (suc n) first (suc i) z h =
      let same : first + 1 + i ≡ first + suc i = omega arith in
      rows_at n (first + 1) i z (omega arith) ∙ ap (row_at m) same
