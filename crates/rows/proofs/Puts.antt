-- A leaf put into memory is there, and every other is as it was.
use mathlib.Core.Path.{◌≡◌, refl, sym, ap, ◌∙◌}
use mathlib.Core.List.{List, ◌∷◌, ◌++◌, append_assoc}
use mathlib.Core.Logic.{◌⊎◌, inl, inr, ◌≢◌}
use Prim.Native.Nat.{ℕ, zero, suc, ◌+◌, ◌*◌, ◌/◌, ◌<◌, ◌≤◌}
use native.Mathlib.Nat.{not-suc-le-zero}
use native.Mathlib.Omega.{arith}
use native.Mathlib.Decide.{dec_lt}
use borrow.Author.Tests.{le-leb, lt-leb}
use borrow.Rule.Slice.PartMut.{put_mid}
use lib.ListN.{length, get_or, set, take, drop}
use lib.Seq.{drop-drop}
use Rattle.seqs.specs.Over.{put_at, put_there, put_elsewhere}
use Rattle.rows.specs.declared.Row.{Row}
use Rattle.rows.specs.Rows.{row_numbers, row_at, rows_from, numbers_in, row_put}

-- ── leaves ──

-- leaves with the same numbers are the same
alike : (m m' : List ℕ) (i i' : ℕ)
    → ((j : ℕ) → j < row_numbers → get_or m (row_numbers * i + j) 0 ≡ get_or m' (row_numbers * i' + j) 0) → row_at m i ≡ row_at m' i'
unfolding row_at
alike m m' i i' g =
    let g0 = g 0 (omega arith) in
    let g1 = g 1 (omega arith) in
    let g2 = g 2 (omega arith) in
    let g3 = g 3 (omega arith) in
    let g4 = g 4 (omega arith) in
    let g5 = g 5 (omega arith) in
    (λ t. record {
      item = record { 0 = g0 t };
      next = record { 0 = g1 t };
      entry = record {
        revision = record { 0 = g2 t };
        mass = record { 0 = g3 t };
        offset = record { 0 = g4 t };
        rigging = record { 0 = g5 t };
      };
    })

-- a leaf is the first of its numbers
of_numbers : (r : Row) → row_at (numbers_in r) 0 ≡ r
unfolding row_at
of_numbers r = refl

module _ (m : List ℕ) (i : ℕ) (r : Row) (room : row_numbers * i + row_numbers ≤ length m) where
  pub row_there : row_at (row_put m i r) i ≡ r
  unfolding row_put
  row_there =
      alike (row_put m i r) (numbers_in r) i 0
      (λ j h.
      let same : j ≡ row_numbers * 0 + j = omega arith in
      put_there m (row_numbers * i) (numbers_in r) j 0 room h ∙ ap (λ (n : ℕ). get_or (numbers_in r) n 0) same)
      ∙ of_numbers r

  pub row_else : (j : ℕ) → j ≢ i → row_at (row_put m i r) j ≡ row_at m j
  unfolding row_put
  row_else j n =
      alike (row_put m i r) m j j (λ a h. put_elsewhere m (row_numbers * i) (numbers_in r) row_numbers (row_numbers * j + a) 0 refl (away a h))
    where
      away : (a : ℕ) → a < row_numbers
          → (row_numbers * j + a < row_numbers * i) ⊎ (row_numbers * i + row_numbers ≤ row_numbers * j + a)
      away a h =
          elim (dec_lt j i) [
            | yes l ↦ inl (omega arith)
            | no l ↦ (let behind : i < j = omega (arith, n) in inr (omega arith))
          ]

  -- so of n leaves from `first` on that one is another, the one b behind the first
  pub rows_put : (n first b : ℕ) → first + b ≡ i → b < n → rows_from (row_put m i r) n first ≡ set (rows_from m n first) b r
  rows_put zero first b e h = absurd (not-suc-le-zero h)
  rows_put (suc n) first zero e h =
      let it : first ≡ i = omega arith in
      (λ t. (ap (row_at (row_put m i r)) it ∙ row_there) t ∷ rows_behind n (first + 1) (omega arith) t)
    where
      rows_behind : (n first : ℕ) → i < first → rows_from (row_put m i r) n first ≡ rows_from m n first
      rows_behind zero first h = refl
      rows_behind (suc n) first h = (λ t. row_else first (λ e. omega arith) t ∷ rows_behind n (first + 1) (omega arith) t)
  rows_put (suc n) first (suc b) e h =
      (λ t. row_else first (λ q. omega arith) t ∷ rows_put n (first + 1) b (omega arith) (omega arith) t)

-- where it does not fit nothing is put
pub row_past : (m : List ℕ) (i : ℕ) (r : Row) → length m / row_numbers ≤ i → row_put m i r ≡ m
unfolding row_put put_at
row_past m i r h = rw (lt-leb (row_numbers * i + row_numbers) (length m) (omega arith)) refl

-- where it fits, its numbers stand in place of those that were there
pub row_mid : (m d : List ℕ) (i k : ℕ) (r : Row) → d ≡ numbers_in r → k ≡ row_numbers → i < length m / row_numbers
    → put_mid (row_numbers * i) k m d ≡ row_put m i r
unfolding row_put put_at
row_mid m d i k r e f h =
    rw (e, f, le-leb (row_numbers * i + row_numbers) (length m) (omega arith))
    (ap (λ (l : List ℕ). take (row_numbers * i) m ++ (numbers_in r ++ l)) (drop-drop row_numbers (row_numbers * i) m)
    ∙ sym (append_assoc (take (row_numbers * i) m) (numbers_in r) (drop (row_numbers * i + row_numbers) m)))
