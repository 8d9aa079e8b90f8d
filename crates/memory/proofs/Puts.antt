-- Leaves put one after the other, turn by turn; the line of a leaf of a text that can be read; and lengths that stay.
use mathlib.Core.Path.{◌≡◌, refl, ap, ◌∙◌}
use mathlib.Core.List.{List, [], ◌∷◌}
use Prim.Native.Nat.{ℕ, suc, ◌+◌, ◌*◌, ◌<◌, ◌≤◌}
use native.Mathlib.Omega.{arith}
use lib.ListN.{length, drop, drop_of_length-le}
use lib.Seq.{drop-cons}
use Rattle.paper.specs.Strings.{Dig}
use Rattle.seqs.specs.Over.{put_length}
use Rattle.slots.specs.Nodes.{leaf_put}
use Rattle.slots.proofs.Turns.{leaf_length}
use Rattle.rows.specs.declared.Row.{Row}
use Rattle.rows.specs.Rows.{row_at, row_numbers, row_digest, numbers_in, row_put}
use Rattle.rows.specs.Pairs.{row_of}
use Rattle.memory.specs.Memory.{leaves_put, digests_put}

-- ── a turn, and the end ──

pub leaves_turn : (rs : List Row) (i : ℕ) (m : List ℕ) → i < length rs
    → leaves_put (drop i rs) i m ≡ leaves_put (drop (i + 1) rs) (i + 1) (row_put m i (row_of rs i))
leaves_turn rs i m h =
    let next : suc i ≡ i + 1 = omega arith in
    ap (λ (l : List Row). leaves_put l i m) (drop-cons rs i (row_at [] 0) h)
    ∙ ap (λ (n : ℕ). leaves_put (drop n rs) (i + 1) (row_put m i (row_of rs i))) next

pub digests_turn : (D : List ℕ → Dig) (rs : List Row) (i : ℕ) (m : List ℕ) → i < length rs
    → digests_put D (drop i rs) i m ≡ digests_put D (drop (i + 1) rs) (i + 1) (leaf_put D m i (row_digest D (row_of rs i)))
digests_turn D rs i m h =
    let next : suc i ≡ i + 1 = omega arith in
    ap (λ (l : List Row). digests_put D l i m) (drop-cons rs i (row_at [] 0) h)
    ∙ ap (λ (n : ℕ). digests_put D (drop n rs) (i + 1) (leaf_put D m i (row_digest D (row_of rs i)))) next

pub leaves_end : (rs : List Row) (i : ℕ) (m : List ℕ) → length rs ≤ i → leaves_put (drop i rs) i m ≡ m
leaves_end rs i m h = rw (drop_of_length-le rs h)

pub digests_end : (D : List ℕ → Dig) (rs : List Row) (i : ℕ) (m : List ℕ) → length rs ≤ i → digests_put D (drop i rs) i m ≡ m
digests_end D rs i m h = rw (drop_of_length-le rs h)

-- ── lengths ──

pub row_length : (m : List ℕ) (i : ℕ) (r : Row) → length (row_put m i r) ≡ length m
unfolding row_put
row_length m i r = put_length m (row_numbers * i) (numbers_in r)

pub leaves_length : (rs : List Row) (i : ℕ) (m : List ℕ) → length (leaves_put rs i m) ≡ length m
leaves_length [] i m = refl
leaves_length (r ∷ l) i m = leaves_length l (i + 1) (row_put m i r) ∙ row_length m i r

pub digests_length : (D : List ℕ → Dig) (rs : List Row) (i : ℕ) (m : List ℕ) → length (digests_put D rs i m) ≡ length m
digests_length D [] i m = refl
digests_length D (r ∷ l) i m = digests_length D l (i + 1) (leaf_put D m i (row_digest D r)) ∙ leaf_length D m i (row_digest D r)
