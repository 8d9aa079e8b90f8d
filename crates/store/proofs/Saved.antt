-- The text of the first leaves of memory, one line after the other: its length, and one leaf more.
use mathlib.Core.Path.{◌≡◌, refl, sym, ap, ◌∙◌}
use mathlib.Core.List.{List, ◌++◌, append-nil, append_assoc}
use Prim.Native.Nat.{ℕ, zero, suc, ◌+◌, ◌*◌, ◌≤◌}
use native.Mathlib.Omega.{arith}
use borrow.Author.Tests.{le-leb}
use borrow.Rule.Slice.PartMut.{put_mid}
use lib.ListN.{length, take, drop, length-append, drop_of_length-le}
use lib.Seq.{drop-drop}
use Rattle.seqs.specs.Over.{put_at, written, written_fits, Front, front_next}
use Rattle.hexadecimal.proofs.Laws.{line_length}
use Rattle.rows.specs.declared.Row.{Row}
use Rattle.rows.specs.Rows.{row_at, rows_from}
use Rattle.store.specs.Lines.{row_bytes, line_of_row}
use Rattle.store.specs.Texts.{text_of}
use Rattle.store.proofs.RoundTrip.{bytes_long}

pub line_long : (r : Row) → length (line_of_row r) ≡ 97
line_long r = omega (arith, line_length (row_bytes r), bytes_long r)

pub text_long : (m : List ℕ) (n i : ℕ) → length (text_of (rows_from m n i)) ≡ 97 * n
text_long m zero i = refl
text_long m (suc n) i =
    length-append (line_of_row (row_at m i)) (text_of (rows_from m n (i + 1))) ∙ omega (arith, line_long (row_at m i), text_long m n (i + 1))

-- the text of n + 1 leaves is that of n, and the line of one more
text_more : (m : List ℕ) (n i : ℕ) → text_of (rows_from m n i) ++ line_of_row (row_at m (i + n)) ≡ text_of (rows_from m (suc n) i)
text_more m zero i =
    let e : i + 0 ≡ i = omega arith in
    ap (λ (j : ℕ). line_of_row (row_at m j)) e ∙ sym (append-nil (line_of_row (row_at m i)))
text_more m (suc n) i =
    let e : i + suc n ≡ i + 1 + n = omega arith in
    append_assoc (line_of_row (row_at m i)) (text_of (rows_from m n (i + 1))) (line_of_row (row_at m (i + suc n)))
    ∙ ap (λ (j : ℕ). line_of_row (row_at m i) ++ (text_of (rows_from m n (i + 1)) ++ line_of_row (row_at m j))) e
    ∙ ap (λ (l : List ℕ). line_of_row (row_at m i) ++ l) (text_more m n (i + 1))

pub text_next : (m : List ℕ) (n : ℕ) → text_of (rows_from m n 0) ++ line_of_row (row_at m n) ≡ text_of (rows_from m (n + 1) 0)
text_next m n =
    let a : 0 + n ≡ n = omega arith in
    let b : suc n ≡ n + 1 = omega arith in
    ap (λ (j : ℕ). text_of (rows_from m n 0) ++ line_of_row (row_at m j)) (sym a) ∙ text_more m n 0 ∙ ap (λ (j : ℕ). text_of (rows_from m j 0)) b

-- ── a line put in its place ──

-- a part of a buffer that is another now, as a put has it
mid_put : (e s : List ℕ) (at k : ℕ) → length s ≡ k → at + k ≤ length e → put_mid at k e s ≡ put_at e at s
unfolding put_at
mid_put e s at k n room =
    let t = le-leb (at + length s) (length e) (omega (arith, n)) in
    let same : at + k ≡ at + length s = omega (arith, n) in
    rw t
    (ap (λ (l : List ℕ). take at e ++ (s ++ l)) (drop-drop k at e ∙ ap (λ (i : ℕ). drop i e) same)
    ∙ sym (append_assoc (take at e) s (drop (at + length s) e)))

pub front_mid : {d e p : List ℕ} {at : ℕ} (e' s : List ℕ) (k m : ℕ) → Front d e p at → e' ≡ put_mid at k e s → length s ≡ k → at + k ≡ m
    → m ≤ length d → m ≤ length e → Front d e' (p ++ s) m
front_mid {d} {e} {p} {at} e' s k m f h n j room inside = front_next e' s k m f (h ∙ mid_put e s at k n (omega (arith, j, inside))) n j room

-- a line fills a part of its length
pub filled : (r : Row) (d : List ℕ) → length d ≡ 97 → written (line_of_row r) d ≡ line_of_row r
filled r d e =
    let few : length d ≤ 97 = omega (arith, e) in
    written_fits (line_of_row r) d 97 (line_long r) (omega (arith, e))
    ∙ ap (λ (l : List ℕ). line_of_row r ++ l) (drop_of_length-le d few) ∙ append-nil (line_of_row r)
