-- A text whose lines can all be read: each line's numbers at their place, and the ring as the loops over the lines judge it.
use mathlib.Core.Path.{◌≡◌, refl, sym, ap, ◌∙◌}
use mathlib.Core.Bool.{Bool, true, false, true≢false}
use mathlib.Core.List.{List, [], ◌∷◌, ◌++◌, append_assoc}
use Prim.Native.Nat.{ℕ, zero, suc, ◌+◌, ◌*◌, ◌<◌, ◌≤◌, ◌^◌}
use native.Mathlib.Nat.{not-suc-le-zero, le_of_suc-le-suc}
use native.Mathlib.Omega.{arith}
use borrow.Author.Tests.{lt-ltb, le-ltb, ltb-false}
use lib.Dec.{ltb}
use native.Mathlib.Decide.{dec_lt}
use lib.ListN.{length, take, drop, length-append}
use lib.Seq.{take_at, drop-drop, drop-append-add}
use Rattle.paper.specs.declared.Item.{Item}
use Rattle.seqs.specs.First.{first_nowhere}
use Rattle.rows.proofs.Finding.{first_is}
use Rattle.seqs.specs.Choose.{pick, either, either_yes, Every}
use Rattle.seqs.specs.Bytes.{be64, number_at, number_at_lem, number_be64, be64_bytes}
use Rattle.hexadecimal.specs.Hex.{bytes_of, digits_of, line_of}
use Rattle.hexadecimal.proofs.Laws.{bytes_before, digits_length}
use Rattle.rows.specs.declared.Row.{Row}
use Rattle.rows.specs.Rows.{of_item}
use Rattle.rows.specs.Pairs.{row_of, any_of, breaks, break_of, breaker, Break, break_at, no_break, first_break}
use Rattle.std.specs.Prelude.{Ok, Err, Some}
use Rattle.store.specs.declared.Fault.TheVariants.{Unreadable, TooMany, Broken}
use Rattle.store.specs.Lines.{row_bytes, line_read, line_of_row}
use Rattle.store.specs.Texts.{text_read, lines_in, text_of}
use Rattle.store.specs.RoundTrip.{Storable}
use Rattle.store.specs.Judging.{judged_by, ring_judged, judged, broken_by}
use Rattle.store.proofs.RoundTrip.{bytes_long, round_trips}
use Rattle.store.proofs.Saved.{line_long}

-- ── a line's numbers ──

-- a number whose digits stand at the front
number_front : (n : ℕ) (x : List ℕ) → n < 2 ^ 64 → number_at (bytes_of (digits_of (be64 n) ++ x)) 0 ≡ n
unfolding be64
number_front n x h =
    ap (λ (l : List ℕ). number_at l 0) (bytes_before (be64 n) x (be64_bytes n))
    ∙ sym (number_at_lem (be64 n ++ bytes_of x) 0 (simp length-append (omega arith))) ∙ number_be64 n h

item_front : (r : Row) (s : List ℕ) → Storable r → number_at (bytes_of (line_of_row r ++ s)) 0 ≡ r.item.0
unfolding line_of row_bytes be64
item_front r s h = number_front r.item.0 (drop 16 (line_of_row r ++ s)) h.fits.0

next_front : (r : Row) (s : List ℕ) → Storable r → number_at (bytes_of (drop 16 (line_of_row r ++ s))) 0 ≡ r.next.0
unfolding line_of row_bytes be64
next_front r s h = number_front r.next.0 (drop 32 (line_of_row r ++ s)) h.fits.1.0

-- ── lines one behind the other ──

-- line i of a text stands behind i lines
line_at : (rs : List Row) (i : ℕ) → i < length rs → (s : List ℕ) × (drop (97 * i) (text_of rs) ≡ line_of_row (row_of rs i) ++ s)
line_at [] i h = absurd (not-suc-le-zero h)
line_at (r ∷ l) zero h = (text_of l, refl)
line_at (r ∷ l) (suc i) h =
    let behind = line_at l i (le_of_suc-le-suc h) in
    let place : 97 * suc i ≡ length (line_of_row r) + 97 * i = omega (arith, line_long r) in (
      behind.0,
      ap (λ (n : ℕ). drop n (line_of_row r ++ text_of l)) place ∙ drop-append-add (line_of_row r) (text_of l) (97 * i) ∙ behind.1,
    )

text_size : (rs : List Row) → length (text_of rs) ≡ 97 * length rs
text_size [] = refl
text_size (r ∷ l) = length-append (line_of_row r) (text_of l) ∙ omega (arith, line_long r, text_size l)

every_row : (P : Row → Type 0) (rs : List Row) (i : ℕ) → Every P rs → i < length rs → P (row_of rs i)
every_row P [] i e h = absurd (not-suc-le-zero h)
every_row P (r ∷ l) zero e h = e.0
every_row P (r ∷ l) (suc i) e h = every_row P l i e.1 (le_of_suc-le-suc h)

module _ (t : List ℕ) (whole : (text_read t).whole ≡ true) where
  pub whole_size : length t ≡ 97 * length (text_read t).rows
  whole_size = sym (ap length (round_trips.text_writes t whole)) ∙ text_size (text_read t).rows

  module _ (i : ℕ) (h : i < length (text_read t).rows) where
    -- line i and what stands behind it
    pub from_line : (s : List ℕ) × (drop (97 * i) t ≡ line_of_row (row_of (text_read t).rows i) ++ s)
    from_line =
        let l = line_at (text_read t).rows i h in
        (l.0, sym (ap (drop (97 * i)) (round_trips.text_writes t whole)) ∙ l.1)

    pub row_storable : Storable (row_of (text_read t).rows i)
    row_storable = every_row Storable (text_read t).rows i (round_trips.text_storable t) h

    -- line i, read alone, says leaf i
    pub line_there : line_read (take 96 (drop (97 * i) t)) ≡ Some (row_of (text_read t).rows i)
    unfolding line_of
    line_there =
        let r = row_of (text_read t).rows i in
        let digits : List ℕ = digits_of (row_bytes r) in
        let long : length digits ≡ 96 = digits_length (row_bytes r) ∙ omega (arith, bytes_long r) in
        ap (λ (l : List ℕ). line_read (take 96 l)) (from_line.1 ∙ append_assoc digits (0x0a ∷ []) from_line.0)
        ∙ ap line_read (take_at digits ((0x0a ∷ []) ++ from_line.0) 96 long) ∙ round_trips.written_reads r row_storable

    pub item_there : number_at (bytes_of (drop (97 * i) t)) 0 ≡ (row_of (text_read t).rows i).item.0
    item_there = ap (λ (l : List ℕ). number_at (bytes_of l) 0) from_line.1 ∙ item_front _ from_line.0 row_storable

    pub next_there : number_at (bytes_of (drop (97 * i + 16) t)) 0 ≡ (row_of (text_read t).rows i).next.0
    next_there =
        ap (λ (l : List ℕ). number_at (bytes_of l) 0) (sym (drop-drop 16 (97 * i) t) ∙ ap (drop 16) from_line.1)
        ∙ next_front _ from_line.0 row_storable

-- ── loops over the lines ──

-- a leaf that passes, and none that does
pub any_here : (p : Row → Bool) (rs : List Row) (i : ℕ) → i < length rs → p (row_of rs i) ≡ true → any_of p rs ≡ true
any_here p [] i h e = absurd (not-suc-le-zero h)
any_here p (r ∷ l) zero h e = rw e refl
any_here p (r ∷ l) (suc i) h e = ap (either (p r)) (any_here p l i (le_of_suc-le-suc h) e) ∙ either_yes (p r)

pub any_none : (p : Row → Bool) (rs : List Row) (n : ℕ) → n ≡ length rs → ((i : ℕ) → i < n → p (row_of rs i) ≡ false) → any_of p rs ≡ false
any_none p [] n e f = refl
any_none p (r ∷ l) n e f =
    rw (f 0 (omega (arith, e))) (any_none p l (length l) refl (λ i h. f (suc i) (omega (arith, e, h))))

-- by the numbers alone the test is that of the leaves
pub broken_there : (rs : List Row) (i j : ℕ) (q a b : Item) (led : Bool) → q ≡ (row_of rs j).item → a ≡ (row_of rs i).item → b ≡ (row_of rs i).next
    → led ≡ any_of (of_item b.0) rs → broken_by q.0 i j a.0 b.0 led ≡ breaks rs i j
broken_there rs i j q a b led eq ea eb el = rw (el, eq, eb, ea)

-- no line before line i breaks with any; line i breaks with none before line j
abbrev pub NoneBreaks : List Row → (i : ℕ) → Type 0
NoneBreaks rs i = (a b : ℕ) → a < i → b < length rs → breaks rs a b ≡ false

abbrev pub BreaksNone : List Row → (i j : ℕ) → Type 0
BreaksNone rs i j = (b : ℕ) → b < j → breaks rs i b ≡ false

pub next_breaks_none : (rs : List Row) (i n : ℕ) → n ≡ length rs → NoneBreaks rs i → BreaksNone rs i n → NoneBreaks rs (i + 1)
next_breaks_none rs i n e f g a b h k =
    elim (dec_lt a i) [
      | yes l ↦ f a b l k
      | no m ↦ (let same : a ≡ i = omega arith in ap (λ (x : ℕ). breaks rs x b) same ∙ g b (omega (arith, e, k)))
    ]

-- the first two that break the ring
pub ring_broken : (rs : List Row) (i j n : ℕ) → n ≡ length rs → i < n → j < n → breaks rs i j ≡ true → NoneBreaks rs i → BreaksNone rs i j
    → ring_judged rs ≡ Err (Broken i j)
unfolding first_break
ring_broken rs i j n e hi hj t f g =
    let second : break_of rs i ≡ j = first_is (breaks rs i) (length rs) j (omega (arith, e)) t g in
    let test : ltb (break_of rs i) (length rs) ≡ true = lt-ltb (break_of rs i) (length rs) (omega (arith, second, e)) in
    let first : breaker rs ≡ i =
    first_is (λ a. ltb (break_of rs a) (length rs)) (length rs) i (omega (arith, e)) test
    (λ a h. le-ltb (break_of rs a) (length rs) (omega (arith, first_nowhere (breaks rs a) (length rs) (λ b k. f a b h k)))) in
    rw (first, lt-ltb i (length rs) (omega (arith, e)), second) refl

pub ring_whole : (rs : List Row) (n : ℕ) → n ≡ length rs → NoneBreaks rs n → ring_judged rs ≡ Ok n
unfolding first_break
ring_whole rs n e f =
    let none : breaker rs ≡ length rs =
    first_nowhere (λ a. ltb (break_of rs a) (length rs)) (length rs)
    (λ a h. le-ltb (break_of rs a) (length rs) (omega (arith, first_nowhere (breaks rs a) (length rs) (λ b k. f a b (omega (arith, e, h)) k)))) in
    rw (none, le-ltb (length rs) (length rs) (omega arith), e) refl

-- ── the answer, by what the lines are ──

module _ (t : List ℕ) where
  pub all_readable : (n : ℕ) → lines_in t ≡ Ok n → ((text_read t).whole ≡ true) × (n ≡ length (text_read t).rows)
  unfolding lines_in
  all_readable n e = by_test (text_read t).whole refl e
    where
      by_test : (b : Bool) → (text_read t).whole ≡ b
          → pick b (Ok (length (text_read t).rows)) (Err (length (text_read t).rows)) ≡ Ok n
          → ((text_read t).whole ≡ true) × (n ≡ length (text_read t).rows)
      by_test true w e = (w, cc)
      by_test false w e = absurd (true≢false cc)

  pub some_unread : (n : ℕ) → lines_in t ≡ Err n → ((text_read t).whole ≡ false) × (n ≡ length (text_read t).rows)
  unfolding lines_in
  some_unread n e = by_test (text_read t).whole refl e
    where
      by_test : (b : Bool) → (text_read t).whole ≡ b
          → pick b (Ok (length (text_read t).rows)) (Err (length (text_read t).rows)) ≡ Err n
          → ((text_read t).whole ≡ false) × (n ≡ length (text_read t).rows)
      by_test true w e = absurd (true≢false cc)
      by_test false w e = (w, cc)

  module _ (most n : ℕ) where
    pub judged_stopped : lines_in t ≡ Err n → Err (Unreadable n) ≡ judged t most
    unfolding judged
    judged_stopped e = let l = some_unread n e in rw (l.0, sym l.1)

    pub judged_many : lines_in t ≡ Ok n → most < n → Err (TooMany n) ≡ judged t most
    unfolding judged
    judged_many e h = let l = all_readable n e in rw (l.0, sym l.1, lt-ltb most n h)

    pub judged_ring : lines_in t ≡ Ok n → n ≤ most → ring_judged (text_read t).rows ≡ judged t most
    unfolding judged
    judged_ring e h = let l = all_readable n e in rw (l.0, le-ltb most (length (text_read t).rows) (omega (arith, l.1)))

-- a ring: every line can be read, they are not too many, and no pair breaks it
pub record RingText (t : List ℕ) (most n : ℕ) : Type 0 where
  pub whole : (text_read t).whole ≡ true
  pub size : n ≡ length (text_read t).rows
  pub few : n ≤ most
  pub unbroken : first_break (text_read t).rows ≡ no_break

pub ring_text : (t : List ℕ) (most n : ℕ) → judged t most ≡ Ok n → RingText t most n
unfolding judged
ring_text t most n e = by_tests (text_read t).whole (ltb most (length (text_read t).rows)) (first_break (text_read t).rows) refl refl refl e
  where
    by_tests : (w m : Bool) (b : Break) → (text_read t).whole ≡ w → ltb most (length (text_read t).rows) ≡ m
        → first_break (text_read t).rows ≡ b
        → pick w (pick m (Err (TooMany (length (text_read t).rows))) (judged_by b (length (text_read t).rows))) (Err (Unreadable (length (text_read t).rows)))
        ≡ Ok n
        → RingText t most n
    by_tests true true b f g h e = absurd (true≢false cc)
    by_tests true false (break_at i j) f g h e = absurd (true≢false cc)
    by_tests true false no_break f g h e =
        let size : n ≡ length (text_read t).rows = cc in
        record { whole = f; size = size; few = omega (arith, size, ltb-false most (length (text_read t).rows) g); unbroken = h }
    by_tests false m b f g h e = absurd (true≢false cc)

pub text_ring : (t : List ℕ) (most n : ℕ) → RingText t most n → judged t most ≡ Ok n
unfolding judged
text_ring t most n k = rw (k.whole, sym k.size, le-ltb most n k.few, k.unbroken)
