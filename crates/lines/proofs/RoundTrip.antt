-- Both round trips between frames and lines, and that each frame has one line.
use mathlib.Core.Path.{◌≡◌, refl, sym, ap, ◌∙◌}
use mathlib.Core.Bool.{Bool, true, false}
use mathlib.Core.List.{List}
use Prim.Native.Nat.{ℕ, ◌+◌, ◌*◌, ◌%◌, ◌≤◌}
use native.Mathlib.Omega.{arith}
use borrow.Author.Tests.{ne_eqb, eqb-true, eqb-false, le-ltb, ltb-false}
use lib.Dec.{eqb, ltb}
use lib.ListN.{length}
use Rattle.seqs.specs.Choose.{pick, either, opposite}
use Rattle.seqs.specs.Bytes.{Bytes}
use Rattle.hexadecimal.specs.Hex.{all_digits, bytes_of, digits_of, line_of}
use Rattle.hexadecimal.proofs.Laws.{bytes_of_digits, digits_of_bytes, digits_all, digits_length, bytes_length}
use Rattle.paper.specs.Requests.{kind_of}
use Rattle.paper.specs.Refusals.{is_hex, longest_frame, longest_line}
use Rattle.paper.specs.Module.{is_writable, read_refusal, write_refusal}
use Rattle.lines.specs.Reading.{Read, Frame, Refused, Wrote, Line, Rejected, read_of, frame_after, wrote_of, line_after}
use Rattle.lines.specs.RoundTrip.{WrittenReads, ReadWrites, OneLine}
use Rattle.lines.proofs.Fitting.{own}
use Rattle.lines.proofs.Outcomes.{read_turns, read_frame, write_turns, write_line}

-- ── what an accepted line or frame has passed ──

none_of : (a d t : Bool) (n : ℕ) → eqb n 0 ≡ t → pick a 1 (pick t (pick d 15 0) n) ≡ 0 → (a ≡ false) × (n ≡ 0) × (d ≡ false)
none_of true d t n e h = absurd (omega arith)
none_of false d false n e h = absurd (eqb-false n 0 e h)
none_of false true true n e h = absurd (omega arith)
none_of false false true n e h = (refl, eqb-true n 0 e, refl)

opposite_no : (p : Bool) → opposite p ≡ false → p ≡ true
opposite_no true h = refl
opposite_no false h = cc

either_none : (p q : Bool) → either p q ≡ false → (p ≡ false) × (q ≡ false)
either_none true q h = (h, cc)
either_none false q h = (refl, h)

read_zero : (l : List ℕ) (s k n r : ℕ) (t : Bool) → eqb r 0 ≡ t
    → pick t (Frame (kind_of (bytes_of l)) (length (bytes_of l))) (Refused r) ≡ Frame k n → r ≡ 0
read_zero l s k n r true e h = eqb-true r 0 e
read_zero l s k n r false e h = let z : ◌≡◌ {A = ℕ} 0 1 = cc in absurd (omega arith)

wrote_zero : (f : List ℕ) (n r : ℕ) (t : Bool) → eqb r 0 ≡ t → pick t (Line (2 * length f + 1)) (Rejected r) ≡ Line n → r ≡ 0
wrote_zero f n r true e h = eqb-true r 0 e
wrote_zero f n r false e h = let z : ◌≡◌ {A = ℕ} 0 1 = cc in absurd (omega arith)

record GoodLine (l : List ℕ) (space : ℕ) : Type 0 where
  hex : (is_hex l).fails ≡ false
  fit : own (bytes_of l) ≡ 0
  room : length (bytes_of l) ≤ space

good_line : (l : List ℕ) (space k n : ℕ) → read_of l space ≡ Frame k n → GoodLine l space
unfolding read_of
good_line l space k n h =
    let f = bytes_of l in
    let z = read_zero l space k n (read_refusal l space) (eqb (read_refusal l space) 0) refl h in
    let p = none_of (is_hex l).fails (ltb space (length f)) (eqb (own f) 0) (own f) refl (sym (read_turns l space) ∙ z) in
    record { hex = p.0; fit = p.1; room = ltb-false space (length f) p.2 }

record GoodFrame (f : List ℕ) (space : ℕ) : Type 0 where
  size : (is_writable f).fails ≡ false
  fit : own f ≡ 0
  room : 2 * length f + 1 ≤ space

good_frame : (f : List ℕ) (space n : ℕ) → wrote_of f space ≡ Line n → GoodFrame f space
unfolding wrote_of
good_frame f space n h =
    let z = wrote_zero f n (write_refusal f space) (eqb (write_refusal f space) 0) refl h in
    let p = none_of (is_writable f).fails (ltb space (2 * length f + 1)) (eqb (own f) 0) (own f) refl (sym (write_turns f space) ∙ z) in
    record { size = p.0; fit = p.1; room = ltb-false space (2 * length f + 1) p.2 }

-- a good line is not empty, even, not too long, and of digits alone
record Digits (l : List ℕ) : Type 0 where
  some : length l ≡ 0 → ⊥
  even : length l % 2 ≡ 0
  short : length l ≤ longest_line
  all : all_digits l ≡ true

digits : (l : List ℕ) → (is_hex l).fails ≡ false → Digits l
digits l h =
    let a = either_none (eqb (length l) 0) _ h in
    let b = either_none (eqb (length l % 2) 1) _ a.1 in
    let c = either_none (ltb longest_line (length l)) _ b.1 in
    let odd : length l % 2 ≡ 1 → ⊥ = eqb-false (length l % 2) 1 b.0 in
    record {
      some = eqb-false (length l) 0 a.0;
      even = omega arith;
      short = ltb-false longest_line (length l) c.0;
      all = opposite_no (all_digits l) c.1;
    }

-- ── reading what was written ──

digits_good : (f : List ℕ) → Bytes f → (is_writable f).fails ≡ false → (is_hex (digits_of f)).fails ≡ false
digits_good f b h =
    let a = either_none (eqb (length f) 0) (ltb longest_frame (length f)) h in
    let some : length f ≡ 0 → ⊥ = eqb-false (length f) 0 a.0 in
    let short : length f ≤ longest_frame = ltb-false longest_frame (length f) a.1 in
    let n = digits_length f in
    rw (
      ne_eqb (length (digits_of f)) 0 (λ e. some (omega arith)),
      ne_eqb (length (digits_of f) % 2) 1 (λ e. omega arith),
      le-ltb longest_line (length (digits_of f)) (omega arith),
      digits_all f b,
    )

pub written_reads : WrittenReads
unfolding line_of
written_reads f d e n b w room =
    let g = good_frame f (length d) n w in
    let back = bytes_of_digits f b in
    let read : read_of (digits_of f) (length e) ≡ Frame (kind_of f) (length f) =
    read_frame (digits_of f) (length e) (digits_good f b g.size) (rw back g.fit) (rw back room)
    ∙ ap (λ (x : List ℕ). Frame (kind_of x) (length x)) back in
    record {
      line = digits_of f;
      wrote = ap (λ (r : Wrote). line_after r f d) (write_line f (length d) g.size g.fit g.room) ∙ rw (digits_length f);
      read = read;
      frame = ap (λ (r : Read). frame_after r (digits_of f) e) read ∙ rw back;
    }

-- ── writing what was read ──

bytes_good : (l : List ℕ) → Digits l → (is_writable (bytes_of l)).fails ≡ false
bytes_good l g =
    let n = bytes_length l in
    let short = le-ltb longest_frame (length (bytes_of l)) (omega (arith, g.short)) in
    rw (ne_eqb (length (bytes_of l)) 0 (λ e. g.some (omega (arith, g.even))), short)

pub read_writes : ReadWrites
unfolding line_of
read_writes l d e k n h room =
    let g = good_line l (length d) k n h in
    let ds = digits l g.hex in
    let back = digits_of_bytes l ds.even ds.all in
    let size = bytes_length l in
    let twice : 2 * length (bytes_of l) + 1 ≡ length l + 1 = omega (arith, ds.even) in
    let wrote : wrote_of (bytes_of l) (length e) ≡ Line (length l + 1) =
    write_line (bytes_of l) (length e) (bytes_good l ds) g.fit (omega arith)
    ∙ ap (λ (m : ℕ). Line m) twice in
    record {
      frame = bytes_of l;
      read = ap (λ (r : Read). frame_after r l d) (read_frame l (length d) g.hex g.fit g.room);
      wrote = wrote;
      line = ap (λ (r : Wrote). line_after r (bytes_of l) e) wrote ∙ rw back;
    }

-- ── one line for each frame ──
pub one_line : OneLine
one_line l m d e k n k' n' h i same =
    let p = digits l (good_line l (length d) k n h).hex in
    let q = digits m (good_line m (length e) k' n' i).hex in
    sym (digits_of_bytes l p.even p.all) ∙ ap digits_of same ∙ digits_of_bytes m q.even q.all
