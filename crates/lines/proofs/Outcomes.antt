-- What reading a line and writing a frame come to, test by test.
use mathlib.Core.Path.{◌≡◌, refl, sym, ap, ◌∙◌}
use mathlib.Core.Bool.{Bool, true, false}
use mathlib.Core.List.{List}
use Prim.Native.Nat.{ℕ, ◌+◌, ◌*◌, ◌/◌, ◌%◌, ◌≤◌, ◌<◌}
use native.Mathlib.Omega.{arith}
use native.Mathlib.Decide.{dec_le}
use borrow.Author.Tests.{ne_eqb, lt-ltb, le-ltb, leb-true, leb-false}
use lib.Dec.{eqb, leb, ltb}
use lib.ListN.{length, take}
use lib.Seq.{take_all, length-take-le}
use Rattle.seqs.specs.Choose.{pick, opposite, either_yes}
use Rattle.hexadecimal.specs.Hex.{bytes_of}
use Rattle.paper.specs.Requests.{kind_of, known, fits}
use Rattle.paper.specs.declared.Refusal.{Refusal}
use Rattle.paper.specs.Numbers.{refusal_number}
use Rattle.paper.specs.Refusals.{is_hex, longest_line}
use Rattle.paper.specs.Module.{is_writable, read_refusal, write_refusal}
use Rattle.lines.specs.Reading.{Frame, Refused, Line, Rejected, read_of, wrote_of}
use Rattle.hexadecimal.proofs.Laws.{bytes_length}
use Rattle.lines.proofs.Fitting.{first_of, read_by, write_by, own, frame_by, checked, own_by}

-- the tests in turn: of the line or the frame's size, the frame's own refusal, and of the room
abbrev pub in_turn : Bool → ℕ → Bool → ℕ
in_turn a own d = pick a 1 (pick (eqb own 0) (pick d 15 0) own)

turns : (a b c d : Bool) → first_of a b c d ≡ in_turn a (pick b 2 (pick c 3 0)) d
turns true b c d = refl
turns false true c d = refl
turns false false true d = refl
turns false false false d = refl

in_turn_lem : (a d : Bool) (f : List ℕ) → first_of a (opposite (known (kind_of f))) (opposite (fits f)) d ≡ in_turn a (own f) d
in_turn_lem a d f = rw (frame_by f) (turns a (opposite (known (kind_of f))) (opposite (fits f)) d)

-- accepted where there is no refusal
abbrev outcome : {A : Type 0} → A → (ℕ → A) → ℕ → A
outcome good bad n = pick (eqb n 0) good (bad n)

-- a refusal has a number
pub refusal_some : (e : Refusal) → ¬ (refusal_number e ≡ 0)
refusal_some Refusal.Line h = absurd (omega arith)
refusal_some Refusal.Kind h = absurd (omega arith)
refusal_some Refusal.Frame h = absurd (omega arith)
refusal_some Refusal.Zero h = absurd (omega arith)
refusal_some Refusal.Malformed h = absurd (omega arith)
refusal_some Refusal.Gap h = absurd (omega arith)
refusal_some Refusal.Top h = absurd (omega arith)
refusal_some Refusal.First h = absurd (omega arith)
refusal_some Refusal.Second h = absurd (omega arith)
refusal_some Refusal.Stale h = absurd (omega arith)
refusal_some Refusal.Empty h = absurd (omega arith)
refusal_some Refusal.Secret h = absurd (omega arith)
refusal_some Refusal.Unopened h = absurd (omega arith)
refusal_some Refusal.Opened h = absurd (omega arith)
refusal_some Refusal.Room h = absurd (omega arith)
refusal_some Refusal.Mass h = absurd (omega arith)

module _ (line : List ℕ) (space : ℕ) where
  abbrev f : List ℕ
  f = bytes_of line

  pub read_turns : read_refusal line space ≡ in_turn (is_hex line).fails (own f) (ltb space (length f))
  read_turns = read_by line space ∙ in_turn_lem (is_hex line).fails (ltb space (length f)) f

  read_is : read_of line space ≡ outcome (Frame (kind_of f) (length f)) (λ n. Refused n)
      (in_turn (is_hex line).fails (own f) (ltb space (length f)))
  unfolding read_of
  read_is = rw read_turns

  pub read_1 : (is_hex line).fails ≡ true → read_of line space ≡ Refused 1
  read_1 h = read_is ∙ rw h

  module _ (hex : (is_hex line).fails ≡ false) where
    pub read_own : ¬ (own f ≡ 0) → read_of line space ≡ Refused (own f)
    read_own h = let e = ne_eqb (own f) 0 h in read_is ∙ rw (hex, e) (rw e)

    pub read_15 : own f ≡ 0 → space < length f → read_of line space ≡ Refused 15
    read_15 e h = read_is ∙ rw (hex, e, lt-ltb space (length f) h)

    pub read_frame : own f ≡ 0 → length f ≤ space → read_of line space ≡ Frame (kind_of f) (length f)
    read_frame e h = read_is ∙ rw (hex, e, le-ltb space (length f) h)

module _ (f : List ℕ) (space : ℕ) where
  pub write_turns : write_refusal f space ≡ in_turn (is_writable f).fails (own f) (ltb space (2 * length f + 1))
  write_turns = write_by f space ∙ in_turn_lem (is_writable f).fails (ltb space (2 * length f + 1)) f

  write_is : wrote_of f space ≡ outcome (Line (2 * length f + 1)) (λ n. Rejected n)
      (in_turn (is_writable f).fails (own f) (ltb space (2 * length f + 1)))
  unfolding wrote_of
  write_is = rw write_turns

  pub write_1 : (is_writable f).fails ≡ true → wrote_of f space ≡ Rejected 1
  write_1 h = write_is ∙ rw h

  module _ (size : (is_writable f).fails ≡ false) where
    pub write_own : ¬ (own f ≡ 0) → wrote_of f space ≡ Rejected (own f)
    write_own h = let e = ne_eqb (own f) 0 h in write_is ∙ rw (size, e) (rw e)

    pub write_15 : own f ≡ 0 → space < 2 * length f + 1 → wrote_of f space ≡ Rejected 15
    write_15 e h = write_is ∙ rw (size, e, lt-ltb space (2 * length f + 1) h)

    pub write_line : own f ≡ 0 → 2 * length f + 1 ≤ space → wrote_of f space ≡ Line (2 * length f + 1)
    write_line e h = write_is ∙ rw (size, e, le-ltb space (2 * length f + 1) h)

-- ── by what the callees found ──
module _ (line : List ℕ) (space : ℕ) (hex : (is_hex line).fails ≡ false) where
  pub refused_found : (e : Refusal) → refusal_number e ≡ checked (bytes_of line) → read_of line space ≡ Refused (refusal_number e)
  refused_found e h =
      let o = h ∙ own_by (bytes_of line) in
      read_own line space hex (λ z. refusal_some e (o ∙ z)) ∙ ap (λ (n : ℕ). Refused n) (sym o)

  pub no_room_found : checked (bytes_of line) ≡ 0 → leb (length line / 2) space ≡ false → read_of line space ≡ Refused 15
  no_room_found z h = read_15 line space hex (sym (own_by (bytes_of line)) ∙ z) (rw (bytes_length line) (leb-false (length line / 2) space h))

  pub frame_found : checked (bytes_of line) ≡ 0 → leb (length line / 2) space ≡ true
      → read_of line space ≡ Frame (kind_of (bytes_of line)) (length line / 2)
  frame_found z h =
      read_frame line space hex (sym (own_by (bytes_of line)) ∙ z) (rw (bytes_length line) (leb-true (length line / 2) space h))
      ∙ ap (λ (n : ℕ). Frame (kind_of (bytes_of line)) n) (bytes_length line)

module _ (f : List ℕ) (space : ℕ) (size : (is_writable f).fails ≡ false) where
  pub rejected_found : (e : Refusal) → refusal_number e ≡ checked f → wrote_of f space ≡ Rejected (refusal_number e)
  rejected_found e h =
      let o = h ∙ own_by f in
      write_own f space size (λ z. refusal_some e (o ∙ z)) ∙ ap (λ (n : ℕ). Rejected n) (sym o)

  pub no_line_found : checked f ≡ 0 → leb (2 * length f + 1) space ≡ false → wrote_of f space ≡ Rejected 15
  no_line_found z h = write_15 f space size (sym (own_by f) ∙ z) (leb-false (2 * length f + 1) space h)

  pub line_found : checked f ≡ 0 → leb (2 * length f + 1) space ≡ true → wrote_of f space ≡ Line (2 * length f + 1)
  line_found z h = write_line f space size (sym (own_by f) ∙ z) (leb-true (2 * length f + 1) space h)

-- ── a line that is too long ──

-- above 4,244 digits it gets 1, whatever it holds
pub too_long : (l : List ℕ) → longest_line < length l → (is_hex l).fails ≡ true
too_long l h = rw (lt-ltb longest_line (length l) h, either_yes (eqb (length l % 2) 1), either_yes (eqb (length l) 0))

-- so a reader that keeps 4,245 bytes of a line or more, and drops the rest, refuses the same lines alike
cut_by : (l : List ℕ) (kept space : ℕ) → longest_line < kept → Dec (length l ≤ kept) → read_of (take kept l) space ≡ read_of l space
cut_by l kept space h (yes k) = ap (λ (x : List ℕ). read_of x space) (take_all kept l k)
cut_by l kept space h (no k) =
    let n = length-take-le kept l (omega arith) in
    read_1 (take kept l) space (too_long (take kept l) (omega arith)) ∙ sym (read_1 l space (too_long l (omega arith)))

pub cut_line : (l : List ℕ) (kept space : ℕ) → longest_line < kept → read_of (take kept l) space ≡ read_of l space
cut_line l kept space h = cut_by l kept space h (dec_le (length l) kept)
