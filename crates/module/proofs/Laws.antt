-- From a line to its frame: refusals 15 and 1 and the reader's, and the frame's answer where there is none.
use mathlib.Core.Path.{◌≡◌, refl, sym, ap, ◌∙◌}
use mathlib.Core.Bool.{Bool, true, false, true≢false}
use mathlib.Core.List.{List, [], ◌∷◌, ◌++◌}
use Prim.Native.Nat.{ℕ, ◌+◌, ◌*◌, ◌≤◌, ◌<◌}
use native.Mathlib.Omega.{arith}
use borrow.Author.Tests.{ne_eqb, eqb-true, lt-ltb, le-ltb, le-leb}
use native.Mathlib.Decide.{dec_le}
use lib.Dec.{eqb}
use lib.ListN.{length, take, drop}
use lib.Seq.{take_at, length-take-le}
use Rattle.seqs.specs.Choose.{pick}
use Rattle.seqs.specs.Over.{written, written_fits}
use Rattle.sha256.specs.Hash.{sha256}
use Rattle.sha256.proofs.Digests.{sha256_length}
use Rattle.hexadecimal.specs.Hex.{bytes_of, line_of}
use Rattle.hexadecimal.proofs.Laws.{bytes_length, line_length}
use Rattle.paper.specs.declared.Refusal.{Refusal}
use Rattle.paper.specs.declared.Registers.{Registers}
use Rattle.paper.specs.Numbers.{refusal_number}
use Rattle.paper.specs.Requests.{kind_of, request_of}
use Rattle.paper.specs.Refusals.{is_hex, Verdict, refused_by, judge, longest_frame, longest_line, reply_room}
use Rattle.paper.specs.Module.{refusal_of, frame_checks, read_refusal, Told, told_by, answer_frame, answer_to, reply_line, space_after}
use Rattle.paper.proofs.Early.{none_early}
use Rattle.paper.proofs.Room.{room}
use Rattle.lines.specs.Reading.{Frame, Refused, read_of, reply_length}
use Rattle.lines.proofs.Outcomes.{too_long}
use Rattle.lines.proofs.Fitting.{read_by, frame_by}
use Rattle.replies.specs.declared.Outcome.{Outcome}
use Rattle.replies.specs.Outcomes.{outcome_of, refusal}
use Rattle.kernel.specs.Fitting.{answer_fitting}
use Rattle.std.proofs.Common.{Some}
use Rattle.std.specs.Option.{unwrap_or}
use Rattle.module.specs.declared.Answered.{Answered}
use Rattle.module.specs.Answering.{answered_of}
use Rattle.module.specs.Laws.{Promised}
use Rattle.replies.specs.Outcomes.{number_told}
use Rattle.kernel.proofs.Frames.{frame_refused, frame_accepted}

-- ── checks 15 and 1, before those of the frame ──

module _ (s : Registers) (line : List ℕ) where
  abbrev f : List ℕ
  f = bytes_of line

  abbrev judged : Verdict → Told
  judged v = told_by sha256 s (kind_of f) (request_of f) v

  pub without_room : (space : ℕ) → space < reply_room → answer_to sha256 s line space ≡ judged (refused_by 15 [])
  unfolding answer_to
  without_room space h = rw (lt-ltb space reply_room h, (none_early sha256 s (request_of f)).of_15) refl

  -- where there is room it does not matter how much
  pub with_room : (space : ℕ) → reply_room ≤ space → answer_to sha256 s line space ≡ answer_to sha256 s line reply_room
  unfolding answer_to
  with_room space h = rw (le-ltb space reply_room h) refl

  pub not_hex : (is_hex line).fails ≡ true → answer_to sha256 s line reply_room ≡ judged (refused_by 1 [])
  unfolding answer_to
  not_hex h = rw (h, (none_early sha256 s (request_of f)).of_15, (none_early sha256 s (request_of f)).of_1) refl

  pub is_hex_lem : (is_hex line).fails ≡ false → answer_to sha256 s line reply_room ≡ answer_frame sha256 s f
  unfolding answer_to answer_frame
  is_hex_lem h = rw (h, (none_early sha256 s (request_of f)).of_15, (none_early sha256 s (request_of f)).of_1) refl

-- ── the reader, with a space of 2,122 bytes ──

-- a line of digits has a frame that fits the space
short_by : (line : List ℕ) → Dec (length line ≤ longest_line) → (is_hex line).fails ≡ false → length line ≤ longest_line
short_by line (yes h) e = h
short_by line (no h) e = absurd (true≢false (sym (too_long line (omega arith)) ∙ e))

module _ (line : List ℕ) where
  abbrev n : ℕ
  n = read_refusal line longest_frame

  short : (is_hex line).fails ≡ false → length (bytes_of line) ≤ longest_frame
  short e = let h = short_by line (dec_le (length line) longest_line) e in omega (arith, bytes_length line)

  -- it refuses 1, or what the frame's own checks say
  read_1 : (is_hex line).fails ≡ true → n ≡ 1
  read_1 e = read_by line longest_frame ∙ rw e refl

  read_own : (is_hex line).fails ≡ false → n ≡ refusal_of (judge (2 ∷ 3 ∷ []) [] (frame_checks (bytes_of line)))
  read_own e =
      read_by line longest_frame ∙ rw (e, le-ltb longest_frame (length (bytes_of line)) (short e)) refl ∙ sym (frame_by (bytes_of line))

pub taken : (n : ℕ) (l : List ℕ) → n ≤ length l → n ≡ length (take n l)
taken n l h = sym (length-take-le n l h)

-- what is found tells the refusal
refused_is : (k l m n : ℕ) (b : Bool) → Refused n ≡ pick b (Frame k l) (Refused m) → n ≡ m
refused_is k l m n true h = cc
refused_is k l m n false h = cc

frame_is : (k l m k' l' : ℕ) (b : Bool) → eqb m 0 ≡ b → Frame k' l' ≡ pick b (Frame k l) (Refused m) → (m ≡ 0) × (l' ≡ l)
frame_is k l m k' l' true e h = (eqb-true m 0 e, cc)
frame_is k l m k' l' false e h = cc

module _ (s : Registers) (line : List ℕ) where
  -- a line that the reader refuses
  refused_by_lem : (b : Bool) → (is_hex line).fails ≡ b → (e : Refusal) → refusal_number e ≡ read_refusal line longest_frame
      → refusal s (refusal_number e) 0 ≡ outcome_of (answer_to sha256 s line reply_room)
  refused_by_lem true h e m = ap (λ (i : ℕ). refusal s i 0) (m ∙ read_1 line h) ∙ sym (ap outcome_of (not_hex s line h))
  refused_by_lem false h e m = frame_refused s (bytes_of line) e (m ∙ read_own line h) ∙ sym (ap outcome_of (is_hex_lem s line h))

  pub line_refused : (e : Refusal) → Refused (refusal_number e) ≡ read_of line longest_frame
      → refusal s (refusal_number e) 0 ≡ outcome_of (answer_to sha256 s line reply_room)
  unfolding read_of
  line_refused e h =
      let i : ℕ = read_refusal line longest_frame in
      refused_by_lem (is_hex line).fails refl e
      (refused_is (kind_of (bytes_of line)) (length (bytes_of line)) i (refusal_number e) (eqb i 0) h)

  -- a line that it reads
  read_line_by : (b : Bool) → (is_hex line).fails ≡ b → read_refusal line longest_frame ≡ 0
      → (length (bytes_of line) ≤ longest_frame) × (answer_fitting s (bytes_of line) ≡ outcome_of (answer_to sha256 s line reply_room))
  read_line_by true h z = let w = read_1 line h in absurd (omega arith)
  read_line_by false h z =
      (short line h, frame_accepted s (bytes_of line) (sym z ∙ read_own line h) ∙ sym (ap outcome_of (is_hex_lem s line h)))

  pub line_read_lem : (k l : ℕ) → Frame k l ≡ read_of line longest_frame
      → (l ≡ length (bytes_of line)) × (length (bytes_of line) ≤ longest_frame)
      × (answer_fitting s (bytes_of line) ≡ outcome_of (answer_to sha256 s line reply_room))
  unfolding read_of
  line_read_lem k l e =
      let i : ℕ = read_refusal line longest_frame in
      let w = frame_is (kind_of (bytes_of line)) (length (bytes_of line)) i k l (eqb i 0) refl e in
      let v = read_line_by (is_hex line).fails refl w.0 in
      (w.1, v.0, v.1)

  pub read_short : (k l : ℕ) → Frame k l ≡ read_of line longest_frame → l ≤ longest_frame
  read_short k l e = let h = line_read_lem k l e in omega (arith, h.0, h.1)

  -- the part of the space that is the frame
  pub read_answered : (k l : ℕ) (d : List ℕ) → Frame k l ≡ read_of line longest_frame
      → answer_fitting s (take l (bytes_of line ++ drop l d)) ≡ outcome_of (answer_to sha256 s line reply_room)
  read_answered k l d e =
      let h = line_read_lem k l e in
      ap (answer_fitting s) (take_at (bytes_of line) (drop l d) l (sym h.0)) ∙ h.2

-- ── the reply's line ──

pub not_15 : (s : Registers) (line : List ℕ) → eqb (answer_to sha256 s line reply_room).refusal 15 ≡ false
not_15 s line = ne_eqb _ 15 ((room sha256 sha256_length s line).enough reply_room (omega arith))

-- ── what is promised of a line ──

pub promised_without_room : (s : Registers) (line d : List ℕ) (o : Answered) → length d < reply_room
    → o ≡ record { registers = s; reply = record { refused = Some 15; length = 0; blocks = 0 } } → Promised s line d o d
promised_without_room s line d o h e =
    let t = without_room s line (length d) h in
    record { returned = e ∙ sym (ap answered_of t); left = sym (ap (λ (x : Told). space_after x d) t) }

-- m is what the outcome says, and its line is written where there is room
module _ (t : Told) (m d : List ℕ) (e : m ≡ t.says) (short : length m ≤ 97) (room : reply_room ≤ length d) (r : eqb t.refusal 15 ≡ false) where
  line_is : reply_line t ≡ line_of m
  line_is = rw r (ap line_of (sym e))

  fits_room : length (line_of m) ≤ length d
  fits_room = omega (arith, line_length m)

  pub written_here : written (line_of m) d ≡ space_after t d
  written_here = written_fits (line_of m) d _ refl fits_room ∙ sym (ap (λ (l : List ℕ). l ++ drop (length l) d) line_is)

  pub length_here : unwrap_or (reply_length m (length d)) 0 ≡ length (reply_line t)
  unfolding reply_length
  length_here =
      let l = line_length m in
      let f = fits_room in
      rw (le-leb (2 * length m + 1) (length d) (omega arith)) (sym (ap length line_is ∙ l))

-- the same of an outcome's reply
module _ (t : Told) (o : Outcome) (e : o ≡ outcome_of t) (short : length o.reply ≤ 97) where
  module _ (d : List ℕ) (room : reply_room ≤ length d) (r : eqb t.refusal 15 ≡ false) where
    pub written_after : (d' : List ℕ) → d' ≡ written (line_of o.reply) d → d' ≡ space_after t d
    written_after d' h = h ∙ written_here t o.reply d (ap (λ (x : Outcome). x.reply) e) short room r

    pub length_after : (n : ℕ) → n ≡ unwrap_or (reply_length o.reply (length d)) 0 → n ≡ length (reply_line t)
    length_after n h = h ∙ length_here t o.reply d (ap (λ (x : Outcome). x.reply) e) short room r

pub promised_with_room : (s : Registers) (line d m : List ℕ) (o : Outcome) (x : Answered) (d' : List ℕ)
    → o ≡ outcome_of (answer_to sha256 s line reply_room) → m ≡ (answer_to sha256 s line reply_room).says → length m ≤ 97
    → reply_room ≤ length d → x.registers ≡ o.registers → x.reply.refused ≡ number_told (answer_to sha256 s line reply_room).refusal
    → x.reply.length ≡ unwrap_or (reply_length m (length d)) 0 → x.reply.blocks ≡ o.blocks → d' ≡ written (line_of m) d
    → Promised s line d x d'
promised_with_room s line d m o x d' is e short room r f n b h =
    let t = answer_to sha256 s line reply_room in
    let w = with_room s line (length d) room in
    let k = n ∙ length_here t m d e short room (not_15 s line) in
    let registers = r ∙ ap (λ (y : Outcome). y.registers) is in
    let blocks = b ∙ ap (λ (y : Outcome). y.blocks) is in
    record {
      returned =
          (λ i. record { registers = registers i; reply = record { refused = f i; length = k i; blocks = blocks i } })
          ∙ sym (ap answered_of w);
      left = h ∙ written_here t m d e short room (not_15 s line) ∙ sym (ap (λ (y : Told). space_after y d) w);
    }
