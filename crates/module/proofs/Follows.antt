-- The statements of `specs/Laws`.
use mathlib.Core.Path.{◌≡◌, refl, sym, ap, ◌∙◌}
use mathlib.Core.List.{List, [], ◌∷◌, ◌++◌}
use mathlib.Core.Bool.{Bool, true, false}
use mathlib.Core.Logic.{◌⊎◌, inl, inr}
use Prim.Native.Nat.{ℕ, zero, suc, ◌≤◌}
use native.Mathlib.Omega.{arith}
use native.Mathlib.Decide.{dec_le}
use lib.ListN.{length, drop, replicate, length-append, length-drop}
use lib.Seq.{drop_at, take_all}
use Rattle.seqs.specs.Bytes.{Bytes, all_zero, be64}
use Rattle.sha256.specs.Hash.{sha256}
use Rattle.sha256.proofs.Digests.{sha256_length}
use Rattle.hexadecimal.specs.Hex.{is_digit, value_of, digit_of, bytes_of, digits_of}
use Rattle.hexadecimal.proofs.Laws.{bytes_of_digits, digits_all, digits_length}
use Rattle.paper.specs.declared.Registers.{Registers}
use Rattle.paper.specs.Requests as Q
use Rattle.paper.specs.Requests.{kinds, known, fits, kind_of, request_of}
use Rattle.paper.specs.Refusals.{Check, order, reply_room, is_hex, Verdict, refused_by, all_passed, judge, Passed, FirstToApply}
use Rattle.paper.specs.Module.{Told, told_by, answer_frame, checks_of, answer_to, reply_line}
use Rattle.paper.specs.Strings.{Dig, cost}
use Rattle.paper.proofs.Verdicts.{first_of, number_is, first_given, first_only_lem, passed_none}
use Rattle.paper.specs.ByHand.{SpaceOf195}
use Rattle.paper.proofs.Room.{room}
use Rattle.paper.proofs.Ceilings.{ceilings}
use Rattle.paper.proofs.Older.{older_gets_8}
use Rattle.lines.proofs.Follows.{among_them}
use Rattle.paper.proofs.Early.{among}
use Rattle.replies.specs.Outcomes.{number_told}
use Rattle.std.proofs.Common.{None, Some, true≢false}
use Rattle.module.proofs.Laws.{with_room, is_hex_lem}
use Rattle.module.specs.declared.Answered.{Answered}
use Rattle.module.specs.Answering.{answered_of}
use Rattle.module.specs.Laws.{RefusalKeeps, RefusalIsFirst, OnlyTheReply, ReplyFits, OneOutcome, OneOutcomeHere, UnderTheCeiling, OlderMemorandum, SecretOpens, RefusingBreaks}

told_some : (n : ℕ) → (n ≡ 0 → ⊥) → number_told n ≡ Some n
told_some zero h = absurd (h refl)
told_some (suc n) h = refl

-- 0 is none of the numbers
not_zero_lem : (cs : List Check) (n : ℕ) → FirstToApply order cs n → n ≡ 0 → ⊥
not_zero_lem cs n f e = true≢false (sym (among_them order cs n f) ∙ ap (λ (m : ℕ). among m order) e)

kept : (s : Registers) (k : ℕ) (q : Q.Request) (v : Verdict) → ((told_by sha256 s k q v).refusal ≡ 0 → ⊥)
    → (told_by sha256 s k q v).after ≡ s
kept s k q (refused_by n fs) h = refl
kept s k q (all_passed fs) h = absurd (h refl)

kept_line : (s : Registers) (line : List ℕ) (space : ℕ) → ((answer_to sha256 s line space).refusal ≡ 0 → ⊥)
    → (answer_to sha256 s line space).after ≡ s
unfolding answer_to
kept_line s line space h =
    let f = bytes_of line in
    kept s (kind_of f) (request_of f)
    (judge order [] (checks_of sha256 s line space)) h

pub refusal_keeps : RefusalKeeps
refusal_keeps s line space after o p h =
    ap (λ (x : Answered). x.registers) p.returned
    ∙ kept_line s line (length space) (λ e. h (ap (λ (x : Answered). x.reply.refused) p.returned ∙ ap number_told e))

number_of_lem : (s : Registers) (line : List ℕ) (space : ℕ)
    → (answer_to sha256 s line space).refusal ≡ first_of order (checks_of sha256 s line space)
unfolding answer_to
number_of_lem s line space =
    let f = bytes_of line in
    number_is sha256 s (kind_of f) (request_of f) order [] (checks_of sha256 s line space)

pub refusal_is_first : RefusalIsFirst
refusal_is_first s line space after o p =
    record {
      given = either_way (first_given order cs);
      refused_when = λ n h. e ∙ ap number_told (first_only_lem order cs n h) ∙ told_some n (not_zero_lem cs n h);
      accepted_when = λ h. e ∙ ap number_told (passed_none order cs h);
    }
  where
    cs : List Check
    cs = checks_of sha256 s line (length space)

    e : o.reply.refused ≡ number_told (first_of order cs)
    e = ap (λ (x : Answered). x.reply.refused) p.returned ∙ ap number_told (number_of_lem s line (length space))

    either_way : (Passed order cs × (first_of order cs ≡ 0)) ⊎ FirstToApply order cs (first_of order cs)
        → (Passed order cs × (o.reply.refused ≡ None)) ⊎ ((n : ℕ) × FirstToApply order cs n × (o.reply.refused ≡ Some n))
    either_way (inl h) = inl (h.0, e ∙ ap number_told h.1)
    either_way (inr f) = inr (first_of order cs, f, e ∙ told_some (first_of order cs) (not_zero_lem cs (first_of order cs) f))

pub only_the_reply : OnlyTheReply
only_the_reply s line space after o p =
    let t : Told = answer_to sha256 s line (length space) in
    let n : o.reply.length ≡ length (reply_line t) = ap (λ (x : Answered). x.reply.length) p.returned in
    ap (drop o.reply.length) p.left
    ∙ drop_at (reply_line t) (drop (length (reply_line t)) space) o.reply.length (sym n)
    ∙ ap (λ (k : ℕ). drop k space) (sym n)

pub reply_fits : ReplyFits
reply_fits s line space after o p = by_room (dec_le reply_room (length space))
  where
    t : Told
    t = answer_to sha256 s line (length space)

    r : SpaceOf195 sha256 s line
    r = room sha256 sha256_length s line

    nothing : t.refusal ≡ 15 → length (reply_line t) ≡ 0
    nothing e = rw e refl

    all : length (reply_line t) ≤ length space
        → (o.reply.length ≤ reply_room) × (o.reply.length ≤ length space) × (length after ≡ length space)
    all h =
        let n : o.reply.length ≡ length (reply_line t) = ap (λ (x : Answered). x.reply.length) p.returned in
        let m : length after ≡ length (reply_line t ++ drop (length (reply_line t)) space) = ap length p.left in
        let sum = length-append (reply_line t) (drop (length (reply_line t)) space) in
        let rest = length-drop (length (reply_line t)) space in
        (omega (arith, r.holds (length space)), omega arith, omega arith)

    by_room : Dec (reply_room ≤ length space) → (o.reply.length ≤ reply_room) × (o.reply.length ≤ length space) × (length after ≡ length space)
    by_room (yes h) = all (omega (arith, r.holds (length space)))
    by_room (no h) = all (omega (arith, nothing (r.too_small (length space) (omega (arith, h)))))

pub one_outcome : OneOutcome
one_outcome s line space after after' o o' p p' = (p.returned ∙ sym p'.returned, p.left ∙ sym p'.left)

pub one_outcome_here : OneOutcomeHere
one_outcome_here s t t' line space after after' o o' p p' =
    let e = p.returned ∙ sym p'.returned in (
      ap (λ (x : Answered). x.registers) e,
      ap (λ (x : Answered). x.reply) e,
      p.left ∙ sym p'.left,
    )

pub under_the_ceiling : UnderTheCeiling
under_the_ceiling s line space after o p =
    let e : o.reply.blocks ≡ cost (answer_to sha256 s line (length space)).formed = ap (λ (x : Answered). x.reply.blocks) p.returned in
    omega (arith, e, (ceilings sha256).line s line (length space))

pub older_memorandum : OlderMemorandum
older_memorandum s₀ s line₀ line space₀ space after o l p =
    by_law (older_gets_8 sha256 sha256_length s₀ s line₀ line (length space₀) (length space) l)
  where
    by_law : {C : Type 0} → ((answer_to sha256 s line (length space)).refusal ≡ 8) ⊎ C → (o.reply.refused ≡ Some 8) ⊎ C
    by_law (inl e) = inl (ap (λ (x : Answered). x.reply.refused) p.returned ∙ ap number_told e)
    by_law (inr c) = inr c

-- ── opening ──

module _ (k : Dig) (n : length k ≡ 32) (bs : Bytes k) (z : all_zero k ≡ false) where
  abbrev frame : List ℕ
  frame = 0x10 ∷ k

  frame_bytes : bytes_of (digits_of frame) ≡ frame
  frame_bytes = bytes_of_digits frame (omega arith, bs)

  is_line_lem : (is_hex (digits_of frame)).fails ≡ false
  is_line_lem =
      let l : length (digits_of frame) ≡ 66 = omega (arith, digits_length frame) in
      rw (l, digits_all frame (omega arith, bs)) refl

  is_frame_lem : fits frame ≡ true
  unfolding fits kinds
  is_frame_lem = rw n refl

  is_request : request_of frame ≡ Q.unlock k
  unfolding request_of kinds
  is_request = ap Q.unlock (take_all 32 k (omega arith))

  framed : (s : Registers) → s.opened ≡ false → answer_frame sha256 s frame ≡ told_by sha256 s 0x10 (Q.unlock k) (all_passed [])
  unfolding answer_frame known kinds
  framed s h = rw (is_frame_lem, is_request, z, h) refl

  accepted : (s : Registers) (space : ℕ) → s.opened ≡ false → reply_room ≤ space
      → answer_to sha256 s (digits_of frame) space ≡ told_by sha256 s 0x10 (Q.unlock k) (all_passed [])
  accepted s space h r =
      with_room s (digits_of frame) space r ∙ is_hex_lem s (digits_of frame) is_line_lem ∙ ap (answer_frame sha256 s) frame_bytes
      ∙ framed s h

pub opens : SecretOpens
opens s k space after o h n bs z r p =
    let e : o ≡ answered_of (told_by sha256 s 0x10 (Q.unlock k) (all_passed [])) =
    p.returned ∙ ap answered_of (accepted k n bs z s (length space) h r) in
    (ap (λ (x : Answered). x.reply.refused) e, ap (λ (x : Answered). x.registers) e)

ones : (n : ℕ) → Bytes (replicate n 1)
ones zero = tt
ones (suc n) = (omega arith, ones n)

-- an open module takes a path of no levels, whatever its registers
abbrev level_path : List ℕ
level_path = 0x01 ∷ replicate 73 0

level_accepted : (s : Registers) → s.opened ≡ true → (answer_to sha256 s (digits_of level_path) reply_room).refusal ≡ 0
unfolding answer_to request_of fits known kinds is_digit value_of digit_of be64
level_accepted s h = rw h refl

pub refusing_breaks : RefusingBreaks
refusing_breaks m keeps s refuses = by_open s.opened refl
  where
    by_open : (b : Bool) → s.opened ≡ b → ⊥
    by_open true h =
        let space : List ℕ = replicate reply_room 0 in
        let line = digits_of level_path in
        refuses line space (ap (λ (x : Answered). x.reply.refused) (keeps s line space).returned ∙ ap number_told (level_accepted s h))
    by_open false h =
        let space : List ℕ = replicate reply_room 0 in
        let k : Dig = replicate 32 1 in
        let line = digits_of (0x10 ∷ k) in
        let o = m s line space in
        refuses line space (opens s k space o.1 o.0 h refl (ones 32) refl (omega arith) (keeps s line space)).0
