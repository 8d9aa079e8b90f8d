-- The statements of specs/Program: what is written for an input in pieces is the replies to the lines of the whole.
-- A call of `serve` takes a part of the input, as a session without an output takes it, and writes the replies to the lines that
-- end in the part; so for a piece, so for all pieces, and these are the lines of the whole input.
use mathlib.Core.Path.{◌≡◌, refl, sym, ap, subst, ◌∙◌}
use mathlib.Core.Bool.{Bool, true, false, true≢false}
use mathlib.Core.List.{List, [], ◌∷◌, ◌++◌, append_assoc, append-nil, flatten}
use Prim.Native.Nat.{ℕ, zero, suc, ◌+◌, ◌-◌, ◌<◌, ◌≤◌, min}
use native.Mathlib.Decide.{dec_le}
use native.Mathlib.Omega.{arith}
use borrow.Author.Tests.{ltb-true, ltb-false, le-ltb}
use lib.Dec.{ltb}
use lib.ListN.{length, take, drop, take-append-drop, length-append, length-take, length-drop, drop_of_length-le}
use lib.Seq.{take_all, take_at, length-take-le, drop-drop}
use Rattle.pieces.specs.Feeding.{ends_line, feed_byte, feed_bytes}
use Rattle.pieces.specs.Cutting.{Holding, line_held}
use Rattle.pieces.specs.Whole.{Gathered, gathering, in_full, no_lines, last_line, ended_in}
use Rattle.pieces.proofs.Laws.{feed_append}
use Rattle.pieces.proofs.Whole.{Holds, holds_none, holds_part, holds_fits, holds_more}
use Rattle.paper.specs.declared.Registers.{Registers}
use Rattle.paper.specs.Module.{Told, reply_line}
use Rattle.paper.specs.Refusals.{longest_line, reply_room}
use Rattle.lines.proofs.Outcomes.{too_long}
use Rattle.module.specs.declared.Answered.{Answered}
use Rattle.module.proofs.Laws.{without_room, with_room, not_hex}
use Rattle.session.specs.Replies.{told_of, replies_to, registers_behind}
use Rattle.session.specs.declared.Served.{Served}
use Rattle.session.specs.Serving.{SessionAt, session_with, carrying, Stand, out_after, serving, served_of, ServedAs, answer_at_end, reply_at_end, FinishedAs}
use Rattle.session.specs.Program.{Progress, wrote_on, piece_from, piece_of, wrote_for, WholeInput, OneServing, OneFinish, FinishWithoutRoom}

-- ── replies ──

replies_append : (s : Registers) (l m : List (List ℕ)) → replies_to s (l ++ m) ≡ replies_to s l ++ replies_to (registers_behind s l) m
replies_append s [] m = refl
replies_append s (x ∷ l) m = rw (replies_append (told_of s x).after l m, append_assoc)

pub registers_append : (s : Registers) (l m : List (List ℕ)) → registers_behind s (l ++ m) ≡ registers_behind (registers_behind s l) m
registers_append s [] m = refl
registers_append s (x ∷ l) m = registers_append (told_of s x).after l m

-- a line cut to 4,245 bytes or more is answered as the whole line: cut, it is too long as well
told_by_lem : (s : Registers) (l : List ℕ) (room : ℕ) → longest_line < room → Dec (length l ≤ room) → told_of s (take room l) ≡ told_of s l
told_by_lem s l room h (yes k) = ap (told_of s) (take_all room l k)
told_by_lem s l room h (no k) =
    let n = length-take-le room l (omega arith) in
    not_hex s (take room l) (too_long (take room l) (omega arith)) ∙ sym (not_hex s l (too_long l (omega arith)))

told_cut : (s : Registers) (l : List ℕ) (room : ℕ) → longest_line < room → told_of s (take room l) ≡ told_of s l
told_cut s l room h = told_by_lem s l room h (dec_le (length l) room)

last_cut : (s : Registers) (l : List ℕ) (room : ℕ) → longest_line < room → replies_to s (last_line (take room l)) ≡ replies_to s (last_line l)
last_cut s l zero h = absurd (omega arith)
last_cut s [] (suc room) h = refl
last_cut s (b ∷ l) (suc room) h = ap (λ (x : Told). reply_line x ++ []) (told_cut s (b ∷ l) (suc room) h)

-- ── one call of `serve` ──

-- A session from registers s wrote b: it stands at c in its input, and u is its input as lines. Then the registers are those behind
-- these lines, what is held is what has come of the next one, and b is the replies.
record Stands (s : Registers) (room : ℕ) (b : List ℕ) (c : SessionAt) (u : Gathered (List ℕ)) : Type 0 where
  regs : c.registers ≡ registers_behind s u.lines
  held : Holds room c.held u.begun
  bytes : b ≡ replies_to s u.lines

-- Serving stands at t, at place i of a piece, where the session wrote b before and the replies in the output are still to be written.
record Along (s : Registers) (room : ℕ) (b : List ℕ) (long i : ℕ) (t : Stand) (c : SessionAt) (u : Gathered (List ℕ)) : Type 0 where
  stands : Stands s room (b ++ take t.filled t.out) c u
  session : t.session ≡ c
  next : t.next ≡ i
  within : t.filled ≤ length t.out
  longer : long ≤ length t.out

-- a reply behind others
module _ (t : Told) (o : List ℕ) (w : ℕ) (h : w ≤ length o) where
  reply_long : length (out_after t o w) ≡ w + (length (reply_line t) + (length o - w - length (reply_line t)))
  reply_long = simp (length-append, length-take, length-drop) (omega arith)

  reply_behind : take (w + length (reply_line t)) (out_after t o w) ≡ take w o ++ reply_line t
  reply_behind =
      ap (take (w + length (reply_line t))) (sym (append_assoc (take w o) (reply_line t) (drop (length (reply_line t)) (drop w o))))
      ∙ take_at (take w o ++ reply_line t) (drop (length (reply_line t)) (drop w o)) (w + length (reply_line t))
      (simp (length-append, length-take) (omega arith))

module _ (s : Registers) (room : ℕ) (b : List ℕ) (long : ℕ) where
  -- Serving the bytes `rest` from place i on came to t: it took a part of them, one byte or more where it did not stop at once.
  record Goes (rest : List ℕ) (i : ℕ) (full : Bool) (c : SessionAt) (u : Gathered (List ℕ)) (t : Stand) : Type 0 where
    onward : full ≡ false → 0 < length rest → i < t.next
    from : i ≤ t.next
    upto : t.next ≤ i + length rest
    along : Along s room b long t.next t (feed_bytes carrying (take (t.next - i) rest) c)
        (feed_bytes (gathering in_full) (take (t.next - i) rest) u)

  goes_none : (rest : List ℕ) (i : ℕ) (t : Stand) (c : SessionAt) (u : Gathered (List ℕ)) (full : Bool) → (full ≡ false → length rest ≡ 0)
      → Along s room b long i t c u → Goes rest i full c u t
  goes_none rest i t c u full h a =
      let n = a.next in
      let z : t.next - i ≡ 0 = omega arith in
      record {
        onward = λ e k. absurd (omega (arith, h e));
        from = omega arith;
        upto = omega arith;
        along = rw z (subst (λ (j : ℕ). Along s room b long j t c u) (sym n) a);
      }

  goes_by : (x : ℕ) (rest : List ℕ) (i : ℕ) (t : Stand) (c : SessionAt) (u : Gathered (List ℕ)) (full : Bool) → serving.stops t ≡ full
      → Along s room b long i t c u
      → Goes rest (i + 1) (serving.stops (feed_byte serving t x)) (feed_byte carrying c x) (feed_byte (gathering in_full) u x)
      (feed_bytes serving rest (feed_byte serving t x))
      → Goes (x ∷ rest) i full c u (feed_bytes serving (x ∷ rest) t)
  goes_by x rest i t c u true e a g = rw e (goes_none (x ∷ rest) i t c u true (λ f. absurd (true≢false f)) a)
  goes_by x rest i t c u false e a g =
      let from = g.from in
      let upto = g.upto in
      let v : Stand = feed_bytes serving rest (feed_byte serving t x) in
      let z : v.next - i ≡ suc (v.next - (i + 1)) = omega arith in
      rw e (record { onward = λ _ _. omega arith; from = omega arith; upto = omega arith; along = rw z g.along })

  module _ (big : longest_line < room) where
    -- a byte x more, by whether it is 0A (v)
    along_by : (x i : ℕ) (t : Stand) (c : SessionAt) (u : Gathered (List ℕ)) (v : Bool) → ends_line x ≡ v → Along s room b long i t c u
        → Along s room b long (i + 1) (feed_byte serving t x) (feed_byte carrying c x) (feed_byte (gathering in_full) u x)
    along_by x i t c u true e a =
        let g = a.stands in
        let told : Told = told_of t.session.registers (line_held t.session.held) in
        let same : told ≡ told_of (registers_behind s u.lines) u.begun =
        rw (a.session, g.regs, g.held.front) (told_cut (registers_behind s u.lines) u.begun room big) in
        let size = reply_long told t.out t.filled a.within in
        rw e (record {
          stands = record {
            regs =
                ap (λ (y : SessionAt). (carrying.line_end y).registers) (sym a.session) ∙ ap (λ (y : Told). y.after) same
                ∙ sym (registers_append s u.lines (u.begun ∷ []));
            held = holds_none g.held;
            bytes =
                ap (λ (y : List ℕ). b ++ y) (reply_behind told t.out t.filled a.within)
                ∙ sym (append_assoc b (take t.filled t.out) (reply_line told))
                ∙ rw (g.bytes, same, replies_append s u.lines (u.begun ∷ []), append-nil);
          };
          session = ap carrying.line_end a.session;
          next = ap (λ (y : ℕ). y + 1) a.next;
          within = omega (arith, size);
          longer = omega (arith, size, a.longer);
        })
    along_by x i t c u false e a =
        let g = a.stands in
        rw e (record {
          stands = record { regs = g.regs; held = holds_more x g.held; bytes = g.bytes };
          session = ap (λ (y : SessionAt). carrying.line_byte y x) a.session;
          next = ap (λ (y : ℕ). y + 1) a.next;
          within = a.within;
          longer = a.longer;
        })

    fed_goes : (rest : List ℕ) (i : ℕ) (t : Stand) (c : SessionAt) (u : Gathered (List ℕ)) → Along s room b long i t c u
        → Goes rest i (serving.stops t) c u (feed_bytes serving rest t)
    fed_goes [] i t c u a = goes_none [] i t c u (serving.stops t) (λ _. refl) a
    fed_goes (x ∷ rest) i t c u a =
        goes_by x rest i t c u (serving.stops t) refl a
        (fed_goes rest (i + 1) (feed_byte serving t x) (feed_byte carrying c x) (feed_byte (gathering in_full) u x)
        (along_by x i t c u (ends_line x) refl a))

    call_goes : (p : List ℕ) (at : ℕ) (o : List ℕ) (c : SessionAt) (u : Gathered (List ℕ)) → long ≡ length o → Stands s room b c u
        → Goes (drop at p) at (ltb (length o - 0) reply_room) c u
        (served_of c.registers p at c.held.space c.held.count o)
    call_goes p at o c u l g =
        let m : min c.held.count (length c.held.space) ≡ c.held.count = omega (arith, holds_fits g.held, g.held.size) in
        fed_goes (drop at p) at _ c u
        (record { stands = rw append-nil g; session = rw m; next = refl; within = omega arith; longer = omega arith })

-- A call of `serve` on the piece p, from place `at`, with n bytes held in the space d: it went on in the piece, and took a part of it.
-- What is to be written stands in the output, and is the replies to the lines that end in the part; the registers and what is held
-- are those of a session that took the part.
pub record Call (s : Registers) (p : List ℕ) (at : ℕ) (d : List ℕ) (n : ℕ) (r : Served) (line out part : List ℕ) : Type 0 where
  pub onward : at < r.next
  pub upto : r.next ≤ length p
  pub within : r.filled ≤ length out
  pub bytes : take r.filled out ≡ replies_to s (ended_in (take n d) part)
  pub session : session_with r.registers line r.held ≡ feed_bytes carrying part (session_with s d n)
  pub fits : r.held ≤ length d

module _ (s : Registers) (p : List ℕ) (at : ℕ) (d : List ℕ) (n : ℕ) (o : List ℕ) where
  pub served : (r : Served) (line out : List ℕ) → n ≤ length d → longest_line < length d → at < length p → reply_room ≤ length o
      → ServedAs (served_of s p at d n o) r line out → Call s p at d n r line out (take (r.next - at) (drop at p))
  served r line out h big k room e =
      let held : Holding = record { space = d; count = n } in
      let g =
      call_goes s (length d) [] (length o) big p at o (session_with s d n) (no_lines (take n d)) refl
      (record { regs = refl; held = holds_part held h; bytes = refl }) in
      let a = g.along in
      rw (e.returned, e.line_left, e.out_left) (record {
        onward = g.onward (le-ltb (length o - 0) reply_room (omega arith)) (simp length-drop (omega arith));
        upto = omega (arith, g.upto, length-drop at p);
        within = a.within;
        bytes = a.stands.bytes;
        session = a.session;
        fits = rw a.session (holds_fits a.stands.held);
      })

-- ── a call of `finish` ──

last_length : (s : Registers) (l : List ℕ) (room : ℕ) → (answer_at_end s l room).reply.length ≡ length (reply_at_end s l room)
last_length s [] room = refl
last_length s (x ∷ l) room = refl

-- what it writes is the reply to what is held, if anything is
last_answered : (s : Registers) (l : List ℕ) (room : ℕ) → reply_room ≤ room → reply_at_end s l room ≡ replies_to s (last_line l)
last_answered s [] room r = refl
last_answered s (x ∷ l) room r = ap reply_line (with_room s (x ∷ l) room r) ∙ sym (append-nil (reply_line (told_of s (x ∷ l))))

module _ (s : Registers) (l out : List ℕ) (a : Answered) (out' : List ℕ) (e : FinishedAs s l out a out') where
  abbrev reply : List ℕ
  reply = reply_at_end s l (length out)

  finish_length : a.reply.length ≡ length reply
  finish_length = ap (λ (x : Answered). x.reply.length) e.returned ∙ last_length s l (length out)

  pub finish_within : a.reply.length ≤ length out'
  finish_within =
      let n : length out' ≡ length reply + (length out - length reply) = ap length e.left ∙ simp (length-append, length-drop) in
      omega (arith, finish_length)

  pub finish_bytes : reply_room ≤ length out → take a.reply.length out' ≡ replies_to s (last_line l)
  finish_bytes r =
      rw e.left (take_at reply (drop (length reply) out) a.reply.length (sym finish_length)) ∙ last_answered s l (length out) r

-- ── a piece ──

-- a part of a piece, and the rest behind it
part_rest : (p : List ℕ) (at next : ℕ) → at ≤ next → take (next - at) (drop at p) ++ drop next p ≡ drop at p
part_rest p at next h =
    let e : at + (next - at) ≡ next = omega arith in
    let f : drop next p ≡ drop (next - at) (drop at p) = ap (λ (k : ℕ). drop k p) (sym e) ∙ sym (drop-drop (next - at) at p) in
    rw f (take-append-drop (next - at) (drop at p))

-- The program from registers s stands at t, and u is its input as lines; there is room for a reply.
abbrev Ran : (s : Registers) (room : ℕ) → Progress → Gathered (List ℕ) → Type 0
Ran s room t u = Stands s room t.wrote t.session u × (reply_room ≤ length t.out)

module _ (s : Registers) (room : ℕ) (big : longest_line < room) where
  abbrev lines_in_lem : List ℕ → Gathered (List ℕ) → Gathered (List ℕ)
  lines_in_lem p u = feed_bytes (gathering in_full) p u

  ran_by : (k : ℕ) (p : List ℕ) (at : ℕ) (t : Progress) (u : Gathered (List ℕ)) (v : Bool) → ltb at (length p) ≡ v
      → length p - at ≤ suc k → Ran s room t u
      → ((i : ℕ) (t : Progress) (u : Gathered (List ℕ)) → length p - i ≤ k → Ran s room t u
      → Ran s room (piece_from k p i t) (lines_in_lem (drop i p) u))
      → Ran s room (piece_from (suc k) p at t) (lines_in_lem (drop at p) u)
  ran_by k p at t u false e l h ih = rw (e, drop_of_length-le p (ltb-false at (length p) e)) h
  ran_by k p at t u true e l h ih =
      let v : Stand = served_of t.session.registers p at t.session.held.space t.session.held.count t.out in
      let g = call_goes s room t.wrote (length t.out) big p at t.out t.session u refl h.0 in
      let some = ltb-true at (length p) e in
      let on = g.onward (le-ltb (length t.out - 0) reply_room (omega (arith, h.1))) (simp length-drop (omega arith)) in
      let a = g.along in
      let part = take (v.next - at) (drop at p) in
      let stands = subst (λ (x : SessionAt). Stands s room (wrote_on t v).wrote x (lines_in_lem part u)) (sym a.session) a.stands in
      let same : lines_in_lem (drop v.next p) (lines_in_lem part u) ≡ lines_in_lem (drop at p) u =
      sym (feed_append (gathering in_full) (λ _. refl) part (drop v.next p) u)
      ∙ ap (λ (x : List ℕ). lines_in_lem x u) (part_rest p at v.next g.from) in
      rw e (subst (λ (x : Gathered (List ℕ)). Ran s room (piece_from k p v.next (wrote_on t v)) x) same
      (ih v.next (wrote_on t v) (lines_in_lem part u) (omega arith) (stands, omega (arith, h.1, a.longer))))

  ran : (k : ℕ) (p : List ℕ) (at : ℕ) (t : Progress) (u : Gathered (List ℕ)) → length p - at ≤ k → Ran s room t u
      → Ran s room (piece_from k p at t) (lines_in_lem (drop at p) u)
  ran zero p at t u l h = rw (drop_of_length-le p {i = at} (omega arith)) h
  ran (suc k) p at t u l h = ran_by k p at t u (ltb at (length p)) refl l h (ran k p)

  -- ── all pieces ──

  all_pieces : (ps : List (List ℕ)) (t : Progress) (u : Gathered (List ℕ)) → Ran s room t u
      → wrote_for ps t ≡ replies_to s ((lines_in_lem (flatten ps) u).lines ++ last_line (lines_in_lem (flatten ps) u).begun)
  unfolding flatten
  all_pieces [] t u h =
      let g = h.0 in
      let reply = reply_at_end t.session.registers (line_held t.session.held) (length t.out) in
      let last : take (length reply) (reply ++ drop (length reply) t.out)
      ≡ replies_to (registers_behind s u.lines) (last_line u.begun) =
      take_at reply (drop (length reply) t.out) (length reply) refl
      ∙ last_answered t.session.registers (line_held t.session.held) (length t.out) h.1
      ∙ rw (g.regs, g.held.front) (last_cut (registers_behind s u.lines) u.begun room big) in
      rw (last, g.bytes) (sym (replies_append s u.lines (last_line u.begun)))
  all_pieces (p ∷ ps) t u h =
      all_pieces ps (piece_of p t) (lines_in_lem p u) (ran (length p) p 0 t u (omega arith) h)
      ∙ ap (λ (x : Gathered (List ℕ)). replies_to s (x.lines ++ last_line x.begun))
      (sym (feed_append (gathering in_full) (λ _. refl) p (flatten ps) u))

pub whole_input : WholeInput
whole_input ps s d o h r =
    all_pieces s (length d) h ps _ (no_lines [])
    (record { regs = refl; held = holds_part (record { space = d; count = 0 }) (omega arith); bytes = refl }, r)

-- ── one outcome ──

pub one_serving : OneServing
one_serving t r r' line line' out out' p q =
    (p.returned ∙ sym q.returned, p.line_left ∙ sym q.line_left, p.out_left ∙ sym q.out_left)

pub one_finish : OneFinish
one_finish s l out a a' o o' p q = (p.returned ∙ sym q.returned, p.left ∙ sym q.left)

pub finish_without_room : FinishWithoutRoom
finish_without_room s b l out a o h p =
    let e = without_room s (b ∷ l) (length out) h in
    (p.returned ∙ rw e refl, p.left ∙ rw e refl)
