-- A turn of the loop of `serve`, a reply behind others, and the end of the input.
use mathlib.Core.Path.{◌≡◌, refl, sym, ap, ◌∙◌}
use mathlib.Core.Bool.{true, false}
use mathlib.Core.List.{List, [], ◌∷◌, ◌++◌, append-nil}
use Prim.Native.Nat.{ℕ, ◌+◌, ◌-◌, ◌≤◌, min}
use native.Mathlib.Omega.{arith}
use native.Mathlib.Decide.{dec_le}
use borrow.Author.Tests.{le-ltb}
use lib.ListN.{length, take, drop, length-append, length-take, length-drop, drop_of_length-le}
use lib.Seq.{take_all, take-length}
use Rattle.seqs.specs.Choose.{pick}
use Rattle.pieces.specs.Feeding.{feed_bytes}
use Rattle.pieces.specs.Cutting.{line_held, Sought, sought_in}
use Rattle.pieces.proofs.Laws.{at_place, sought_first}
use Rattle.sha256.specs.Hash.{sha256}
use Rattle.paper.specs.declared.Registers.{Registers}
use Rattle.paper.specs.Module.{answer_to, reply_line}
use Rattle.paper.specs.Refusals.{reply_room}
use Rattle.module.specs.declared.Answered.{Answered}
use Rattle.module.specs.Laws.{Promised}
use Rattle.module.proofs.Laws.{with_room}
use Rattle.session.specs.Replies.{told_of}
use Rattle.session.specs.Serving.{session_with, Stand, out_after, serving, ServedAs, RepliedAs, answer_at_end, FinishedAs}

-- ── a reply behind others ──

-- the part behind w bytes, given to the module's answer and put back
pub replied : (s : Registers) (l o : List ℕ) (w : ℕ) (a : Answered) (e : List ℕ)
    → Promised s l (take (length o - w) (drop w o)) a e
    → RepliedAs s l w o a (take w o ++ (e ++ drop (length o - w) (drop w o)))
replied s l o w a e p =
    let n : length (drop w o) ≡ length o - w = length-drop w o in
    let part : take (length o - w) (drop w o) ≡ drop w o = take_all (length o - w) (drop w o) (omega arith) in
    let none : drop (length o - w) (drop w o) ≡ [] = drop_of_length-le (drop w o) {i = length o - w} (omega arith) in
    let q : Promised s l (drop w o) a e = rw part at p in
    record {
      returned = rw (← n) q.returned;
      left = rw (none, append-nil e, ← n) (ap (λ (x : List ℕ). take w o ++ x) q.left);
    }

-- and it fits the output, whose length a call keeps
pub reply_fits : (s : Registers) (l o : List ℕ) (w : ℕ) (a : Answered) (e : List ℕ)
    → RepliedAs s l w o a e → w ≤ length o → length e ≡ length o → w + a.reply.length ≤ length o
reply_fits s l o w a e r h k =
    let reply = reply_line (answer_to sha256 s l (length o - w)) in
    let n : a.reply.length ≡ length reply = ap (λ (x : Answered). x.reply.length) r.returned in
    let size : length e ≡ min w (length o) + (length reply + (length o - w - length reply)) =
    rw r.left (simp (length-append, length-take, length-drop)) in
    omega arith

-- ── a piece ──

-- serving stands at place i, with n bytes of a line held in d
abbrev pub standing_at : Registers → ℕ → List ℕ → ℕ → List ℕ → ℕ → Stand
standing_at s i d n o w = record { session = session_with s d n; next = i; out = o; filled = w }

-- serving stopped: what is returned and left is told
pub told : (t : Stand) (s : Registers) (i : ℕ) (d : List ℕ) (n : ℕ) (o : List ℕ) (w : ℕ) → t ≡ standing_at s i d n o w
    → ServedAs t (record { registers = s; next = i; held = n; filled = w }) d o
told t s i d n o w e = rw e (record { returned = refl; line_left = refl; out_left = refl })

-- A turn of the loop: a call of `next_line` from place i searched the piece, with room for a reply.
module _ (t : Stand) (p d o : List ℕ) (s : Registers) (i n w : ℕ) (e : t ≡ feed_bytes serving (drop i p) (standing_at s i d n o w))
    (room : reply_room ≤ length o - w) where
  -- what the search comes to, as serving: behind a line's end, and where it goes on
  abbrev served_by : Sought → Stand
  served_by u =
      let a = told_of s (line_held u.held) in
      pick u.ended
      (standing_at a.after u.place u.held.space 0 (out_after a o w) (w + length (reply_line a)))
      (standing_at s u.place u.held.space u.held.count o w)

  turned : (u : Sought) → sought_in p i d n ≡ u → t ≡ feed_bytes serving (drop u.place p) (served_by u)
  turned u f =
      e ∙ sought_first serving served_by p (λ _ _. le-ltb (length o - w) reply_room room) (λ _ _. refl) (λ _ _ _. refl)
      (drop i p) i (record { space = d; count = n }) refl
      ∙ ap (λ (x : Sought). feed_bytes serving (drop x.place p) (served_by x)) f

  -- a line was cut out and answered
  pub turn_line : (next m : ℕ) (d' : List ℕ) (a : Answered) (o' : List ℕ) → sought_in p i d n ≡ at_place next d' m true
      → RepliedAs s (take m d') w o a o'
      → t ≡ feed_bytes serving (drop next p) (standing_at a.registers next d' 0 o' (w + a.reply.length))
  turn_line next m d' a o' f r =
      rw (r.returned, r.left, with_room s (take m d') (length o - w) room) (turned (at_place next d' m true) f)

  -- the piece was used up
  pub turn_more : (m : ℕ) (d' : List ℕ) → sought_in p i d n ≡ at_place (length p) d' m false
      → t ≡ feed_bytes serving (drop (length p) p) (standing_at s (length p) d' m o w)
  turn_more m d' f = turned (at_place (length p) d' m false) f

-- ── the end of the input ──

-- of what is held, the part that the space has
held_part : (n : ℕ) (d : List ℕ) → take (min n (length d)) d ≡ take n d
held_part n d = held_by (dec_le n (length d))
  where
    held_by : Dec (n ≤ length d) → take (min n (length d)) d ≡ take n d
    held_by (yes h) = let e : min n (length d) ≡ n = omega arith in rw e
    held_by (no h) =
        let e : min n (length d) ≡ length d = omega arith in
        rw (e, take-length d, take_all n d (omega arith))

-- nothing, and a line
finished_nothing : (s : Registers) (l o : List ℕ) (a : Answered) → length l ≡ 0 → a ≡ answer_at_end s [] (length o) → FinishedAs s l o a o
finished_nothing s [] o a h e = record { returned = e; left = refl }
finished_nothing s (b ∷ l) o a h e = absurd (omega arith)

finished_line : (s : Registers) (l o : List ℕ) (a : Answered) (o' : List ℕ) → (length l ≡ 0 → ⊥)
    → Promised s l o a o' → FinishedAs s l o a o'
finished_line s [] o a o' h p = absurd (h refl)
finished_line s (b ∷ l) o a o' h p = record { returned = p.returned; left = p.left }

module _ (s : Registers) (n : ℕ) (d o : List ℕ) where
  pub last_none : (a : Answered) → min n (length d) ≡ 0 → a ≡ answer_at_end s [] (length o) → FinishedAs s (take n d) o a o
  last_none a h e = finished_nothing s (take n d) o a (length-take n d ∙ h) e

  pub last_some : (a : Answered) (o' : List ℕ) (m : ℕ) → m ≡ min n (length d) → (m ≡ 0 → ⊥)
      → Promised s (take m d) o a o' → FinishedAs s (take n d) o a o'
  last_some a o' m e h p =
      let part : take m d ≡ take n d = ap (λ (k : ℕ). take k d) e ∙ held_part n d in
      let q : Promised s (take n d) o a o' = rw part at p in
      finished_line s (take n d) o a o' (λ i. h (e ∙ sym (length-take n d) ∙ i)) q
