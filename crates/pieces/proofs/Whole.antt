-- However an input is cut into pieces, the lines found are those of the whole.
use mathlib.Core.Path.{◌≡◌, refl, sym, ap, ◌∙◌}
use mathlib.Core.Bool.{Bool, true, false}
use mathlib.Core.List.{List, [], ◌∷◌, ◌++◌, flatten, map-append}
use Prim.Native.Nat.{ℕ, suc, ◌<◌, ◌≤◌, min}
use native.Mathlib.Numerals.{add-one}
use native.Mathlib.Omega.{arith}
use borrow.Author.Tests.{ltb-true, ltb-false, lt-ltb}
use lib.Dec.{ltb}
use lib.ListN.{length, take, drop, set, length-append, length-take, length-set}
use lib.Seq.{take_all, take-nil, take-append-le, take-suc-set}
use Rattle.seqs.specs.Choose.{pick}
use Rattle.pieces.specs.Feeding.{ends_line, feed_byte, feed_bytes}
use Rattle.pieces.specs.Cutting.{Holding, line_held, nothing_held, one_more_held, Sought, sought_in}
use Rattle.pieces.specs.Whole.{Gathered, gathering, no_lines, gathered_in, in_full, in_space, last_line, input_lines, ended_in, cut_to, found_in, found_in_all}
use Rattle.pieces.proofs.Laws.{feed_append, sought_first}

-- ── what is held of a line ──

-- A space of `room` bytes holds the line l so far, or as much of it as has room.
pub record Holds (room : ℕ) (h : Holding) (l : List ℕ) : Type 0 where
  pub size : length h.space ≡ room
  pub front : line_held h ≡ take room l
  pub many : h.count ≡ length (take room l)

pub holds_none : {room : ℕ} {h : Holding} {l : List ℕ} → Holds room h l → Holds room (nothing_held h) []
holds_none {room = room} e = record { size = e.size; front = sym (take-nil room); many = rw (take-nil {A = ℕ} room) refl }

-- the first n bytes of a space, as a line
pub holds_part : (h : Holding) → h.count ≤ length h.space → Holds (length h.space) h (line_held h)
holds_part h k =
    let long : length (line_held h) ≡ h.count = length-take h.count h.space ∙ omega arith in
    let whole : take (length h.space) (line_held h) ≡ line_held h = take_all (length h.space) (line_held h) (omega arith) in
    record { size = refl; front = sym whole; many = rw whole (sym long) }

pub holds_fits : {room : ℕ} {h : Holding} {l : List ℕ} → Holds room h l → h.count ≤ room
holds_fits {room = room} {l = l} k = omega (arith, k.many, length-take room l)

-- one byte more of the line, where there is room for it (v) and where there is none
more_by : (room : ℕ) (h : Holding) (l : List ℕ) (b : ℕ) (v : Bool) → ltb h.count (length h.space) ≡ v
    → Holds room h l → Holds room (one_more_held h b) (l ++ (b ∷ []))
more_by room h l b true e k =
    let f = k.size in
    let less = ltb-true h.count (length h.space) e in
    let c : h.count ≡ min room (length l) = k.many ∙ length-take room l in
    let short : take room l ≡ l = take_all room l (omega arith) in
    let longer : take room (l ++ (b ∷ [])) ≡ l ++ (b ∷ []) = take_all room (l ++ (b ∷ [])) (simp length-append (omega arith)) in
    let g : take (suc h.count) (set h.space h.count b) ≡ l ++ (b ∷ []) =
    take-suc-set h.space h.count b (omega arith) ∙ rw (k.front, short) in
    rw e (record {
      size = simp length-set f;
      front = rw (add-one, longer) g;
      many = rw longer (simp length-append (omega arith));
    })
more_by room h l b false e k =
    let f = k.size in
    let full = ltb-false h.count (length h.space) e in
    let c : h.count ≡ min room (length l) = k.many ∙ length-take room l in
    let same : take room (l ++ (b ∷ [])) ≡ take room l = take-append-le room l (b ∷ []) (omega arith) in
    rw e (record { size = f; front = rw same k.front; many = rw same k.many })

pub holds_more : {room : ℕ} {h : Holding} {l : List ℕ} (b : ℕ) → Holds room h l → Holds room (one_more_held h b) (l ++ (b ∷ []))
holds_more {room = room} {h = h} {l = l} b k = more_by room h l b (ltb h.count (length h.space)) refl k

-- ── lines in a space beside lines in full ──

record Alike (room : ℕ) (t : Gathered Holding) (u : Gathered (List ℕ)) : Type 0 where
  lines : t.lines ≡ cut_to room u.lines
  begun : Holds room t.begun u.begun

alike_by : (room b : ℕ) (t : Gathered Holding) (u : Gathered (List ℕ)) (v : Bool) → ends_line b ≡ v → Alike room t u
    → Alike room (feed_byte (gathering in_space) t b) (feed_byte (gathering in_full) u b)
alike_by room b t u true e a =
    rw e (record { lines = rw (a.lines, a.begun.front, map-append (take room) u.lines); begun = holds_none a.begun })
alike_by room b t u false e a = rw e (record { lines = a.lines; begun = holds_more b a.begun })

fed_alike : (room : ℕ) (s : List ℕ) (t : Gathered Holding) (u : Gathered (List ℕ)) → Alike room t u
    → Alike room (feed_bytes (gathering in_space) s t) (feed_bytes (gathering in_full) s u)
fed_alike room [] t u a = a
fed_alike room (b ∷ s) t u a = fed_alike room s _ _ (alike_by room b t u (ends_line b) refl a)

-- what is found in a piece are the lines that end in it, each cut to the space's length
pub found_ended : (p : List ℕ) (h : Holding) → h.count ≤ length h.space
    → (gathered_in in_space p h).lines ≡ cut_to (length h.space) (ended_in (line_held h) p)
found_ended p h k = (fed_alike (length h.space) p _ _ (record { lines = refl; begun = holds_part h k })).lines

-- what a search adds to the lines before it
abbrev pub found_by : List (List ℕ) → Sought → Gathered Holding
found_by ls u =
    pick u.ended
    (record { lines = ls ++ (line_held u.held ∷ []); begun = nothing_held u.held })
    (record { lines = ls; begun = u.held })

-- The definition goes byte by byte; call by call it is what `next_line` gives: behind the bytes that a call searched there is the
-- line that it found, or none, and the rest of the piece.
pub found_first : (p : List ℕ) (at : ℕ) (d : List ℕ) (n : ℕ) (ls : List (List ℕ))
    → feed_bytes (gathering in_space) (drop at p) (record { lines = ls; begun = record { space = d; count = n } })
    ≡ feed_bytes (gathering in_space) (drop (sought_in p at d n).place p) (found_by ls (sought_in p at d n))
found_first p at d n ls =
    sought_first (gathering in_space) (found_by ls) p (λ _ _. refl) (λ _ _. refl) (λ _ _ _. refl) (drop at p) at _ refl

-- ── the law ──

-- all pieces, one after the other, are the whole input
all_pieces : (ps : List (List ℕ)) (t : Gathered Holding)
    → found_in ps t ≡ found_in [] (feed_bytes (gathering in_space) (flatten ps) t)
unfolding flatten
all_pieces [] t = refl
all_pieces (p ∷ ps) t =
    all_pieces ps (feed_bytes (gathering in_space) p t)
    ∙ ap (found_in []) (sym (feed_append (gathering in_space) (λ _. refl) p (flatten ps) t))

-- the end of the input: with room for a byte, something is held just if the last line isn't empty
last_held : (room : ℕ) (h : Holding) (l : List ℕ) → 0 < room → Holds room h l
    → pick (ltb 0 h.count) (line_held h ∷ []) [] ≡ cut_to room (last_line l)
last_held room h [] r k =
    let c : h.count ≡ 0 = k.many ∙ rw (take-nil {A = ℕ} room) refl in
    rw c
last_held room h (b ∷ l) r k =
    let c : h.count ≡ min room (suc (length l)) = k.many ∙ length-take room (b ∷ l) in
    rw (lt-ltb 0 h.count (omega arith), k.front)

-- The lines found are those of the whole input, each cut to the space's length and counted once.
-- That is enough for a line that is too long: in a space of one byte more than the longest good line a good line is
-- whole, and a longer one still has more bytes than the longest good line, so that its length tells it.
-- A space of no bytes is left out: nothing would ever be held in it, and a last line without 0A would not be seen.
pub cut_anyhow : (ps : List (List ℕ)) (d : List ℕ) → 0 < length d
    → found_in_all ps d ≡ cut_to (length d) (input_lines (flatten ps))
cut_anyhow ps d r =
    let n : Holding = record { space = d; count = 0 } in
    let a = fed_alike (length d) (flatten ps) (no_lines n) (no_lines []) (record { lines = refl; begun = holds_part n (omega arith) }) in
    let u : Gathered (List ℕ) = gathered_in in_full (flatten ps) [] in
    all_pieces ps (no_lines n)
    ∙ rw (a.lines, last_held (length d) _ u.begun r a.begun, map-append (take (length d)) u.lines)

-- Two ways of cutting the same input find the same lines.
pub cut_alike : (ps qs : List (List ℕ)) (d : List ℕ) → 0 < length d → flatten ps ≡ flatten qs
    → found_in_all ps d ≡ found_in_all qs d
cut_alike ps qs d r e = cut_anyhow ps d r ∙ rw e (sym (cut_anyhow qs d r))
