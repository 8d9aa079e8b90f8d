-- The lines of a text, as 0A ends them, are those of one length that stand one behind the other, up to the first that cannot be read.
use mathlib.Core.Path.{◌≡◌, refl, sym, ap, ◌∙◌}
use mathlib.Core.Bool.{Bool, true, false, true≢false}
use mathlib.Core.List.{List, [], ◌∷◌, ◌++◌, append-nil, append_assoc}
use Rattle.std.specs.Prelude.{Option, Some, None, Ok, Err, is_some}
use Prim.Native.Nat.{ℕ, ◌+◌, ◌-◌, ◌<◌, ◌≤◌}
use native.Mathlib.Nat.{not-suc-le-zero}
use native.Mathlib.Omega.{arith}
use borrow.Author.Tests.{ne_eqb, eqb-true, le-leb, lt-leb, leb-true}
use lib.Dec.{eqb, leb}
use lib.ListN.{length, get_or, take, drop, length-append, length-drop, take-append-drop, drop_of_length-le}
use lib.Seq.{take_at, take_all, get_or_at, drop-cons, drop-drop}
use Rattle.seqs.specs.Choose.{pick, both, both_true, Every}
use Rattle.hexadecimal.specs.Hex.{is_digit, all_digits, bytes_of}
use Rattle.hexadecimal.proofs.Laws.{digit_range}
use Rattle.pieces.specs.Feeding.{ends_line, feed_bytes}
use Rattle.pieces.specs.Whole.{Gathered, gathering, gathered_in, in_full}
use Rattle.pieces.proofs.Laws.{feed_append}
use Rattle.rows.specs.declared.Row.{Row}
use Rattle.store.specs.Lines.{row_in, may_stand, line_read}
use Rattle.store.specs.Texts.{TextRead, line_then, lines_read, text_read, lines_in, front_line}

-- ── lines gathered ──

-- no byte ends a line
abbrev pub NoEnd : List ℕ → Type 0
NoEnd = Every (λ b. ends_line b ≡ false)

abbrev gathered : List (List ℕ) → List ℕ → Gathered (List ℕ)
gathered ls h = record { lines = ls; begun = h }

held_all : (l : List ℕ) → NoEnd l → (ls : List (List ℕ)) (h : List ℕ)
    → feed_bytes (gathering in_full) l (gathered ls h) ≡ gathered ls (h ++ l)
held_all [] n ls h = ap (gathered ls) (sym (append-nil h))
held_all (b ∷ l) n ls h = rw n.0 (held_all l n.1 ls (h ++ (b ∷ [])) ∙ ap (gathered ls) (append_assoc h (b ∷ []) l))

-- lines that ended before stay before
lines_behind : (s : List ℕ) (ls : List (List ℕ)) (h : List ℕ)
    → feed_bytes (gathering in_full) s (gathered ls h) ≡ gathered (ls ++ (gathered_in in_full s h).lines) (gathered_in in_full s h).begun
lines_behind [] ls h = ap (λ (x : List (List ℕ)). gathered x h) (sym (append-nil ls))
lines_behind (b ∷ s) ls h = by_test (ends_line b) refl (lines_behind s)
  where
    by_test : (v : Bool) → ends_line b ≡ v
        → ((ls : List (List ℕ)) (h : List ℕ)
        → feed_bytes (gathering in_full) s (gathered ls h) ≡ gathered (ls ++ (gathered_in in_full s h).lines) (gathered_in in_full s h).begun)
        → feed_bytes (gathering in_full) (b ∷ s) (gathered ls h)
        ≡ gathered (ls ++ (gathered_in in_full (b ∷ s) h).lines) (gathered_in in_full (b ∷ s) h).begun
    by_test true e k =
        rw (e, k (h ∷ []) [], k (ls ++ (h ∷ [])) [], append_assoc ls (h ∷ []) (gathered_in in_full s []).lines)
    by_test false e k = rw e (k ls (h ++ (b ∷ [])))

-- a text whose first line is l
pub first_line : (l s : List ℕ) → NoEnd l → text_read (l ++ (0x0a ∷ s)) ≡ line_then (line_read l) (text_read s)
unfolding text_read
first_line l s n =
    let g : gathered_in in_full (l ++ (0x0a ∷ s)) [] ≡ gathered (l ∷ (gathered_in in_full s []).lines) (gathered_in in_full s []).begun =
    feed_append (gathering in_full) (λ _. refl) l (0x0a ∷ s) (gathered [] [])
    ∙ ap (feed_bytes (gathering in_full) (0x0a ∷ s)) (held_all l n [] []) ∙ lines_behind s (l ∷ []) [] in
    ap (λ (t : Gathered (List ℕ)). lines_read t.lines t.begun) g

-- and one without 0A
pub no_line : (b : ℕ) (l : List ℕ) → NoEnd (b ∷ l) → text_read (b ∷ l) ≡ record { rows = []; whole = false }
unfolding text_read
no_line b l n = ap (λ (t : Gathered (List ℕ)). lines_read t.lines t.begun) (held_all (b ∷ l) n [] [])

-- ── the first 0A of a text ──

data Split (t : List ℕ) : Type 0 where
  unended : NoEnd t → Split t
  ended : (l s : List ℕ) → t ≡ l ++ (0x0a ∷ s) → NoEnd l → Split t

split : (t : List ℕ) → Split t
split [] = unended tt
split (b ∷ t) = by_test (ends_line b) refl (split t)
  where
    by_test : (v : Bool) → ends_line b ≡ v → Split t → Split (b ∷ t)
    by_test true e k = ended [] t (ap (λ (x : ℕ). x ∷ t) (eqb-true b 0x0a e)) tt
    by_test false e (unended n) = unended (e, n)
    by_test false e (ended l s h n) = ended (b ∷ l) s (ap (λ (x : List ℕ). b ∷ x) h) (e, n)

pub digits_no_end : (l : List ℕ) → all_digits l ≡ true → NoEnd l
digits_no_end [] h = tt
digits_no_end (c ∷ l) h =
    let p = both_true (is_digit c) (all_digits l) h in
    (ne_eqb c 0x0a (λ e. omega (arith, (digit_range c p.0).0)), digits_no_end l p.1)

-- ── a line that can be read ──

unread : (r : Row) → None ≡ Some r → ⊥
unread r e = true≢false (ap is_some (sym e))

pub record ReadAs (l : List ℕ) (r : Row) : Type 0 where
  pub long : length l ≡ 96
  pub digits : all_digits l ≡ true
  pub stands : may_stand (row_in (bytes_of l)) ≡ true
  pub is : r ≡ row_in (bytes_of l)

pub read_as : (l : List ℕ) (r : Row) → line_read l ≡ Some r → ReadAs l r
unfolding line_read
read_as l r h = by_test (both (eqb (length l) 96) (both (all_digits l) (may_stand (row_in (bytes_of l))))) refl h
  where
    by_test : (v : Bool) → both (eqb (length l) 96) (both (all_digits l) (may_stand (row_in (bytes_of l)))) ≡ v
        → pick v (Some (row_in (bytes_of l))) None ≡ Some r → ReadAs l r
    by_test true e h =
        let p = both_true (eqb (length l) 96) _ e in
        let q = both_true (all_digits l) _ p.1 in
        record { long = eqb-true (length l) 96 p.0; digits = q.0; stands = q.1; is = cc }
    by_test false e h = absurd (unread r h)

-- at the front of a text
pub record Fronted (t : List ℕ) (r : Row) : Type 0 where
  pub room : 97 ≤ length t
  pub parts : t ≡ take 96 t ++ (0x0a ∷ drop 97 t)
  pub read : line_read (take 96 t) ≡ Some r

pub fronted : (t : List ℕ) (r : Row) → front_line t ≡ Some r → Fronted t r
unfolding front_line
fronted t r h = by_tests (leb 97 (length t)) (eqb (get_or t 96 0) 0x0a) refl refl h
  where
    by_tests : (u v : Bool) → leb 97 (length t) ≡ u → eqb (get_or t 96 0) 0x0a ≡ v
        → pick u (pick v (line_read (take 96 t)) None) None ≡ Some r → Fronted t r
    by_tests true true e f h =
        let room : 97 ≤ length t = omega (arith, leb-true) in
        record {
          room = room;
          parts =
              sym (take-append-drop 96 t)
              ∙ ap (λ (x : List ℕ). take 96 t ++ x)
              (drop-cons t 96 0 room ∙ ap (λ (b : ℕ). b ∷ drop 97 t) (eqb-true (get_or t 96 0) 0x0a f));
          read = h;
        }
    by_tests true false e f h = absurd (unread r h)
    by_tests false v e f h = absurd (unread r h)

-- ── a text, line by line ──

pub text_leaf : (t : List ℕ) (r : Row) → front_line t ≡ Some r → text_read t ≡ line_then (Some r) (text_read (drop 97 t))
text_leaf t r h =
    let f = fronted t r h in
    ap text_read f.parts
    ∙ first_line (take 96 t) (drop 97 t) (digits_no_end (take 96 t) (read_as (take 96 t) r f.read).digits)
    ∙ ap (λ (x : Option Row). line_then x (text_read (drop 97 t))) f.read

front_of : (l s : List ℕ) → length l ≡ 96 → front_line (l ++ (0x0a ∷ s)) ≡ line_read l
unfolding front_line
front_of l s n =
    let room : 97 ≤ length (l ++ (0x0a ∷ s)) = simp length-append (omega arith) in
    rw (
      le-leb 97 (length (l ++ (0x0a ∷ s))) room,
      get_or_at l 0x0a s 0 96 n,
      take_at l (0x0a ∷ s) 96 n,
    )

pub text_stops : (t : List ℕ) → 0 < length t → front_line t ≡ None → text_read t ≡ record { rows = []; whole = false }
text_stops [] some h = absurd (not-suc-le-zero some)
text_stops (b ∷ t) some h = by_split (split (b ∷ t))
  where
    by_line : (l s : List ℕ) → b ∷ t ≡ l ++ (0x0a ∷ s) → (x : Option Row) → line_read l ≡ x
        → line_then x (text_read s) ≡ record { rows = []; whole = false }
    by_line l s e None k = refl
    by_line l s e (Some r) k =
        let f : front_line (b ∷ t) ≡ Some r = ap front_line e ∙ front_of l s (read_as l r k).long ∙ k in
        absurd (unread r (sym h ∙ f))

    by_split : Split (b ∷ t) → text_read (b ∷ t) ≡ record { rows = []; whole = false }
    by_split (unended n) = no_line b t n
    by_split (ended l s e n) = ap text_read e ∙ first_line l s n ∙ by_line l s e (line_read l) refl

-- ── the front of a text from a place on, as the code looks at it ──

module _ (t : List ℕ) (at : ℕ) where
  pub front_short : length t < at + 97 → is_some (front_line (drop at t)) ≡ false
  unfolding front_line
  front_short h = rw (lt-leb 97 (length (drop at t)) (simp length-drop (omega arith)))

-- what stands from a place on is all of it
pub rest_all : (t : List ℕ) (at : ℕ) → take (length t - at) (drop at t) ≡ drop at t
rest_all t at = take_all (length t - at) (drop at t) (simp length-drop (omega arith))

pub front_from : (t : List ℕ) (at : ℕ) → is_some (front_line (take (length t - at) (drop at t))) ≡ is_some (front_line (drop at t))
front_from t at = ap (λ (l : List ℕ). is_some (front_line l)) (rest_all t at)

is_some_lem : (l : Option Row) → is_some l ≡ true → (r : Row) × (l ≡ Some r)
is_some_lem (Some r) h = (r, refl)
is_some_lem None h = absurd (true≢false (sym h))

is_none : (l : Option Row) → is_some l ≡ false → l ≡ None
is_none (Some r) h = absurd (true≢false h)
is_none None h = refl

-- n lines were read up to a place: what is behind it decides
pub record Passed (t : List ℕ) (at n : ℕ) : Type 0 where
  pub so_many : length (text_read t).rows ≡ n + length (text_read (drop at t)).rows
  pub so_far : (text_read t).whole ≡ (text_read (drop at t)).whole

pub passed_none : (t : List ℕ) → Passed t 0 0
passed_none t = record { so_many = omega arith; so_far = refl }

pub passed_on : (t : List ℕ) (at n : ℕ) → Passed t at n → is_some (front_line (drop at t)) ≡ true → Passed t (at + 97) (n + 1) × (at + 97 ≤ length t)
passed_on t at n p h =
    let l = is_some_lem (front_line (drop at t)) h in
    let e = text_leaf (drop at t) l.0 l.1 in
    let d : drop 97 (drop at t) ≡ drop (at + 97) t = drop-drop 97 at t in
    let room = (fronted (drop at t) l.0 l.1).room in
    let rows = ap (λ (x : TextRead). length x.rows) e in
    let behind = ap (λ (x : List ℕ). length (text_read x).rows) d in (
      record {
        so_many = omega (arith, p.so_many, rows, behind);
        so_far = p.so_far ∙ ap (λ (x : TextRead). x.whole) e ∙ ap (λ (x : List ℕ). (text_read x).whole) d;
      },
      omega (arith, room, length-drop at t),
    )

pub stopped_at : (t : List ℕ) (at n : ℕ) → at < length t → Passed t at n → is_some (front_line (drop at t)) ≡ false → lines_in t ≡ Err n
unfolding lines_in
stopped_at t at n room p h =
    let e = text_stops (drop at t) (simp length-drop (omega arith)) (is_none (front_line (drop at t)) h) in
    let rows : length (text_read t).rows ≡ n = p.so_many ∙ rw e (omega arith) in
    rw (p.so_far ∙ ap (λ (x : TextRead). x.whole) e, rows)

pub all_passed_lem : (t : List ℕ) (at n : ℕ) → length t ≤ at → Passed t at n → lines_in t ≡ Ok n
unfolding lines_in text_read
all_passed_lem t at n room p =
    let e : text_read (drop at t) ≡ record { rows = []; whole = true } = ap text_read (drop_of_length-le t room) in
    let rows : length (text_read t).rows ≡ n = p.so_many ∙ rw e (omega arith) in
    rw (p.so_far ∙ ap (λ (x : TextRead). x.whole) e, rows)
