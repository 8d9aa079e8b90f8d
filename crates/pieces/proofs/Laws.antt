-- What is fed to a taker at a place of a piece; what one search for a line tells of any taker of the same bytes; and that what is
-- found lies within the piece and the space.
use mathlib.Core.Path.{◌≡◌, refl, sym, ap, subst, ◌∙◌}
use mathlib.Core.Bool.{Bool, true, false, true≢false}
use mathlib.Core.List.{List, [], ◌∷◌, ◌++◌}
use Prim.Native.Nat.{ℕ, suc, ◌+◌, ◌<◌, ◌≤◌}
use native.Mathlib.Numerals.{add-one}
use native.Mathlib.Omega.{arith}
use borrow.Author.Tests.{ltb-true}
use lib.Dec.{ltb}
use lib.ListN.{length, get_or, drop, length-set, drop_of_length-le, length-drop}
use lib.Seq.{drop-cons, drop-drop}
use Rattle.seqs.specs.Choose.{pick}
use Rattle.pieces.specs.declared.Cut.{Cut}
use Rattle.pieces.specs.declared.Cut.TheVariants.{Line, More}
use Rattle.pieces.specs.Feeding.{Taker, ends_line, feed_byte, feed_bytes}
use Rattle.pieces.specs.Cutting.{Holding, one_more_held, Sought, seeking, sought_in, cut_of}

-- ── any taker ──

-- a search at place i, with n bytes held in d, that found a line's end or did not; and one that goes on
abbrev pub at_place : ℕ → List ℕ → ℕ → Bool → Sought
at_place i d n w = record { place = i; held = record { space = d; count = n }; ended = w }

abbrev pub going : ℕ → Holding → Sought
going i h = record { place = i; held = h; ended = false }

-- behind one more byte of a piece p
pub drop_next : (p s : List ℕ) (b i : ℕ) → drop i p ≡ b ∷ s → drop (i + 1) p ≡ s
drop_next p s b i e = sym (drop-drop 1 i p) ∙ ap (λ (l : List ℕ). drop 1 l) e

module _ {S : Type 0} (k : Taker S) where
  -- one that stops takes nothing
  pub stays : (s : List ℕ) (t : S) → k.stops t ≡ true → feed_bytes k s t ≡ t
  stays [] t h = refl
  stays (b ∷ s) t h = rw h

  -- one more byte of a piece, and its end
  pub feed_next : (p : List ℕ) (i : ℕ) (t : S) → i < length p → k.stops t ≡ false
      → feed_bytes k (drop i p) t ≡ feed_bytes k (drop (i + 1) p) (feed_byte k t (get_or p i 0))
  feed_next p i t h e = rw (drop-cons p i 0 h, e, add-one)

  pub feed_end : (p : List ℕ) (i : ℕ) (t : S) → length p ≤ i → feed_bytes k (drop i p) t ≡ t
  feed_end p i t h = rw (drop_of_length-le p h)

  -- bytes behind others, where it takes them all
  pub feed_append : ((t : S) → k.stops t ≡ false) → (p q : List ℕ) (t : S)
      → feed_bytes k (p ++ q) t ≡ feed_bytes k q (feed_bytes k p t)
  feed_append on [] q t = refl
  feed_append on (b ∷ p) q t = rw (on t) (feed_append on p q (feed_byte k t b))

-- ── a search ──

-- What a search comes to stands for the taker, by `by`: where it goes on, and behind a line's end. Then behind the bytes searched
-- the taker comes to what stands for the search, and is fed the rest of the piece.
module _ {S : Type 0} (k : Taker S) (by : Sought → S) (p : List ℕ)
    (on : (i : ℕ) (h : Holding) → k.stops (by (going i h)) ≡ false)
    (at-end : (i : ℕ) (h : Holding) → k.line_end (by (going i h)) ≡ by (seeking.line_end (going i h)))
    (at_byte : (i : ℕ) (h : Holding) (b : ℕ) → k.line_byte (by (going i h)) b ≡ by (seeking.line_byte (going i h) b)) where
  abbrev behind : List ℕ → ℕ → Holding → S
  behind s i h = feed_bytes k (drop (feed_bytes seeking s (going i h)).place p) (by (feed_bytes seeking s (going i h)))

  first_by : (s : List ℕ) (b i : ℕ) (h : Holding) (u : Bool) → ends_line b ≡ u → drop (i + 1) p ≡ s
      → ((g : Holding) → feed_bytes k s (by (going (i + 1) g)) ≡ behind s (i + 1) g)
      → feed_bytes k (b ∷ s) (by (going i h)) ≡ behind (b ∷ s) i h
  first_by s b i h true eu e ih =
      rw (on i h, eu, at-end i h, stays seeking s (seeking.line_end (going i h)) refl, e)
  first_by s b i h false eu e ih = rw (on i h, eu, at_byte i h b) (ih (one_more_held h b))

  pub sought_first : (s : List ℕ) (i : ℕ) (h : Holding) → drop i p ≡ s
      → feed_bytes k s (by (going i h)) ≡ behind s i h
  sought_first [] i h e = rw e
  sought_first (b ∷ s) i h e =
      let f = drop_next p s b i e in
      first_by s b i h (ends_line b) refl f (λ g. sought_first s (i + 1) g f)

-- ── where a search ends ──

-- what is held fits a space of so many bytes
abbrev pub InRoom : ℕ → Holding → Type 0
InRoom room h = (length h.space ≡ room) × (h.count ≤ room)

fits_by : (room b : ℕ) (h : Holding) (v : Bool) → ltb h.count (length h.space) ≡ v → InRoom room h → InRoom room (one_more_held h b)
fits_by room b h true e f = rw e (simp length-set f.0, omega (arith, ltb-true))
fits_by room b h false e f = rw e f

fits_more : (room b : ℕ) (h : Holding) → InRoom room h → InRoom room (one_more_held h b)
fits_more room b h f = fits_by room b h (ltb h.count (length h.space)) refl f

-- A search from place i to the end of its bytes came to u: behind i where it found a line's end, else at the end; what is held fits.
record Lies (room i end : ℕ) (u : Sought) : Type 0 where
  onward : u.ended ≡ true → i < u.place
  upto : u.place ≤ end
  used_up : u.ended ≡ false → u.place ≡ end
  fits : InRoom room u.held

lies_by : (s : List ℕ) (b room i : ℕ) (h : Holding) (u : Bool) → ends_line b ≡ u → InRoom room h
    → ((g : Holding) → InRoom room g → Lies room (i + 1) (i + 1 + length s) (feed_bytes seeking s (going (i + 1) g)))
    → Lies room i (i + suc (length s)) (feed_bytes seeking (b ∷ s) (going i h))
lies_by s b room i h true eu f ih =
    rw (eu, stays seeking s (seeking.line_end (going i h)) refl)
    (record { onward = λ _. omega arith; upto = omega arith; used_up = λ e. absurd (true≢false e); fits = f })
lies_by s b room i h false eu f ih =
    let g = ih (one_more_held h b) (fits_more room b h f) in
    rw eu (record {
      onward = λ e. omega (arith, g.onward e);
      upto = omega (arith, g.upto);
      used_up = λ e. omega (arith, g.used_up e);
      fits = g.fits;
    })

search_lies : (s : List ℕ) (room i : ℕ) (h : Holding) → InRoom room h → Lies room i (i + length s) (feed_bytes seeking s (going i h))
search_lies [] room i h f =
    record { onward = λ e. absurd (true≢false (sym e)); upto = omega arith; used_up = λ _. omega arith; fits = f }
search_lies (b ∷ s) room i h f = lies_by s b room i h (ends_line b) refl f (λ g. search_lies s room (i + 1) g)

-- ── what a call of `next_line` tells ──

-- The call at place `at` of the piece p, with n bytes held in the space d, left d' there: by what it returned, where its search ended.
abbrev pub Tells : (p d d' : List ℕ) (at n : ℕ) → Cut → Type 0
Tells p d d' at n (Line next m) = (sought_in p at d n ≡ at_place next d' m true) × (at < next) × (next ≤ length p) × (m ≤ length d)
Tells p d d' at n (More m) = (sought_in p at d n ≡ at_place (length p) d' m false) × (m ≤ length d)

module _ (p d d' : List ℕ) (at n : ℕ) (left : d' ≡ (sought_in p at d n).held.space) (h : at ≤ length p) (k : n ≤ length d) where
  abbrev came : Sought
  came = sought_in p at d n

  came_lies : Lies (length d) at (length p) came
  came_lies =
      let end : at + length (drop at p) ≡ length p = simp length-drop (omega arith) in
      rw (← end) (search_lies (drop at p) (length d) at (record { space = d; count = n }) (refl, k))

  came_is : (w : Bool) → came.ended ≡ w → came ≡ at_place came.place d' came.held.count w
  came_is w e = rw left (ap (at_place came.place came.held.space came.held.count) e)

  tells_by : (w : Bool) → came.ended ≡ w → Tells p d d' at n (pick w (Line came.place came.held.count) (More came.held.count))
  tells_by true e = (came_is true e, came_lies.onward e, came_lies.upto, came_lies.fits.1)
  tells_by false e = (came_is false e ∙ rw (came_lies.used_up e), came_lies.fits.1)

  pub call_tells : (r : Cut) → r ≡ cut_of came → (s : Cut) → r ≡ s → Tells p d d' at n s
  call_tells r told s e = subst (Tells p d d' at n) (sym told ∙ e) (tells_by came.ended refl)
