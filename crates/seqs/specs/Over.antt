-- A list written over the front of a buffer, element by element.
-- A loop that fills a buffer keeps `buffer ≡ over i written buffer₀`: a turn is `over_next`, the end `over_all`.
use Rattle.std.specs.Prelude.{◌≡◌, refl, ◌⊎◌, ℕ, zero, suc, ◌+◌, ◌-◌, ◌<◌, ◌≤◌, leb, take, set}
use Rattle.std.proofs.Common.{sym, ◌∙◌, inl, inr, not-suc-le-zero, le_of_suc-le-suc, add-one, length-drop, take_all, get_or-append-add}
use Rattle.std.proofs.Math.Path.{ap}
use mathlib.Core.List.{List, [], ◌∷◌, ◌++◌, append_assoc}
use native.Mathlib.Omega.{arith}
use Rattle.std.proofs.Math.Decide.{dec_le}
use borrow.Author.Tests.{le-leb, lt-leb}
use Rattle.std.proofs.Math.ListN.{length, get_or, drop, length-append, length-take, get_or-append}
use Rattle.std.proofs.Math.Seq.{take_at, drop-append-add, drop-drop, get_or-take, get_or-drop}
use Rattle.seqs.specs.Choose.{pick}

module _ {ℓ} {A : Type ℓ} where
  -- the first n elements of l stand over those of the buffer d, and the rest of d is left
  abbrev pub over : ℕ → List A → List A → List A
  over n l d = take n l ++ drop n d

  over_suc : (n : ℕ) (l d : List A) (z : A) → n < length l → n < length d
      → set (over n l d) n (get_or l n z) ≡ over (suc n) l d
  over_suc n l [] z h k = absurd (not-suc-le-zero k)
  over_suc n [] (y ∷ d) z h k = absurd (not-suc-le-zero h)
  over_suc zero (x ∷ l) (y ∷ d) z h k = refl
  over_suc (suc n) (x ∷ l) (y ∷ d) z h k =
      ap (λ (t : List A). x ∷ t) (over_suc n l d z (le_of_suc-le-suc h) (le_of_suc-le-suc k))

  -- one turn: the buffer is e, and the value v goes to place n
  pub over_next : (n : ℕ) (l d e : List A) (v z : A) → e ≡ over n l d → v ≡ get_or l n z → n < length l → n < length d
      → set e n v ≡ over (n + 1) l d
  over_next n l d e v z he hv h k = rw (he, hv, add-one) (over_suc n l d z h k)

  -- after the last turn
  pub over_all : (n : ℕ) (l d : List A) → length l ≡ n → over n l d ≡ l ++ drop n d
  over_all n l d h = rw (take_all n l (omega arith))

  -- a buffer over whose front a list is to be written: it is, where it fits, and else nothing is
  unfoldable pub written : List A → List A → List A
  written l d = pick (leb (length l) (length d)) (l ++ drop (length l) d) d

  pub written_fits : (l d : List A) (n : ℕ) → length l ≡ n → n ≤ length d → written l d ≡ l ++ drop n d
  unfolding written
  written_fits l d n e h = rw (e, le-leb n (length d) h)

  pub written_not : (l d : List A) (n : ℕ) → length l ≡ n → length d < n → written l d ≡ d
  unfolding written
  written_not l d n e h = rw (e, lt-leb n (length d) h)

  -- ── at a place ──

  -- a buffer into which a list is to be put at a place: it is, where it fits, and else nothing is
  unfoldable pub put_at : List A → ℕ → List A → List A
  put_at d at s = pick (leb (at + length s) (length d)) ((take at d ++ s) ++ drop (at + length s) d) d

  pub put_not : (d : List A) (at : ℕ) (s : List A) → length d < at + length s → put_at d at s ≡ d
  unfolding put_at
  put_not d at s h = rw (lt-leb (at + length s) (length d) h)

  pub put_length : (d : List A) (at : ℕ) (s : List A) → length (put_at d at s) ≡ length d
  unfolding put_at
  put_length d at s =
      elim (dec_le (at + length s) (length d)) [
        | yes h ↦ rw (le-leb _ _ h) (simp (length-append, length-take, length-drop) (omega arith))
        | no n ↦ ap length (put_not d at s (omega arith))
      ]

  -- an element in the place, and one elsewhere
  past_first : (l r : List A) (n j : ℕ) (z : A) → length l ≡ n → get_or (l ++ r) (n + j) z ≡ get_or r j z
  past_first l r n j z e = ap (λ (k : ℕ). get_or (l ++ r) (k + j) z) (sym e) ∙ get_or-append-add l r j z

  pub put_there : (d : List A) (at : ℕ) (s : List A) (j : ℕ) (z : A) → at + length s ≤ length d → j < length s
      → get_or (put_at d at s) (at + j) z ≡ get_or s j z
  unfolding put_at
  put_there d at s j z room h =
      let t : length (take at d) ≡ at = simp length-take (omega arith) in
      rw (le-leb (at + length s) (length d) room, append_assoc (take at d) s (drop (at + length s) d))
      (past_first (take at d) (s ++ drop (at + length s) d) at j z t ∙ get_or-append s (drop (at + length s) d) z j h)

  pub put_elsewhere : (d : List A) (at : ℕ) (s : List A) (n j : ℕ) (z : A) → length s ≡ n → (j < at) ⊎ (at + n ≤ j)
      → get_or (put_at d at s) j z ≡ get_or d j z
  unfolding put_at
  put_elsewhere d at s n j z e side =
      elim (dec_le (at + length s) (length d)) [
        | yes h ↦ rw (le-leb (at + length s) (length d) h) (by_side h side)
        | no m ↦ ap (λ (l : List A). get_or l j z) (put_not d at s (omega arith))
      ]
    where
      by_side : at + length s ≤ length d → (j < at) ⊎ (at + n ≤ j)
          → get_or ((take at d ++ s) ++ drop (at + length s) d) j z ≡ get_or d j z
      by_side room (inl h) =
          let t : length (take at d) ≡ at = simp length-take (omega arith) in
          get_or-append (take at d ++ s) _ z j (simp length-append (omega (arith, t)))
          ∙ get_or-append (take at d) s z j (omega arith) ∙ get_or-take at d j z h
      by_side room (inr h) =
          let m = at + length s in
          let t : length (take at d ++ s) ≡ m = simp (length-append, length-take) (omega arith) in
          let i : m + (j - m) ≡ j = omega (arith, e) in
          ap (λ (k : ℕ). get_or ((take at d ++ s) ++ drop m d) k z) (sym i)
          ∙ past_first (take at d ++ s) (drop m d) m (j - m) z t ∙ get_or-drop m d (j - m) z ∙ ap (λ (k : ℕ). get_or d k z) i

  -- a run of puts, each where the last one ended: p stands over the front of d
  pub record Front (d e p : List A) (at : ℕ) : Type ℓ where
    pub here : e ≡ p ++ drop at d
    pub long : length p ≡ at

  pub front_next : {d e p : List A} {at : ℕ} (e' s : List A) (k m : ℕ) → Front d e p at → e' ≡ put_at e at s → length s ≡ k → at + k ≡ m
      → m ≤ length d → Front d e' (p ++ s) m
  unfolding put_at
  front_next {d} {e} {p} {at} e' s k m f h n j room =
      let size : length e ≡ length d = rw f.here (simp (length-append, length-drop) (omega (arith, f.long))) in
      let t = le-leb (at + length s) (length e) (omega arith) in
      let j' : at + length s ≡ m = omega arith in
      let front = ap (take at) f.here ∙ take_at p (drop at d) at f.long in
      let back : drop (at + length s) (p ++ drop at d) ≡ drop m d =
      ap (λ (i : ℕ). drop (i + length s) (p ++ drop at d)) (sym f.long) ∙ drop-append-add p (drop at d) (length s)
      ∙ drop-drop (length s) at d ∙ ap (λ (i : ℕ). drop i d) j' in
      record {
        here = h ∙ rw t ((λ i. (front i ++ s) ++ drop (at + length s) (f.here i)) ∙ ap (λ (l : List A). (p ++ s) ++ l) back);
        long = simp length-append (omega (arith, f.long));
      }
