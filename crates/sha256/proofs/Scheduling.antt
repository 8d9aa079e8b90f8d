-- The schedule's words by their numbers, and that a word stored where the one sixteen back stood leaves the others that are
-- still asked for.
use Rattle.std.proofs.Common.{◌≡◌, ℕ, zero, suc, ◌+◌, ◌-◌, ◌%◌, ◌<◌, ◌≤◌, List, [], length, get_or, set, sym, refl, ap, ◌∙◌, subst, arith, length-append, length-set, get_or-set_other, get_or-set_same, le-ltb, lt-ltb}
use native.Mathlib.Decide.{dec_lt}
use lib.ListN.{get_or-append}
use lib.Seq.{get_or-append_seam}
use Rattle.sha256.specs.Padding.{M}
use Rattle.sha256.specs.Hash.{scheduled, W, schedule}
use Rattle.sha256.specs.Work.{schedule_word, rolled, Rolling}

pub renumbered : {p : List ℕ} {i t u : ℕ} {ws : List ℕ} → t ≡ u → Rolling p i t ws → Rolling p i u ws
renumbered {p} {i} {t} {u} {ws} e r = subst (λ (n : ℕ). Rolling p i n ws) e r

-- before word 0 there is nothing to hold
pub none_due : (p : List ℕ) (i : ℕ) (ws : List ℕ) → length ws ≡ 16 → Rolling p i 0 ws
none_due p i ws h = record { size = h; holds = λ k h l. omega arith }

module _ (p : List ℕ) (i : ℕ) where
  schedule_length : (n : ℕ) → length (schedule p i n) ≡ n
  unfolding schedule
  schedule_length zero = refl
  schedule_length (suc n) = simp length-append (omega (arith, schedule_length n))

  -- word k of the first n follows from the words before it
  word : (n k : ℕ) → k < n → get_or (schedule p i n) k 0 ≡ W p i (schedule p i k) k
  unfolding schedule
  word zero k h = omega arith
  word (suc n) k h =
      elim (dec_lt k n) [
        | yes l ↦ get_or-append (schedule p i n) _ 0 k (omega (arith, schedule_length n)) ∙ word n k l
        | no g ↦
            let e : k ≡ n = omega (arith, g) in
            ap (λ (j : ℕ). get_or (schedule p i (suc n)) j 0) (e ∙ sym (schedule_length n))
            ∙ get_or-append_seam (schedule p i n) _ [] 0 ∙ ap (λ (j : ℕ). W p i (schedule p i j) j) (sym e)
      ]

  -- one of the first 16
  first_words : (t : ℕ) → t < 16 → M p i t ≡ schedule_word p i t
  unfolding W
  first_words t h = sym (word 64 t (omega arith) ∙ rw (lt-ltb t 16 h) refl)

  -- one of the 48 behind them
  further_words : (t : ℕ) → 16 ≤ t → t < 64
      → scheduled (schedule_word p i (t - 2)) (schedule_word p i (t - 7)) (schedule_word p i (t - 15)) (schedule_word p i (t - 16))
      ≡ schedule_word p i t
  unfolding W
  further_words t h l =
      let at : (k : ℕ) → k < t → schedule_word p i k ≡ get_or (schedule p i t) k 0 =
      λ k m. word 64 k (omega arith) ∙ sym (word t k m) in
      let a = at (t - 2) (omega arith) in
      let b = at (t - 7) (omega arith) in
      let c = at (t - 15) (omega arith) in
      let d = at (t - 16) (omega arith) in
      (λ j. scheduled (a j) (b j) (c j) (d j)) ∙ sym (word 64 t l ∙ rw (le-ltb t 16 h) refl)

  module _ (ws : List ℕ) (t : ℕ) (r : Rolling p i t ws) where
    stored : (x : ℕ) → x ≡ schedule_word p i t → Rolling p i (t + 1) (set ws (t % 16) x)
    unfolding rolled
    stored x e =
        record {
          size = simp length-set r.size;
          holds = λ k h l. elim (dec_lt k t) [
            | yes m ↦
                let apart : k % 16 ≡ t % 16 → ⊥ = λ same. omega arith in
                get_or-set_other ws (t % 16) (k % 16) x 0 apart ∙ r.holds k m (omega arith)
            | no g ↦
                let now : k ≡ t = omega (arith, g) in
                ap (λ (j : ℕ). get_or (set ws (t % 16) x) (j % 16) 0) now ∙ get_or-set_same ws (t % 16) x 0 (omega (arith, r.size)) ∙ e
                ∙ ap (schedule_word p i) (sym now)
          ];
        }

    -- one of the first 16 words, as the message has it
    pub loaded : (x : ℕ) → t < 16 → x ≡ M p i t → Rolling p i (t + 1) (set ws t x)
    loaded x h e =
        let place : t % 16 ≡ t = omega arith in
        rw place at (stored x (e ∙ first_words t h))

    -- one behind them, from the four that the standard names, each at its place
    pub over : (x : ℕ) → 16 ≤ t → t < 64
        → x ≡ scheduled (rolled ws (t - 2)) (rolled ws (t - 7)) (rolled ws (t - 15)) (rolled ws (t - 16))
        → Rolling p i (t + 1) (set ws (t % 16) x)
    over x h l e =
        let a = r.holds (t - 2) (omega arith) (omega arith) in
        let b = r.holds (t - 7) (omega arith) (omega arith) in
        let c = r.holds (t - 15) (omega arith) (omega arith) in
        let d = r.holds (t - 16) (omega arith) (omega arith) in
        stored x (e ∙ (λ j. scheduled (a j) (b j) (c j) (d j)) ∙ further_words t h l)
