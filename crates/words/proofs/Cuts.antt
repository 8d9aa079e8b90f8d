-- A line cut at its spaces, word by word.
use Rattle.std.proofs.Common.{◌≡◌, refl, sym, ◌∙◌, ℕ, suc, ◌+◌, ◌-◌, Bool, true, false, List, [], ◌∷◌, Some, None, nat_eq, length, take, drop, arith, length-drop, add-one}
use Rattle.std.specs.Prelude.{◌==◌, position, cond}
use Rattle.std.specs.List.{position_from}
use Rattle.std.proofs.lemmas.Iterator.Adapters.{position_from-zero}
use lib.Seq.{take_all}
use Rattle.seqs.specs.Choose.{pick}
use Rattle.words.specs.Reading.{before, words_of, saying_of}

abbrev is_space : ℕ → Bool
is_space c = c == 32

-- the first space is behind j bytes
record Cut (l : List ℕ) (k i : ℕ) : Type 0 where
  j : ℕ
  is : i ≡ k + j
  words : words_of l ≡ take j l ∷ words_of (drop (suc j) l)

cut_from : (l : List ℕ) (k i : ℕ) → position_from is_space k l ≡ Some i → Cut l k i
cut_from [] k i h = absurd (cc)
cut_from (c ∷ l) k i h = by_test (nat_eq c 32) refl (cut_from l (k + 1) i) h
  where
    by_test : (t : Bool) → nat_eq c 32 ≡ t → (position_from is_space (k + 1) l ≡ Some i → Cut l (k + 1) i)
        → cond t (Some k) (position_from is_space (k + 1) l) ≡ Some i → Cut (c ∷ l) k i
    by_test true e f h = record { j = 0; is = omega (arith, same_some h); words = rw e refl }
      where
        same_some : {m n : ℕ} → Some m ≡ Some n → m ≡ n
        same_some h = cc
    by_test false e f h =
        let cut = f h in
        record { j = suc cut.j; is = omega (arith, cut.is); words = rw (e, cut.words) refl }

no_cut_from : (l : List ℕ) (k : ℕ) → position_from is_space k l ≡ None → words_of l ≡ l ∷ []
no_cut_from [] k h = refl
no_cut_from (c ∷ l) k h = by_test (nat_eq c 32) refl (no_cut_from l (k + 1)) h
  where
    by_test : (t : Bool) → nat_eq c 32 ≡ t → (position_from is_space (k + 1) l ≡ None → words_of l ≡ l ∷ [])
        → cond t (Some k) (position_from is_space (k + 1) l) ≡ None → words_of (c ∷ l) ≡ (c ∷ l) ∷ []
    by_test true e f h = absurd (cc)
    by_test false e f h = rw (e, f h) refl

pub ends_at_space : (l : List ℕ) (i : ℕ) → position (λ c. c == 32) l ≡ Some i
    → words_of l ≡ take i l ∷ words_of (take (length l - (i + 1)) (drop (i + 1) l))
ends_at_space l i h =
    let cut = cut_from l 0 i (sym (position_from-zero is_space l) ∙ h) in
    let here : cut.j ≡ i = omega (arith, cut.is) in
    let rest : take (length l - (i + 1)) (drop (i + 1) l) ≡ drop (i + 1) l =
    take_all (length l - (i + 1)) (drop (i + 1) l) (simp length-drop (omega arith)) in
    cut.words ∙ (λ n. take (here n) l ∷ words_of (drop (suc (here n)) l)) ∙ rw (rest, add-one) refl

pub ends_with_line : (l : List ℕ) → position (λ c. c == 32) l ≡ None → words_of l ≡ l ∷ []
ends_with_line l h = no_cut_from l 0 (sym (position_from-zero is_space l) ∙ h)

-- a sixth word is one too many, whatever it is
pub some_word : (l : List ℕ) → words_of l ≡ [] → ⊥
some_word [] h = cc
some_word (c ∷ l) h = by_test (nat_eq c 32) (words_of l) h
  where
    by_test : (t : Bool) (ws : List (List ℕ)) → pick t ([] ∷ ws) (before (c ∷ []) ws) ≡ [] → ⊥
    by_test true ws e = cc
    by_test false [] e = cc
    by_test false (w ∷ ws) e = cc

pub sixth : (v a b c d l : List ℕ) → saying_of (v ∷ a ∷ b ∷ c ∷ d ∷ words_of l) ≡ None
sixth v a b c d l = by_words (words_of l) (some_word l)
  where
    by_words : (ws : List (List ℕ)) → (ws ≡ [] → ⊥) → saying_of (v ∷ a ∷ b ∷ c ∷ d ∷ ws) ≡ None
    by_words [] h = absurd (h refl)
    by_words (w ∷ ws) h = refl
