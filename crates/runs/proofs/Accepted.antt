-- An accepted request: no check applies, whichever its number, and the strings of the checks of every number are formed. So
-- proofs find a check by its number, not by its place in the list. And back: where no check fails, it is accepted.
use mathlib.Core.Path.{◌≡◌, refl, sym, ap, subst, ◌∙◌}
use mathlib.Core.Bool.{Bool, true, false, true≢false}
use mathlib.Core.List.Memᴰ
use mathlib.Core.List.{List, [], ◌∷◌, ◌++◌, Memᴰ}
use Prim.Native.Nat.{ℕ}
use borrow.Author.Tests.{eqb-true}
use lib.Dec.{eqb}
use Rattle.seqs.specs.Choose.{pick, both, either, opposite, both_true, Every}
use Rattle.paper.specs.declared.Registers.{Registers}
use Rattle.paper.specs.Strings.{Dig, Str}
use Rattle.paper.specs.Requests.{Request}
use Rattle.paper.specs.Refusals.{Check, those, any_fails, forms_all, applies, formed_at, all_passed, judge, Passed}
use Rattle.paper.specs.Module.{Told, told_by}
use Rattle.paper.proofs.Early.{among, numbered, none_of}
use Rattle.paper.proofs.Verdicts.{first_of, number_is, passed_at}

-- ── passed, number by number ──

-- no check of any number applies
abbrev pub NoneApplies : List Check → Type 0
NoneApplies cs = (n : ℕ) → applies n cs ≡ false

pub none_applies : (ns : List ℕ) (cs : List Check) → Passed ns cs → numbered ns cs ≡ true → NoneApplies cs
none_applies ns cs h k n = here (among n ns) refl
  where
    here : (b : Bool) → among n ns ≡ b → applies n cs ≡ false
    here true a = passed_at n ns cs h a
    here false a = ap any_fails (none_of n ns cs a k)

-- ── and back, check by check ──

-- none of some checks fails
abbrev pub NoneFails : List Check → Type 0
NoneFails = Every (λ c. c.fails ≡ false)

applies_not : (n : ℕ) (cs : List Check) → NoneFails cs → applies n cs ≡ false
applies_not n [] h = refl
applies_not n (c ∷ cs) h = here (eqb c.number n) (applies_not n cs h.1)
  where
    here : (b : Bool) → applies n cs ≡ false → any_fails (pick b (c ∷ those n cs) (those n cs)) ≡ false
    here true i = rw h.0 i
    here false i = i

pub all_pass : (ns : List ℕ) (cs : List Check) → NoneFails cs → Passed ns cs
all_pass [] cs h = tt
all_pass (n ∷ ns) cs h = (applies_not n cs h, all_pass ns cs h)

-- ── accepted ──

-- numbers that are no sign of acceptance
abbrev nonzero : List ℕ → Bool
nonzero [] = true
nonzero (n ∷ ns) = both (opposite (eqb n 0)) (nonzero ns)

zero_not : (n : ℕ) → opposite (eqb n 0) ≡ true → n ≡ 0 → ⊥
zero_not n h e = true≢false (sym h ∙ ap (λ (k : ℕ). opposite (eqb k 0)) e)

number_zero : (ns : List ℕ) (cs : List Check) → nonzero ns ≡ true → first_of ns cs ≡ 0 → Passed ns cs
number_zero [] cs k h = tt
number_zero (n ∷ ns) cs k h =
    let z = both_true (opposite (eqb n 0)) (nonzero ns) k in
    here (applies n cs) refl z.0 (number_zero ns cs z.1) h
  where
    here : (b : Bool) → applies n cs ≡ b → opposite (eqb n 0) ≡ true → (first_of ns cs ≡ 0 → Passed ns cs)
        → pick b n (first_of ns cs) ≡ 0 → Passed (n ∷ ns) cs
    here true e z later h = absurd (zero_not n z h)
    here false e z later h = (e, later h)

-- the strings of all checks, in the order of their numbers
abbrev pub formed_all : List ℕ → List Str → List Check → List Str
formed_all [] fs cs = fs
formed_all (n ∷ ns) fs cs = formed_all ns (formed_at n cs ++ fs) cs

pub judge_passed : (ns : List ℕ) (fs : List Str) (cs : List Check) → Passed ns cs
    → judge ns fs cs ≡ all_passed (formed_all ns fs cs)
judge_passed [] fs cs h = refl
judge_passed (n ∷ ns) fs cs h = rw h.0 (judge_passed ns (formed_at n cs ++ fs) cs h.1)

module _ (D : List ℕ → Dig) (s : Registers) (k : ℕ) (q : Request) (ns : List ℕ) (cs : List Check) where
  abbrev answered : Told
  answered = told_by D s k q (judge ns [] cs)

  pub accepted_passed : nonzero ns ≡ true → answered.refusal ≡ 0 → Passed ns cs
  accepted_passed z h = number_zero ns cs z (sym (number_is D s k q ns [] cs) ∙ h)

-- ── strings formed ──

kept : (x : Str) (ns : List ℕ) (fs : List Str) (cs : List Check) → Memᴰ x fs → Memᴰ x (formed_all ns fs cs)
kept x [] fs cs m = m
kept x (n ∷ ns) fs cs m = kept x ns (formed_at n cs ++ fs) cs (Memᴰ.append_right (formed_at n cs) m)

at_number : (x : Str) (n : ℕ) (ns : List ℕ) (fs : List Str) (cs : List Check) → among n ns ≡ true
    → Memᴰ x (formed_at n cs) → Memᴰ x (formed_all ns fs cs)
at_number x n [] fs cs a m = absurd (true≢false (sym a))
at_number x n (i ∷ ns) fs cs a m = here (eqb i n) refl a (λ k. at_number x n ns (formed_at i cs ++ fs) cs k m)
  where
    here : (b : Bool) → eqb i n ≡ b → either b (among n ns) ≡ true
        → (among n ns ≡ true → Memᴰ x (formed_all (i ∷ ns) fs cs)) → Memᴰ x (formed_all (i ∷ ns) fs cs)
    here true e a later =
        kept x ns (formed_at i cs ++ fs) cs
        (Memᴰ.append_left fs (subst (λ (j : ℕ). Memᴰ x (formed_at j cs)) (sym (eqb-true i n e)) m))
    here false e a later = later a

-- the strings of every number are among them
pub number_formed : (ns : List ℕ) (cs : List Check) → numbered ns cs ≡ true → (n : ℕ) (x : Str) → Memᴰ x (formed_at n cs)
    → Memᴰ x (formed_all ns [] cs)
number_formed ns cs k n x m = here (among n ns) refl
  where
    here : (b : Bool) → among n ns ≡ b → Memᴰ x (formed_all ns [] cs)
    here true a = at_number x n ns [] cs a m
    here false a = elim (subst (λ (l : List Check). Memᴰ x (forms_all l)) (none_of n ns cs a k) m) [ ]
