-- What a verdict says: its number is the first that applies, and the strings of every check that it comes to are formed.
use mathlib.Core.Path.{◌≡◌, refl, sym, ap, subst, ◌∙◌}
use mathlib.Core.Bool.{Bool, true, false, true≢false}
use mathlib.Core.List.Memᴰ
use mathlib.Core.List.{List, [], ◌∷◌, ◌++◌, Memᴰ}
use mathlib.Core.Logic.{◌⊎◌, inl, inr}
use Prim.Native.Nat.{ℕ}
use borrow.Author.Tests.{eqb-true, eq-eqb}
use lib.Dec.{eqb}
use Rattle.seqs.specs.Choose.{pick, either, opposite, either_no}
use Rattle.paper.specs.declared.Registers.{Registers}
use Rattle.paper.specs.Strings.{Dig, Str}
use Rattle.paper.specs.Requests.{Request}
use Rattle.paper.specs.Refusals.{Check, those, any_fails, forms_all, applies, formed_at, Verdict, refused_by, all_passed, formed_by, judge, Passed, FirstToApply}
use Rattle.paper.specs.Answers.{answer}
use Rattle.paper.specs.Module.{refusal_of, told_by}
use Rattle.paper.proofs.Early.{among}

-- ── the tests of checks that do not fail ──

pub opposite_false : (b : Bool) → opposite b ≡ false → b ≡ true
opposite_false true h = refl
opposite_false false h = absurd (true≢false h)

either_false : (a b : Bool) → either a b ≡ false → (a ≡ false) × (b ≡ false)
either_false true b h = absurd (true≢false h)
either_false false b h = (refl, h)

-- where a number has one check, that check's test
pub the_one : {b : Bool} → either b false ≡ false → b ≡ false
the_one {b} h = sym (either_no b) ∙ h

-- ── a check in its list ──

pub in_those : (c : Check) (cs : List Check) → Memᴰ c cs → Memᴰ c (those c.number cs)
in_those c (d ∷ cs) (Memᴰ.head e) = at_head (eqb d.number c.number)
    (eq-eqb _ _ (ap (λ (x : Check). x.number) (sym e)))
  where
    at_head : (b : Bool) → b ≡ true → Memᴰ c (pick b (d ∷ those c.number cs) (those c.number cs))
    at_head true h = Memᴰ.head e
    at_head false h = absurd (true≢false (sym h))
in_those c (d ∷ cs) (Memᴰ.tail m) = behind (eqb d.number c.number) (in_those c cs m)
  where
    behind : (b : Bool) → Memᴰ c (those c.number cs)
        → Memᴰ c (pick b (d ∷ those c.number cs) (those c.number cs))
    behind true i = Memᴰ.tail i
    behind false i = i
in_those c [] x' = elim x' [ ]

pub fails_not : (c : Check) (cs : List Check) → any_fails cs ≡ false → Memᴰ c cs → c.fails ≡ false
fails_not c (d ∷ cs) h (Memᴰ.head e) = ap (λ (x : Check). x.fails) e ∙ (either_false d.fails (any_fails cs) h).0
fails_not c (d ∷ cs) h (Memᴰ.tail m) = fails_not c cs (either_false d.fails (any_fails cs) h).1 m
fails_not c [] h x'' = elim x'' [ ]

pub in_forms : (x : Str) (c : Check) (cs : List Check) → Memᴰ c cs → Memᴰ x c.forms → Memᴰ x (forms_all cs)
in_forms x c (d ∷ cs) (Memᴰ.head e) m =
    Memᴰ.append_right (forms_all cs) (subst (λ (y : Check). Memᴰ x y.forms) e m)
in_forms x c (d ∷ cs) (Memᴰ.tail i) m = Memᴰ.append_left d.forms (in_forms x c cs i m)
in_forms x c [] x3 m = elim x3 [ ]

-- ── a verdict's number, and its strings ──

abbrev pub first_of : List ℕ → List Check → ℕ
first_of [] cs = 0
first_of (n ∷ ns) cs = pick (applies n cs) n (first_of ns cs)

number_step : (b : Bool) (n : ℕ) (fs : List Str) (v : Verdict) (m : ℕ) → refusal_of v ≡ m
    → refusal_of (pick b (refused_by n fs) v) ≡ pick b n m
number_step true n fs v m h = refl
number_step false n fs v m h = h

pub refusal_first : (ns : List ℕ) (fs : List Str) (cs : List Check) → refusal_of (judge ns fs cs) ≡ first_of ns cs
refusal_first [] fs cs = refl
refusal_first (n ∷ ns) fs cs =
    number_step (applies n cs) n (formed_at n cs ++ fs) (judge ns (formed_at n cs ++ fs) cs) (first_of ns cs)
    (refusal_first ns (formed_at n cs ++ fs) cs)

module _ (D : List ℕ → Dig) (s : Registers) (k : ℕ) (q : Request) where
  told_number : (v : Verdict) → (told_by D s k q v).refusal ≡ refusal_of v
  told_number (refused_by n fs) = refl
  told_number (all_passed fs) = refl

  pub number_is : (ns : List ℕ) (fs : List Str) (cs : List Check) → (told_by D s k q (judge ns fs cs)).refusal ≡ first_of ns cs
  number_is ns fs cs = told_number (judge ns fs cs) ∙ refusal_first ns fs cs

  pub in_told : (x : Str) (v : Verdict) → Memᴰ x (formed_by v) → Memᴰ x (told_by D s k q v).formed
  in_told x (refused_by n fs) m = m
  in_told x (all_passed fs) m = Memᴰ.append_right (answer D s q).forms m

-- strings formed stay so
stays_step : (x : Str) (b : Bool) (n : ℕ) (fs : List Str) (v : Verdict) → Memᴰ x fs → Memᴰ x (formed_by v)
    → Memᴰ x (formed_by (pick b (refused_by n fs) v))
stays_step x true n fs v h i = h
stays_step x false n fs v h i = i

pub stays : (x : Str) (ns : List ℕ) (fs : List Str) (cs : List Check) → Memᴰ x fs → Memᴰ x (formed_by (judge ns fs cs))
stays x [] fs cs m = m
stays x (n ∷ ns) fs cs m =
    let here = Memᴰ.append_right (formed_at n cs) m in
    stays_step x (applies n cs) n (formed_at n cs ++ fs) (judge ns (formed_at n cs ++ fs) cs) here
    (stays x ns (formed_at n cs ++ fs) cs here)

pub split_passed : (ns rest : List ℕ) (cs : List Check) → Passed (ns ++ rest) cs → Passed ns cs × Passed rest cs
split_passed [] rest cs h = (tt, h)
split_passed (n ∷ ns) rest cs h = let w = split_passed ns rest cs h.1 in ((h.0, w.0), w.1)

pub append_passed : (ns rest : List ℕ) (cs : List Check) → Passed ns cs → Passed rest cs → Passed (ns ++ rest) cs
append_passed [] rest cs h k = k
append_passed (n ∷ ns) rest cs h k = (h.0, append_passed ns rest cs h.1 k)

-- a check is found by its number
pub passed_at : (n : ℕ) (ns : List ℕ) (cs : List Check) → Passed ns cs → among n ns ≡ true → applies n cs ≡ false
passed_at n [] cs h a = absurd (true≢false (sym a))
passed_at n (i ∷ ns) cs h a = here (eqb i n) refl (passed_at n ns cs h.1) a
  where
    here : (b : Bool) → eqb i n ≡ b → (among n ns ≡ true → applies n cs ≡ false) → either b (among n ns) ≡ true
        → applies n cs ≡ false
    here true e later a = subst (λ (k : ℕ). applies k cs ≡ false) (eqb-true i n e) h.0
    here false e later a = later a

-- behind checks that are passed, the strings of the next one are formed
pub reached : (x : Str) (ns : List ℕ) (n : ℕ) (rest : List ℕ) (fs : List Str) (cs : List Check) → Passed ns cs
    → Memᴰ x (formed_at n cs) → Memᴰ x (formed_by (judge (ns ++ (n ∷ rest)) fs cs))
reached x [] n rest fs cs h m =
    let here = Memᴰ.append_left fs m in
    stays_step x (applies n cs) n (formed_at n cs ++ fs) (judge rest (formed_at n cs ++ fs) cs) here
    (stays x rest (formed_at n cs ++ fs) cs here)
reached x (i ∷ ns) n rest fs cs h m = rw h.0 (reached x ns n rest (formed_at i cs ++ fs) cs h.1 m)

-- the number is a later one's
pub passed_number : (ns rest : List ℕ) (cs : List Check) → Passed ns cs → first_of (ns ++ rest) cs ≡ first_of rest cs
passed_number [] rest cs h = refl
passed_number (n ∷ ns) rest cs h = rw h.0 (passed_number ns rest cs h.1)

-- the number is that of the first check to apply, and where none applies it is 0
first_step : (n : ℕ) (ns : List ℕ) (cs : List Check) (b : Bool) → applies n cs ≡ b → (m : ℕ)
    → (Passed ns cs × (m ≡ 0)) ⊎ FirstToApply ns cs m
    → (Passed (n ∷ ns) cs × (pick b n m ≡ 0)) ⊎ FirstToApply (n ∷ ns) cs (pick b n m)
first_step n ns cs true e m h =
    inr (record { before = []; behind = ns; in_order = refl; here = e; none_before = tt })
first_step n ns cs false e m (inl p) = inl ((e, p.0), p.1)
first_step n ns cs false e m (inr f) =
    inr (record {
      before = n ∷ f.before;
      behind = f.behind;
      in_order = ap (λ (l : List ℕ). n ∷ l) f.in_order;
      here = f.here;
      none_before = (e, f.none_before);
    })

pub first_given : (ns : List ℕ) (cs : List Check) → (Passed ns cs × (first_of ns cs ≡ 0)) ⊎ FirstToApply ns cs (first_of ns cs)
first_given [] cs = inl (tt, refl)
first_given (n ∷ ns) cs = first_step n ns cs (applies n cs) refl (first_of ns cs) (first_given ns cs)

-- and no other number is
pub first_only_lem : (ns : List ℕ) (cs : List Check) (n : ℕ) → FirstToApply ns cs n → first_of ns cs ≡ n
first_only_lem ns cs n f =
    ap (λ (l : List ℕ). first_of l cs) f.in_order ∙ passed_number f.before (n ∷ f.behind) cs f.none_before ∙ rw
    f.here refl

pub passed_none : (ns : List ℕ) (cs : List Check) → Passed ns cs → first_of ns cs ≡ 0
passed_none [] cs h = refl
passed_none (n ∷ ns) cs h = rw h.0 (passed_none ns cs h.1)
