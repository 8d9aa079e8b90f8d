-- The memoranda that an accepted request carries: each means what its string says and stands for what the book has, or it was
-- never issued, or a fault can be shown.
use mathlib.Core.Path.{◌≡◌, refl, sym, ap, subst, ◌∙◌}
use mathlib.Core.Bool.{Bool, true, false, true≢false}
use mathlib.Core.List.Memᴰ
use mathlib.Core.List.{List, [], ◌∷◌, ◌++◌, Memᴰ}
use mathlib.Core.Logic.{◌⊎◌, inl, inr}
use Prim.Native.Nat.{ℕ}
use lib.Dec.{eqb}
use Rattle.seqs.specs.Choose.{pick}
use Rattle.seqs.specs.Bytes.{same, same_true}
use Rattle.paper.specs.declared.Registers.{Registers}
use Rattle.paper.specs.Strings.{Dig, Memo, Str, digest_of, memorandum, memorandum_forms}
use Rattle.paper.specs.Requests.{Request}
use Rattle.paper.specs.Refusals.{Check, none_fits, tried, needs, compared, carried_memoranda, those, any_fails, forms_all, formed_at}
use Rattle.paper.specs.Answers.{answer}
use Rattle.paper.proofs.Verdicts.{the_one}
use Rattle.rings.specs.Meanings.{Within, Fault, MemoMeans}
use Rattle.rings.proofs.Nodes.{◌>>=◌, instead}
use Rattle.runs.specs.Run.{World, steps_for, is_issued}
use Rattle.runs.specs.Also.{AllBacked}
use Rattle.runs.proofs.Accepted.{NoneApplies}
use Rattle.runs.proofs.Widths.{Wide}
use Rattle.runs.proofs.Book.{look}

-- what the checks of a number compare is carried
compared_at : (n : ℕ) (cs : List Check) (m : Dig) → Memᴰ m (compared (those n cs)) → Memᴰ m (compared cs)
compared_at n [] m i = i
compared_at n (c ∷ cs) m i = by_number (eqb c.number n) (compared_at n cs m) i
  where
    by_number : (b : Bool) → (Memᴰ m (compared (those n cs)) → Memᴰ m (compared cs))
        → Memᴰ m (compared (pick b (c ∷ those n cs) (those n cs))) → Memᴰ m (c.compares ++ compared cs)
    by_number true later i =
        elim (Memᴰ.append_cases c.compares i) [
          | inl j ↦ Memᴰ.append_left (compared cs) j
          | inr j ↦ Memᴰ.append_right c.compares (later j)
        ]
    by_number false later i = Memᴰ.append_right c.compares (later i)

-- ── what an accepted request carries ──

module _ (D : List ℕ → Dig) (w : World) where
  abbrev s : Registers
  s = w.registers

  abbrev key : Dig
  key = s.secret

  -- a memorandum that it carries was never issued
  abbrev pub Forgery : Request → Type 0
  Forgery q = (m : Dig) × Memᴰ m (carried_memoranda D s q) × (is_issued m w.book ≡ false)

  module _ (G : List Str) where
    -- an accepted request, and its strings among G
    pub record Given (q : Request) : Type 0 where
      pub passes : NoneApplies (needs D s q)
      pub of_number : (n : ℕ) → Within (formed_at n (needs D s q)) G
      pub of_answer : Within (answer D s q).forms G
      pub wide : Wide q

    abbrev pub Or : Request → Type 0 → Type 0
    Or q A = (Fault (digest_of D) G ⊎ Forgery q) ⊎ A

    -- a memorandum m that a check asks to say one of some things, behind other strings
    pub record Asked (q : Request) (before : List Str) (says : List Memo) (m : Dig) : Type 0 where
      pub is_carried : Memᴰ m (carried_memoranda D s q)
      pub formed_before : Within before G
      pub formed : Within (tried D key says m) G
      pub fits : none_fits D key says m ≡ false

    -- found by the number of that check, the only one of it
    pub asked_at : {q : Request} → Given q → (n : ℕ) (before : List Str) (says : List Memo) (m : Dig)
        → those n (needs D s q)
        ≡ record { number = n; fails = none_fits D key says m; forms = before ++ tried D key says m; compares = m ∷ [] } ∷ []
        → Asked q before says m
    asked_at {q} g n before says m e =
        let forms = subst (λ (l : List Check). Within (forms_all l) G) e (g.of_number n) in
        record {
          is_carried = compared_at n (needs D s q) m (rw e (Memᴰ.head refl));
          formed_before = λ x i. forms x (Memᴰ.append_left (tried D key says m) i);
          formed = λ x i. forms x (Memᴰ.append_right before i);
          fits = the_one (sym (ap any_fails e) ∙ g.passes n);
        }

    module _ (b : AllBacked D G w.book) where
      abbrev pub Meant : Memo → Dig → Type 0
      Meant t m = MemoMeans (digest_of D) G t (steps_for m w.book)

      -- one whose strings are formed
      taken : (q : Request) (t : Memo) (m : Dig) → Memᴰ m (carried_memoranda D s q) → Within (memorandum_forms D t key) G
          → memorandum D t key ≡ m → Or q (Meant t m)
      taken q t m c i e =
          instead (λ x. elim x [ inl f ↦ inl f | inr u ↦ inr (m, c, u) ]) (look D m t key w.book b i e)

      -- one that a check asks to say t
      one_way : (q : Request) (t : Memo) (m : Dig) → Memᴰ m (carried_memoranda D s q) → Within (tried D key (t ∷ []) m) G
          → none_fits D key (t ∷ []) m ≡ false → Or q (Meant t m)
      one_way q t m c i h = by_test (same (memorandum D t key) m) refl h
        where
          by_test : (b : Bool) → same (memorandum D t key) m ≡ b → pick b false true ≡ false → Or q (Meant t m)
          by_test true e h = taken q t m c (λ x j. i x (Memᴰ.append_left _ j)) (same_true (memorandum D t key) m e)
          by_test false e h = absurd (true≢false h)

      pub means : {q : Request} {l : List Str} (t : Memo) (m : Dig) → Asked q l (t ∷ []) m → Or q (Meant t m)
      means {q} t m a = one_way q t m a.is_carried a.formed a.fits

      -- or t or u, u being tried second
      pub means_either : {q : Request} {l : List Str} (t u : Memo) (m : Dig) → Asked q l (t ∷ u ∷ []) m → Or q (Meant t m ⊎ Meant u m)
      means_either {q} t u m a = by_test (same (memorandum D t key) m) refl a.fits a.formed
        where
          by_test : (b : Bool) → same (memorandum D t key) m ≡ b → pick b false (none_fits D key (u ∷ []) m) ≡ false
              → Within (memorandum_forms D t key ++ pick b [] (tried D key (u ∷ []) m)) G → Or q (Meant t m ⊎ Meant u m)
          by_test true e h i = do
            x ← taken q t m a.is_carried (λ x j. i x (Memᴰ.append_left [] j)) (same_true (memorandum D t key) m e)
            inr (inl x)
          by_test false e h i = do
            x ← one_way q u m a.is_carried (λ x j. i x (Memᴰ.append_right (memorandum_forms D t key) j)) h
            inr (inr x)
