-- The shortcuts that look right are refused: each by the check that the shortcut leaves out.
use mathlib.Core.Path.{◌≡◌, refl, sym, subst, ◌∙◌}
use mathlib.Core.Bool.{Bool, true, false, true≢false}
use mathlib.Core.List.Memᴰ
use mathlib.Core.List.{List, [], ◌∷◌, ◌++◌, Memᴰ}
use mathlib.Core.Logic.{◌⊎◌, inl, inr}
use Prim.Native.Nat.{ℕ}
use borrow.Author.Tests.{eqb-true}
use lib.Dec.{eqb}
use lib.ListN.{length}
use Rattle.seqs.specs.Choose.{pick, either, both_true, either_yes, ◌and◌, Every}
use Rattle.seqs.specs.Bytes.{same, same_true, same_refl}
use Rattle.hexadecimal.specs.Hex.{bytes_of}
use Rattle.paper.specs.declared.Record.{Record}
use Rattle.paper.specs.declared.Registers.{Registers}
use Rattle.paper.specs.Strings.{Dig, nought, Memo, u1, v1, u2, ei, Str, digest_of, memorandum, memorandum_forms}
use Rattle.paper.specs.Requests as Q
use Rattle.paper.specs.Requests.{Request, request_of}
use Rattle.paper.specs.Refusals.{Check, plain, order, request_order, compared, none_fits, tried, first_memo, second_memo, next_record, cleared_record, place_forms, place_says, leaf_of, leaf_forms, change_forms, change_says, needs, carried_memoranda, those, applies, formed_at, formed_by, numbers_before, Passed}
use Rattle.paper.specs.Module.{checks_of}
use Rattle.paper.specs.Collisions.{Collision}
use Rattle.paper.specs.Shortcuts.{verdict_on, refusal_for, Shortcuts}
use Rattle.paper.proofs.Early.{among, numbered, numbered_late}
use Rattle.paper.proofs.Memoranda.{is_digest, one_new_half}
use Rattle.paper.proofs.Verdicts.{first_of, refusal_first, in_those, fails_not, in_forms, passed_number, append_passed, reached}

-- ── every number is in the order ──

in_list : (n : ℕ) (ns : List ℕ) → among n ns ≡ true → Memᴰ n ns
in_list n [] h = absurd (true≢false (sym h))
in_list n (i ∷ ns) h = here (eqb i n) refl (in_list n ns) h
  where
    here : (b : Bool) → eqb i n ≡ b → (among n ns ≡ true → Memᴰ n ns) → either b (among n ns) ≡ true → Memᴰ n (i ∷ ns)
    here true e later h = Memᴰ.head (sym (eqb-true i n e))
    here false e later h = Memᴰ.tail (later h)

number_in : (ns : List ℕ) (cs : List Check) (c : Check) → numbered ns cs ≡ true → Memᴰ c cs → Memᴰ c.number ns
number_in ns (d ∷ cs) c h (Memᴰ.head e) =
    in_list c.number ns
    (subst (λ (x : Check). among x.number ns ≡ true) (sym e) (both_true (among d.number ns) (numbered ns cs) h).0)
number_in ns (d ∷ cs) c h (Memᴰ.tail m) = number_in ns cs c (both_true (among d.number ns) (numbered ns cs) h).1 m
number_in ns [] c h x'' = elim x'' [ ]

later : (n : ℕ) → among n request_order ≡ true → among n order ≡ true
later n h = rw (h, either_yes, either_yes, either_yes, either_yes) refl

numbered_all : (cs : List Check) → numbered request_order cs ≡ true → numbered order cs ≡ true
numbered_all [] h = refl
numbered_all (c ∷ cs) h =
    let p = both_true (among c.number request_order) (numbered request_order cs) h in
    rw (later c.number p.0) (numbered_all cs p.1)

numbered_order : (D : List ℕ → Dig) (s : Registers) (line : List ℕ) (space : ℕ) → numbered order (checks_of D s line space) ≡ true
numbered_order D s line space =
    let q = request_of (bytes_of line) in
    numbered_all (needs D s q) (numbered_late D s q)

-- ── a memorandum that is compared ──

-- a check on a memorandum m is of 8 or 9, and where it is passed, m is the digest of a string that it forms
abbrev Comparing : (D : List ℕ → Dig) → Check → Type 0
Comparing D c =
    (m : Dig) → Memᴰ m c.compares
    → ((c.number ≡ 8) ⊎ (c.number ≡ 9)) × (c.fails ≡ false → (x : Str) × Memᴰ x c.forms × (digest_of D x ≡ m))

abbrev AllComparing : (D : List ℕ → Dig) → List Check → Type 0
AllComparing D = Every (Comparing D)

module _ (D : List ℕ → Dig) where
  fitting : (k : Dig) (says : List Memo) (m : Dig) → none_fits D k says m ≡ false
      → (x : Str) × Memᴰ x (tried D k says m) × (digest_of D x ≡ m)
  fitting k [] m h = absurd (true≢false h)
  fitting k (t ∷ l) m h = by_test (same (memorandum D t k) m) refl (fitting k l m) h
    where
      by_test : (b : Bool) → same (memorandum D t k) m ≡ b
          → (none_fits D k l m ≡ false → (x : Str) × Memᴰ x (tried D k l m) × (digest_of D x ≡ m))
          → pick b false (none_fits D k l m) ≡ false
          → (x : Str) × Memᴰ x (memorandum_forms D t k ++ pick b [] (tried D k l m)) × (digest_of D x ≡ m)
      by_test true e later h =
          let f = is_digest D t k in
          (f.0, Memᴰ.append_left [] f.1, f.2 ∙ same_true (memorandum D t k) m e)
      by_test false e later h = let f = later h in (f.0, Memᴰ.append_right (memorandum_forms D t k) f.1, f.2)

  of_numbers : {n : ℕ} {b : Bool} → Comparing D (plain n b)
  of_numbers m i = elim i [ ]

  of_first : (s : Registers) (before : List Str) (says : List Memo) (m : Dig) → Comparing D (first_memo D s before says m)
  of_first s before says m n (Memᴰ.head e) =
      (inl refl, λ h. let f = fitting s.secret says m h in (f.0, Memᴰ.append_right before f.1, f.2 ∙ sym e))
  of_first s before says m n (Memᴰ.tail x4) = elim x4 [ ]

  of_second : (s : Registers) (says : Memo) (m : Dig) → Comparing D (second_memo D s says m)
  of_second s says m n (Memᴰ.head e) =
      (inr refl, λ h. let f = fitting s.secret (says ∷ []) m h in (f.0, f.1, f.2 ∙ sym e))
  of_second s says m n (Memᴰ.tail x4) = elim x4 [ ]

  of_change : (s : Registers) (A A' : ℕ) (old new : Record) (y y' m : Dig)
      → Comparing D (first_memo D s (change_forms D A A' old new) (change_says D A A' old new y y' ∷ []) m)
  of_change s A A' old new y y' m = of_first s (change_forms D A A' old new) (change_says D A A' old new y y' ∷ []) m

  comparing : (s : Registers) (q : Request) → AllComparing D (needs D s q)
  comparing s (Q.path x x' sides l) = of_numbers and tt
  comparing s (Q.witness x y m) = of_numbers and of_first s [] (u1 x y x y ∷ []) m and tt
  comparing s (Q.join x y x' y' m1 z z' m2) =
      of_numbers and of_first s [] (u1 x y x' y' ∷ []) m1 and of_second s (u1 y z y' z') m2 and tt
  comparing s (Q.pair x1 y x1' y' m1 x2 z x2' z' m2) =
      of_numbers and of_first s [] (u1 x1 y x1' y' ∷ []) m1 and of_second s (u1 x2 z x2' z') m2 and tt
  comparing s (Q.raise x1 x2 y x1' x2' y' m1 z z' m2) =
      of_numbers and of_first s [] (u2 x1 x2 y x1' x2' y' ∷ []) m1 and of_second s (u1 y z y' z') m2 and tt
  comparing s (Q.swap x1 x2 y y' m) = of_numbers and of_first s [] (u2 x1 x2 y x2 x1 y' ∷ []) m and tt
  comparing s (Q.first A) = of_numbers and of_numbers and tt
  comparing s (Q.place A A' B' ω y y' m) =
      of_numbers and of_numbers and of_numbers and of_numbers and of_numbers
      and of_first s (place_forms A A' B' ω) (place_says D A A' B' ω y y') m and tt
  comparing s (Q.turn x y m) = of_numbers and of_first s [] (ei x y ∷ []) m and tt
  comparing s (Q.chain x y m1 z m2) = of_numbers and of_first s [] (ei x y ∷ []) m1 and of_second s (ei y z) m2 and tt
  comparing s (Q.adopt y y' m) = of_numbers and of_first s [] (ei y y' ∷ []) m and of_numbers and tt
  comparing s (Q.set_to A A' old v y y' m) =
      of_numbers and of_numbers and of_numbers and of_numbers and of_numbers and of_numbers
      and of_change s A A' old (next_record s v) y y' m and of_numbers and tt
  comparing s (Q.clear A A' old y y' m) =
      of_numbers and of_numbers and of_numbers and of_numbers and of_numbers and of_numbers
      and of_change s A A' old cleared_record y y' m and of_numbers and tt
  comparing s (Q.ask q A A' r y m) =
      of_numbers and of_numbers and of_numbers and of_numbers and of_numbers and of_numbers
      and of_first s (leaf_forms D A A' r) (v1 (digest_of D (leaf_of D A A' r)) y ∷ []) m and of_numbers and tt
  comparing s (Q.ask_none q) = of_numbers and of_numbers and of_numbers and tt
  comparing s (Q.unlock k) = of_numbers and of_numbers and tt

  -- the check that compares a memorandum which is carried
  record Compared (m : Dig) (cs : List Check) : Type 0 where
    check : Check
    in_list : Memᴰ check cs
    of : ((check.number ≡ 8) ⊎ (check.number ≡ 9)) × (check.fails ≡ false → (x : Str) × Memᴰ x check.forms × (digest_of D x ≡ m))

  find : (m : Dig) (cs : List Check) → AllComparing D cs → Memᴰ m (compared cs) → Compared m cs
  find m [] a i = elim i [ ]
  find m (c ∷ cs) a i = by_place (Memᴰ.append_cases c.compares i) (find m cs a.1)
    where
      by_place : Memᴰ m c.compares ⊎ Memᴰ m (compared cs) → (Memᴰ m (compared cs) → Compared m cs)
          → Compared m (c ∷ cs)
      by_place (inl j) later = record { check = c; in_list = Memᴰ.head refl; of = a.0 m j }
      by_place (inr j) later =
          let f = later j in
          record { check = f.check; in_list = Memᴰ.tail f.in_list; of = f.of }

  module _ (s : Registers) (q : Request) (i : Memᴰ nought (carried_memoranda D s q))
      (h : Passed (numbers_before 8 request_order) (needs D s q)) where
    abbrev cs : List Check
    cs = needs D s q

    abbrev Refused : Type 0
    Refused = (refusal_for D s q ≡ 8) ⊎ (refusal_for D s q ≡ 9)

    abbrev ZeroFormed : Type 0
    ZeroFormed = (x : Str) × Memᴰ x (formed_by (verdict_on D s q)) × (digest_of D x ≡ nought)

    number : refusal_for D s q ≡ first_of (8 ∷ 9 ∷ 10 ∷ []) cs
    number = refusal_first request_order [] cs ∙ passed_number (numbers_before 8 request_order) (8 ∷ 9 ∷ 10 ∷ []) cs h

    -- where 8 and 9 are passed, the string is formed
    passed_both : applies 8 cs ≡ false → applies 9 cs ≡ false → ZeroFormed
    passed_both a b = by_number f.of.0
      where
        f : Compared nought cs
        f = find nought cs (comparing s q) i

        with_string : applies f.check.number cs ≡ false
            → ((x : Str) → Memᴰ x (formed_at f.check.number cs) → Memᴰ x (formed_by (verdict_on D s q))) → ZeroFormed
        with_string p inside =
            let here = in_those f.check cs f.in_list in
            let g = f.of.1 (fails_not f.check (those f.check.number cs) p here) in
            (g.0, inside g.0 (in_forms g.0 f.check (those f.check.number cs) here g.1), g.2)

        by_number : (f.check.number ≡ 8) ⊎ (f.check.number ≡ 9) → ZeroFormed
        by_number (inl e) =
            with_string (rw e a) (λ x j. reached x (numbers_before 8 request_order) 8 (9 ∷ 10 ∷ []) [] cs h (rw e at j))
        by_number (inr e) =
            with_string (rw e b) (λ x j. reached x (numbers_before 9 request_order) 9 (10 ∷ []) [] cs (join_passed a) (rw e at j))
          where
            join_passed : applies 8 cs ≡ false → Passed (numbers_before 9 request_order) cs
            join_passed a = append_passed (numbers_before 8 request_order) (8 ∷ []) cs h (a, tt)

    zero_given : Refused ⊎ ZeroFormed
    zero_given = by_tests (applies 8 cs) (applies 9 cs) refl refl
      where
        by_tests : (a b : Bool) → applies 8 cs ≡ a → applies 9 cs ≡ b → Refused ⊎ ZeroFormed
        by_tests true b e e' = inl (inl (number ∙ rw e refl))
        by_tests false true e e' = inl (inr (number ∙ rw (e, e') refl))
        by_tests false false e e' = inr (passed_both e e')

  -- ── joining ──

  module _ (s : Registers) (x y x' y' z z' w : Dig) (o : s.opened ≡ true)
      (ny : length y ≡ 32) (nz : length z ≡ 32) (ny' : length y' ≡ 32) (nw : length w ≡ 32) (apart : w ≡ y' → ⊥) where
    abbrev k : Dig
    k = s.secret

    abbrev old_join : Request
    old_join = Q.join x y x' y' (memorandum D (u1 x y x' y') k) z z' (memorandum D (u1 y z w z') k)

    -- the strings of m2 and of what it should say
    abbrev fs : List Str
    fs = memorandum_forms D (u1 y z w z') k ++ memorandum_forms D (u1 y z y' z') k

    halves_meet : (refusal_for D s old_join ≡ 9) ⊎ Collision D fs
    halves_meet = by_test (same (memorandum D (u1 y z y' z') k) (memorandum D (u1 y z w z') k)) refl
      where
        by_test : (b : Bool) → same (memorandum D (u1 y z y' z') k) (memorandum D (u1 y z w z') k) ≡ b
            → (refusal_for D s old_join ≡ 9) ⊎ Collision D fs
        by_test true e =
            inr (one_new_half D fs y z w z' y z y' z' k k ny nz nw ny nz ny' (λ x i. Memᴰ.append_left _ i)
            (λ x i. Memᴰ.append_right (memorandum_forms D (u1 y z w z') k) i) (sym (same_true _ _ e)) (λ p. absurd (apart p)))
        by_test false e = inl (rw (o, same_refl (memorandum D (u1 x y x' y') k), e) refl)

pub shortcuts : (D : List ℕ → Dig) → Shortcuts D
shortcuts D =
    record {
      gap_tested = λ s A A' B' ω y y' m o a b c g. rw (o, a, b, c, g) refl;
      malformed_asked = λ s q A A' r y m o a b c g. rw (o, a, b, c, g) refl;
      malformed_set = λ s A A' old v y y' m o a b g. rw (o, a, b, g) refl;
      malformed_cleared = λ s A A' old y y' m o a b g. rw (o, a, b, g) refl;
      halves_meet = λ s x y x' y' z z' w o a b c d e. halves_meet D s x y x' y' z z' w o a b c d e;
      zero_given = λ s q i h. zero_given D s q i h;
      shut_first = λ s o. rw o refl;
      adopt_keeps_counter = λ s y y' m. refl;
      in_order = λ s line space c i. number_in order (checks_of D s line space) c (numbered_order D s line space) i;
    }
