-- 194 bytes of reply space get 15, and 195 hold every reply: a frame's digests have at most 32 bytes, and so no answer lists
-- more than 96.
use mathlib.Core.Path.{◌≡◌, refl, sym, subst, ◌∙◌}
use mathlib.Core.Bool.{Bool, true, false, true≢false}
use mathlib.Core.List.{List, [], ◌∷◌, ◌++◌}
use mathlib.Core.Logic.{◌⊎◌, inl, inr}
use Prim.Native.Nat.{ℕ, zero, suc, ◌/◌, ◌%◌, ◌≤◌}
use native.Mathlib.Omega.{arith}
use borrow.Author.Tests.{lt-ltb, le-ltb}
use lib.Dec.{eqb}
use lib.ListN.{length, get_or, take, drop, length-append, length-take}
use Rattle.seqs.specs.Choose.{pick, ◌and◌, Every}
use Rattle.seqs.specs.Bytes.{be64, all_zero}
use Rattle.hexadecimal.specs.Hex.{bytes_of, line_of}
use Rattle.hexadecimal.proofs.Laws.{line_length}
use Rattle.paper.specs.declared.Record.{Record}
use Rattle.paper.specs.declared.Registers.{Registers}
use Rattle.paper.specs.declared.Finding.TheVariants.{Recorded, Listed, Gap}
use Rattle.paper.specs.Strings.{Dig, Memo, enc, node, u1, blank, memorandum, H, up, fold_up}
use Rattle.paper.specs.Requests as Q
use Rattle.paper.specs.Requests.{Carried, a_number, a_digest, a_record, the_values, a_path, count_in, sides_in, digests_in, siblings_in, KindRow, kinds, kind_of, row_of, takes, part, request_of}
use Rattle.paper.specs.Refusals.{Check, order, reply_room, applies, Verdict, refused_by, all_passed, judge, Passed, FirstToApply}
use Rattle.paper.specs.Answers.{finding_of, finding_bytes, answer}
use Rattle.paper.specs.Module.{told_by, checks_of, answer_to, reply_line}
use Rattle.paper.proofs.Early.{none_early}
use Rattle.paper.proofs.Memoranda.{memorandum_32}
use Rattle.paper.proofs.Verdicts.{first_of, number_is, first_given}
use Rattle.paper.specs.ByHand.{SpaceOf195}

-- ── digests of at most 32 bytes ──

abbrev pub Short : Dig → Type 0
Short d = length d ≤ 32

abbrev AllShort : List Dig → Type 0
AllShort = Every Short

take_short : (n : ℕ) (l : List ℕ) → length (take n l) ≤ n
take_short n l = simp length-take (omega arith)

digests_short : (n : ℕ) (l : List ℕ) → AllShort (digests_in n l)
digests_short zero l = tt
digests_short (suc n) l = (take_short 32 l, digests_short n (drop 32 l))

-- a digest that is carried, the i-th of the things carried
abbrev pub ShortOf : Carried → List ℕ → Type 0
ShortOf a_number l = Unit {0}
ShortOf a_digest l = Short l
ShortOf a_record l = Unit {0}
ShortOf the_values l = Unit {0}
ShortOf a_path l = Unit {0}

short_of : (c : Carried) (l : List ℕ) → ShortOf c (take (takes c l) l)
short_of a_number l = tt
short_of a_digest l = take_short 32 l
short_of a_record l = tt
short_of the_values l = tt
short_of a_path l = tt

abbrev pub ShortAt : List Carried → ℕ → List ℕ → Type 0
ShortAt [] i l = Unit {0}
ShortAt (c ∷ cs) zero l = ShortOf c l
ShortAt (c ∷ cs) (suc i) l = ShortAt cs i l

short_parts : (cs : List Carried) (l : List ℕ) (i : ℕ) → ShortAt cs i (part cs l i)
short_parts [] l i = tt
short_parts (c ∷ cs) l zero = short_of c l
short_parts (c ∷ cs) l (suc i) = short_parts cs (drop (takes c l) l) i

-- ── what each kind lists ──

finding_short : (q A A' : ℕ) (r : Record) → length (finding_bytes (finding_of q A A' r)) ≤ 96
unfolding finding_of be64
finding_short q A A' r = by_tests (eqb q A) (blank r)
  where
    by_tests : (b c : Bool)
        → length
        (finding_bytes (pick b (pick c (Listed (record { 0 = A })) (Recorded (record { 0 = A }) r)) (Gap (record { 0 = A }) (record { 0 = A' }))))
        ≤ 96
    by_tests true true = omega arith
    by_tests true false = omega arith
    by_tests false c = omega arith

module _ (D : List ℕ → Dig) (D32 : (l : List ℕ) → length (D l) ≡ 32) where
  parent_short : (u v : Dig) → Short u → Short v → Short (H D u v)
  unfolding H
  parent_short u v h g = by_tests (all_zero u) (all_zero v)
    where
      by_tests : (b c : Bool) → Short (pick c u (pick b v (D (enc (node u v)))))
      by_tests b true = h
      by_tests true false = g
      by_tests false false = omega (arith, D32 (enc (node u v)))

  up_short : (b : Bool) (u v : Dig) → Short u → Short v → Short (pick b (H D v u) (H D u v))
  up_short true u v h g = parent_short v u g h
  up_short false u v h g = parent_short u v h g

  fold_short : (u : Dig) (sides : ℕ) (l : List Dig) → Short u → AllShort l → Short (fold_up D u sides l)
  fold_short u sides [] h g = h
  fold_short u sides (v ∷ l) h g =
      fold_short (up D u v (sides % 2)) (sides / 2) l (up_short (eqb (sides % 2) 1) u v h g.0) g.1

  path_short : (s : Registers) (x x' : Dig) (sides : ℕ) (l : List Dig) → Short x → Short x' → AllShort l
      → length (answer D s (Q.path x x' sides l)).lists ≤ 96
  path_short s x x' sides l h h' g =
      let y : Dig = fold_up D x sides l in
      let y' : Dig = fold_up D x' sides l in
      let t : Memo = u1 x y x' y' in
      omega (
        arith,
        length-append (y ++ y') (memorandum D t s.secret),
        length-append y y',
        fold_short x sides l h g,
        fold_short x' sides l h' g,
        memorandum_32 D D32 t s.secret,
      )

  -- a digest and the counter
  raised_short : (y : Dig) (n : ℕ) → Short y → length (y ++ be64 n) ≤ 96
  unfolding be64
  raised_short y n h = omega (arith, length-append y (be64 n))

  memo_short : (t : Memo) (k : Dig) → length (memorandum D t k) ≤ 96
  memo_short t k = omega (arith, memorandum_32 D D32 t k)

  abbrev Brief : KindRow → Type 0
  Brief k = (s : Registers) (p : ℕ → List ℕ) → ((i : ℕ) → ShortAt k.carries i (p i))
      → length (answer D s (k.reads p)).lists ≤ 96

  abbrev AllBrief : List KindRow → Type 0
  AllBrief = Every Brief

  brief_row : (ks : List KindRow) (d : KindRow) (i : ℕ) → AllBrief ks → Brief d → Brief (get_or ks i d)
  brief_row [] d i h g = g
  brief_row (k ∷ ks) d zero h g = h.0
  brief_row (k ∷ ks) d (suc i) h g = brief_row ks d i h.1 g

  rows : AllBrief kinds
  unfolding kinds be64
  rows =
      (λ s p h. path_short s (p 0) (p 1) (sides_in (p 2)) (siblings_in (p 2)) (h 0) (h 1) (digests_short (count_in (p 2)) (drop 9 (p 2))))
      and (λ s p h. memo_short _ _)
      and (λ s p h. memo_short _ _)
      and (λ s p h. memo_short _ _)
      and (λ s p h. memo_short _ _)
      and (λ s p h. memo_short _ _)
      and (λ s p h. memo_short _ _)
      and (λ s p h. memo_short _ _)
      and (λ s p h. memo_short _ _)
      and (λ s p h. memo_short _ _)
      and (λ s p h. omega (arith, h 1))
      and (λ s p h. raised_short (p 5) _ (h 5))
      and (λ s p h. raised_short (p 4) _ (h 4))
      and (λ s p h. finding_short _ _ _ _)
      and (λ s p h. omega arith)
      and (λ s p h. omega arith)
      and tt

  -- no answer lists more than 96 bytes, whatever kind's row reads the parts
  pub lists_short : (k : ℕ) (s : Registers) (p : ℕ → List ℕ) → ((i : ℕ) → ShortAt (row_of k).carries i (p i))
      → length (answer D s ((row_of k).reads p)).lists ≤ 96
  lists_short k = brief_row kinds _ _ rows (λ s p h. omega arith)

  -- ── the reply's line ──

  module _ (s : Registers) (f : List ℕ) where
    said_short : (v : Verdict) → length (told_by D s (kind_of f) (request_of f) v).says ≤ 97
    unfolding request_of
    said_short (refused_by n fs) = omega arith
    said_short (all_passed fs) = omega (arith, lists_short (kind_of f) s _ (short_parts (row_of (kind_of f)).carries (drop 1 f)))

    line_short : (v : Verdict) → length (reply_line (told_by D s (kind_of f) (request_of f) v)) ≤ reply_room
    line_short v = by_test (eqb (told_by D s (kind_of f) (request_of f) v).refusal 15)
      where
        by_test : (b : Bool) → length (pick b [] (line_of (told_by D s (kind_of f) (request_of f) v).says)) ≤ reply_room
        by_test true = omega arith
        by_test false = omega (arith, said_short v, line_length (told_by D s (kind_of f) (request_of f) v).says)

  pub room : (s : Registers) (line : List ℕ) → SpaceOf195 D s line
  unfolding answer_to
  room s line =
      let f = bytes_of line in
      let e = (none_early D s (request_of f)).of_15 in
      record {
        too_small = λ space h. rw (lt-ltb space reply_room (omega arith)) refl;
        enough =
            λ space h.
            let cs : List Check = checks_of D s line space in
            let a : applies 15 cs ≡ false = rw (le-ltb space reply_room h, e) refl in
            let n = number_is D s (kind_of f) (request_of f) order [] cs in
            (λ z. not_15 cs a (sym n ∙ z) (first_given order cs));
        holds = λ space. line_short s f (judge order [] (checks_of D s line space));
      }
    where
      not_15 : (cs : List Check) → applies 15 cs ≡ false → first_of order cs ≡ 15
          → (Passed order cs × (first_of order cs ≡ 0)) ⊎ FirstToApply order cs (first_of order cs) → ⊥
      not_15 cs a z (inl p) = let w = sym z ∙ p.1 in omega arith
      not_15 cs a z (inr g) = true≢false (sym (subst (λ (n : ℕ). applies n cs ≡ true) z g.here) ∙ a)
