-- What a line enters in the book: an accepted line of kinds 01 to 0a the memorandum that its reply ends with, any other nothing.
use mathlib.Core.Path.{◌≡◌, refl, sym, ap, subst, ◌∙◌}
use mathlib.Core.Bool.{Bool, true, false}
use mathlib.Core.List.{List, [], ◌∷◌, ◌++◌, append-nil}
use Prim.Native.Nat.{ℕ, zero, suc, ◌+◌, ◌-◌, ◌<◌}
use native.Mathlib.Omega.{arith}
use borrow.Author.Tests.{le-leb, lt-leb, leb-true}
use lib.Dec.{leb}
use lib.ListN.{length, get_or, drop, length-append}
use lib.Seq.{drop_at}
use Rattle.seqs.specs.Choose.{both_true, ◌and◌}
use Rattle.hexadecimal.specs.Hex.{bytes_of}
use Rattle.paper.specs.Strings.{Dig, Memo, memorandum, fold_up}
use Rattle.paper.specs.Requests.{Request, sides_in, siblings_in, KindRow, kinds, kind_of, known, row_of, part, request_of}
use Rattle.paper.specs.Answers.{ListChange, Effect, issues, answer}
use Rattle.paper.specs.Module.{Told}
use Rattle.paper.proofs.Memoranda.{memorandum_32}
use Rattle.runs.specs.Run.{LineTurn, Issue, of_runs, meaning, World, issued_by, told_at, next, after}
use Rattle.runs.specs.Also.{last_of, LineEnters, BookGrows}
use Rattle.runs.proofs.Book.{entered_none}
use Rattle.runs.proofs.Lines.{asked, kind_in, Sorted, refusal, acceptance, sorted, accepted_known}

module _ (D : List ℕ → Dig) where
  -- ── which requests issue ──

  -- what a request's answer lists and does: the memorandum behind what is shown, or nothing that the book would take
  abbrev Issues : World → Bool → Request → Type 0
  Issues w true q =
      (t : Memo) × (c : ListChange) × (shown : List ℕ) × ((answer D w.registers q).effect ≡ issues t c)
      × ((answer D w.registers q).lists ≡ shown ++ memorandum D t w.registers.secret)
  Issues w false q = issued_by D w (answer D w.registers q).effect ≡ []

  module _ (w : World) where
    -- rows of the table from kind n on: they issue up to 0a
    abbrev RowsFrom : ℕ → List KindRow → Type 0
    RowsFrom n [] = Unit {0}
    RowsFrom n (k ∷ ks) = ((p : ℕ → List ℕ) → Issues w (leb n 0x0a) (k.reads p)) × RowsFrom (suc n) ks

    row_at_lem : (n : ℕ) (ks : List KindRow) (i : ℕ) (d : KindRow) → i < length ks → RowsFrom n ks
        → (p : ℕ → List ℕ) → Issues w (leb (n + i) 0x0a) ((get_or ks i d).reads p)
    row_at_lem n [] i d h r p = absurd (omega arith)
    row_at_lem n (k ∷ ks) zero d h r p =
        let e : n ≡ n + 0 = omega arith in
        subst (λ (m : ℕ). Issues w (leb m 0x0a) (k.reads p)) e (r.0 p)
    row_at_lem n (k ∷ ks) (suc i) d h r p =
        let e : suc n + i ≡ n + suc i = omega arith in
        subst (λ (m : ℕ). Issues w (leb m 0x0a) ((get_or ks i d).reads p)) e (row_at_lem (suc n) ks i d (omega arith) r.1 p)

    rows : RowsFrom 1 kinds
    unfolding kinds
    rows =
        (λ p. (_, _, fold_up D (p 0) (sides_in (p 2)) (siblings_in (p 2)) ++ fold_up D (p 1) (sides_in (p 2)) (siblings_in (p 2)), refl, refl))
        and (λ p. (_, _, [], refl, refl)) and (λ p. (_, _, [], refl, refl)) and (λ p. (_, _, [], refl, refl))
        and (λ p. (_, _, [], refl, refl)) and (λ p. (_, _, [], refl, refl)) and (λ p. (_, _, [], refl, refl))
        and (λ p. (_, _, [], refl, refl)) and (λ p. (_, _, [], refl, refl)) and (λ p. (_, _, [], refl, refl))
        and (λ p. refl) and (λ p. refl) and (λ p. refl) and (λ p. refl) and (λ p. refl) and (λ p. refl) and tt

    issues_so : (f : List ℕ) → known (kind_of f) ≡ true → Issues w (leb (kind_of f) 0x0a) (request_of f)
    unfolding known request_of
    issues_so f h =
        let b = both_true (leb 1 (kind_of f)) (leb (kind_of f) (length kinds)) h in
        let lo = leb-true 1 (kind_of f) b.0 in
        let hi = leb-true (kind_of f) (length kinds) b.1 in
        let e : 1 + (kind_of f - 1) ≡ kind_of f = omega arith in
        subst (λ (m : ℕ). Issues w (leb m 0x0a) (request_of f)) e
        (row_at_lem 1 kinds (kind_of f - 1) _ (omega arith) rows (part (row_of (kind_of f)).carries (drop 1 f)))

module _ (D : List ℕ → Dig) (D32 : (l : List ℕ) → length (D l) ≡ 32) where
  -- the last 32 bytes of a reply that ends with a memorandum
  ends_with : (b : ℕ) (shown m says : List ℕ) → length m ≡ 32 → says ≡ b ∷ (shown ++ m) → m ≡ last_of 32 says
  ends_with b shown m says h e =
      let n : length ((b ∷ shown) ++ m) - 32 ≡ length (b ∷ shown) = omega (arith, length-append (b ∷ shown) m) in
      sym (ap (last_of 32) e ∙ drop_at (b ∷ shown) m (length ((b ∷ shown) ++ m) - 32) (sym n))

  enters : (w : World) (t : LineTurn) → LineEnters D w t (next D of_runs w t).book
  enters w t = by_sort (sorted D w.registers t.line t.space)
    where
      f : List ℕ
      f = bytes_of t.line

      by_sort : Sorted D w.registers t.line t.space → LineEnters D w t (next D of_runs w t).book
      by_sort (refusal n fs z e r) =
          let same-book : (next D of_runs w t).book ≡ w.book = rw e (entered_none of_runs w.book) in
          record {
            issuing = λ h. absurd (z (sym (ap (λ (a : Told). a.refusal) e) ∙ h));
            other = λ h. same-book;
            refused = λ h. same-book;
          }
      by_sort (acceptance fs e j g n i) =
          let accepted : (told_at D w t).refusal ≡ 0 = ap (λ (a : Told). a.refusal) e in
          let so = issues_so D w f (accepted_known D w.registers t.line t.space accepted) in
          let entry : (next D of_runs w t).book ≡ w.book ++ issued_by D w (answer D w.registers (asked t)).effect =
          ap (λ (a : Told). w.book ++ issued_by D w a.effect) e in
          record {
            issuing = λ h l.
                let x = subst (λ (b : Bool). Issues D w b (asked t)) (le-leb (kind_of f) 0x0a l) so in (
                  record { memorandum = memorandum D x.0 w.registers.secret; does = meaning w.book x.1 },
                  ends_with (0x80 + kind_in t) x.2 _ (told_at D w t).says (memorandum_32 D D32 _ _)
                      (ap (λ (a : Told). a.says) e ∙ ap (λ (b : List ℕ). (0x80 + kind_in t) ∷ b) x.4),
                  entry ∙ ap (λ (u : Effect). w.book ++ issued_by D w u) x.3,
                );
            other = λ l.
                let x = subst (λ (b : Bool). Issues D w b (asked t)) (lt-leb (kind_of f) 0x0a l) so in
                entry ∙ ap (λ (b : List Issue). w.book ++ b) x ∙ append-nil w.book;
            refused = λ h. absurd (h accepted);
          }

  pub book_grows : BookGrows D
  book_grows k ts t = enters (after D k ts) t
