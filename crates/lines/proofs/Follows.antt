-- The statements of `specs/Laws`: both answers are chosen by one number, the first of the order that applies, or 0.
use mathlib.Core.Path.{◌≡◌, refl, sym, ap, ◌∙◌}
use mathlib.Core.Bool.{true, true≢false}
use mathlib.Core.List.{List, [], ◌∷◌, ◌++◌}
use mathlib.Core.Logic.{◌⊎◌, inl, inr}
use Prim.Native.Nat.{ℕ, ◌+◌, ◌*◌}
use borrow.Author.Tests.{eq-eqb, ne_eqb}
use lib.Dec.{eqb}
use lib.ListN.{length}
use Rattle.seqs.specs.Choose.{pick, either_yes}
use Rattle.hexadecimal.specs.Hex.{bytes_of}
use Rattle.paper.specs.Requests.{kind_of}
use Rattle.paper.specs.Refusals.{Check, Passed, FirstToApply}
use Rattle.paper.specs.Module.{line_order, read_checks, write_checks, read_refusal, write_refusal}
use Rattle.paper.proofs.Early.{among}
use Rattle.paper.proofs.Verdicts.{first_of, refusal_first, first_given, first_only_lem, passed_none}
use Rattle.lines.specs.Reading.{Frame, Refused, Line, Rejected, read_told, read_of, wrote_told, wrote_of}
use Rattle.lines.specs.Laws.{FirstOfFour, ReadIsFirst, WriteIsFirst}

found : (n : ℕ) (before behind : List ℕ) → among n (before ++ (n ∷ behind)) ≡ true
found n [] behind = rw (eq-eqb n n refl)
found n (i ∷ l) behind = rw (found n l behind) (either_yes (eqb i n))

-- the first of some numbers that applies is among them
pub among_them : (numbers : List ℕ) (cs : List Check) (n : ℕ) → FirstToApply numbers cs n → among n numbers ≡ true
among_them numbers cs n f = ap (among n) f.in_order ∙ found n f.before f.behind

-- 0 is none of these
not_zero_lem : (cs : List Check) (n : ℕ) → FirstToApply line_order cs n → n ≡ 0 → ⊥
not_zero_lem cs n f e = true≢false (sym (among_them line_order cs n f) ∙ ap (λ (m : ℕ). among m line_order) e)

-- an answer by the number: the accepting one at 0, and else the refusal by that number
module _ {A : Type 0} (accepts : A) (refuses : ℕ → A) (cs : List Check) where
  abbrev chosen : ℕ → A
  chosen n = pick (eqb n 0) accepts (refuses n)

  by_first : (n : ℕ) → FirstToApply line_order cs n → chosen n ≡ refuses n
  by_first n f = rw (ne_eqb n 0 (not_zero_lem cs n f)) refl

  first_by : (r : A) → r ≡ chosen (first_of line_order cs) → FirstOfFour accepts refuses cs r
  first_by r e =
      record {
        given = either_way (first_given line_order cs);
        refused_when = λ n f. e ∙ ap chosen (first_only_lem line_order cs n f) ∙ by_first n f;
        accepted_when = λ p. e ∙ ap chosen (passed_none line_order cs p);
      }
    where
      either_way : (Passed line_order cs × (first_of line_order cs ≡ 0)) ⊎ FirstToApply line_order cs (first_of line_order cs)
          → (Passed line_order cs × (r ≡ accepts)) ⊎ ((n : ℕ) × FirstToApply line_order cs n × (r ≡ refuses n))
      either_way (inl p) = inl (p.0, e ∙ ap chosen p.1)
      either_way (inr f) = inr (first_of line_order cs, f, e ∙ by_first (first_of line_order cs) f)

read_chosen : (line : List ℕ) (space : ℕ) → read_of line space
    ≡ chosen (Frame (kind_of (bytes_of line)) (length (bytes_of line))) (λ n. Refused n) (read_checks line space)
    (first_of line_order (read_checks line space))
unfolding read_of read_refusal
read_chosen line space =
    ap (chosen (Frame (kind_of (bytes_of line)) (length (bytes_of line))) (λ n. Refused n) (read_checks line space))
    (refusal_first line_order [] (read_checks line space))

pub read_is_first : ReadIsFirst
read_is_first line space after r p =
    first_by (Frame (kind_of (bytes_of line)) (length (bytes_of line))) (λ n. Refused n) (read_checks line (length space)) (read_told r)
    (p.returned ∙ read_chosen line (length space))

write_chosen : (f : List ℕ) (space : ℕ) → wrote_of f space
    ≡ chosen (Line (2 * length f + 1)) (λ n. Rejected n) (write_checks f space) (first_of line_order (write_checks f space))
unfolding wrote_of write_refusal
write_chosen f space =
    ap (chosen (Line (2 * length f + 1)) (λ n. Rejected n) (write_checks f space))
    (refusal_first line_order [] (write_checks f space))

pub write_is_first : WriteIsFirst
write_is_first f space after r p =
    first_by (Line (2 * length f + 1)) (λ n. Rejected n) (write_checks f (length space)) (wrote_told r)
    (p.returned ∙ write_chosen f (length space))
