-- What any line comes to: it is refused, early and with no string formed or by a check of its request, or it is accepted, no
-- check of its request applying.
use mathlib.Core.Path.{◌≡◌, refl, sym, ap, subst, ◌∙◌}
use mathlib.Core.Bool.{Bool, true, false, true≢false}
use mathlib.Core.List.{List, [], ◌∷◌, Memᴰ}
use mathlib.Core.Logic.{◌⊎◌, inl, inr}
use Prim.Native.Nat.{ℕ}
use native.Mathlib.Omega.{arith}
use lib.Dec.{ltb}
use Rattle.seqs.specs.Bytes.{Bytes}
use Rattle.hexadecimal.specs.Hex.{bytes_of}
use Rattle.hexadecimal.proofs.Laws.{value_small}
use Rattle.paper.specs.declared.Registers.{Registers}
use Rattle.paper.specs.Strings.{Dig, Str}
use Rattle.paper.specs.Requests.{Request, kind_of, known, fits, request_of}
use Rattle.paper.specs.Refusals.{reply_room, is_hex, Check, needs, formed_at, Verdict, refused_by, all_passed, formed_by, judge}
use Rattle.paper.specs.Module.{Told, told_by, answer_to}
use Rattle.paper.proofs.Early.{late, numbered_late, none_early, read_is}
use Rattle.rings.specs.Meanings.{Within}
use Rattle.runs.specs.Run.{LineTurn}
use Rattle.runs.proofs.Accepted.{NoneApplies, none_applies, judge_passed, accepted_passed, number_formed}
use Rattle.runs.proofs.Widths.{Wide, wide}

-- two digits make a byte
line_bytes_lem : (l : List ℕ) → Bytes (bytes_of l)
line_bytes_lem [] = tt
line_bytes_lem (a ∷ []) = tt
line_bytes_lem (a ∷ b ∷ l) = (omega (arith, value_small a, value_small b), line_bytes_lem l)

is_passed : Verdict → Bool
is_passed (refused_by n fs) = false
is_passed (all_passed fs) = true

-- the request of a line, and its kind
abbrev pub asked : LineTurn → Request
asked t = request_of (bytes_of t.line)

abbrev pub kind_in : LineTurn → ℕ
kind_in t = kind_of (bytes_of t.line)

module _ (D : List ℕ → Dig) (s : Registers) (line : List ℕ) (space : ℕ) where
  abbrev f : List ℕ
  f = bytes_of line

  abbrev q : Request
  q = request_of f

  abbrev cs : List Check
  cs = needs D s q

  pub data Sorted : Type 0 where
    refusal : (n : ℕ) (fs : List Str) → (n ≡ 0 → ⊥) → answer_to D s line space ≡ told_by D s (kind_of f) q (refused_by n fs)
        → (fs ≡ []) ⊎ (Wide q × (judge late [] cs ≡ refused_by n fs)) → Sorted
    acceptance : (fs : List Str) → answer_to D s line space ≡ told_by D s (kind_of f) q (all_passed fs) → Wide q
        → judge late [] cs ≡ all_passed fs → NoneApplies cs → ((n : ℕ) → Within (formed_at n cs) fs) → Sorted

  -- ── a line that is read ──

  by_verdict : (v : Verdict) → judge late [] cs ≡ v → Wide q → answer_to D s line space ≡ told_by D s (kind_of f) q v → Sorted
  unfolding is_passed
  by_verdict (refused_by n fs) j h e = refusal n fs zero_not e (inr (h, j))
    where
      zero_not : n ≡ 0 → ⊥
      zero_not z =
          let p = accepted_passed D s (kind_of f) q late cs refl (ap (λ (v : Verdict). (told_by D s (kind_of f) q v).refusal) j ∙ z) in
          true≢false (ap is_passed (sym (judge_passed late [] cs p) ∙ j))
  by_verdict (all_passed fs) j h e =
      let p = accepted_passed D s (kind_of f) q late cs refl (ap (λ (v : Verdict). (told_by D s (kind_of f) q v).refusal) j) in
      let all = numbered_late D s q in
      acceptance fs e h j (none_applies late cs p all)
      (λ n x m.
      subst (Memᴰ x) (ap formed_by (sym (judge_passed late [] cs p) ∙ j)) (number_formed late cs all n x m))

  -- ── any line ──

  no_room : ltb space reply_room ≡ true → answer_to D s line space ≡ told_by D s (kind_of f) q (refused_by 15 [])
  unfolding answer_to
  no_room h = rw (h, (none_early D s q).of_15) refl

  no_digits : ltb space reply_room ≡ false → (is_hex line).fails ≡ true
      → answer_to D s line space ≡ told_by D s (kind_of f) q (refused_by 1 [])
  unfolding answer_to
  no_digits h i = let e = none_early D s q in rw (h, i, e.of_15, e.of_1) refl

  no_kind : ltb space reply_room ≡ false → (is_hex line).fails ≡ false → known (kind_of f) ≡ false
      → answer_to D s line space ≡ told_by D s (kind_of f) q (refused_by 2 [])
  unfolding answer_to
  no_kind h i j = let e = none_early D s q in rw (h, i, j, e.of_15, e.of_1, e.of_2) refl

  by_tests : (a b c d : Bool) → ltb space reply_room ≡ a → (is_hex line).fails ≡ b → known (kind_of f) ≡ c → fits f ≡ d → Sorted
  unfolding answer_to
  by_tests true b c d h i j k = refusal 15 [] (λ z. omega arith) (no_room h) (inl refl)
  by_tests false true c d h i j k = refusal 1 [] (λ z. omega arith) (no_digits h i) (inl refl)
  by_tests false false false d h i j k = refusal 2 [] (λ z. omega arith) (no_kind h i j) (inl refl)
  by_tests false false true false h i j k =
      refusal 3 [] (λ z. omega arith) (let e = none_early D s q in rw (h, i, j, k, e.of_15, e.of_1, e.of_2, e.of_3) refl)
      (inl refl)
  by_tests false false true true h i j k = by_verdict (judge late [] cs) refl (wide f (line_bytes_lem line) j k) (read_is D s line space h i j k)

  pub sorted : Sorted
  sorted = by_tests (ltb space reply_room) (is_hex line).fails (known (kind_of f)) (fits f) refl refl refl refl

  -- an accepted line's kind is in the table
  pub accepted_known : (answer_to D s line space).refusal ≡ 0 → known (kind_of f) ≡ true
  accepted_known z = go (ltb space reply_room) (is_hex line).fails (known (kind_of f)) refl refl refl
    where
      not_refused : (n : ℕ) → (n ≡ 0 → ⊥) → answer_to D s line space ≡ told_by D s (kind_of f) q (refused_by n [])
          → known (kind_of f) ≡ true
      not_refused n h e = absurd (h (sym (ap (λ (a : Told). a.refusal) e) ∙ z))

      go : (a b c : Bool) → ltb space reply_room ≡ a → (is_hex line).fails ≡ b → known (kind_of f) ≡ c → known (kind_of f) ≡ true
      go a b true h i j = j
      go true b false h i j = not_refused 15 (λ z. omega arith) (no_room h)
      go false true false h i j = not_refused 1 (λ z. omega arith) (no_digits h i)
      go false false false h i j = not_refused 2 (λ z. omega arith) (no_kind h i j)
