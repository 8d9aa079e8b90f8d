-- The reader's and the writer's refusals by their tests, and check 3 in numbers.
use mathlib.Core.Path.{◌≡◌, refl, sym, ap, ◌∙◌}
use mathlib.Core.Bool.{Bool, true, false}
use mathlib.Core.List.{List, [], ◌∷◌}
use Prim.Native.Nat.{ℕ, zero, suc, ◌+◌, ◌*◌, ◌≤◌, ◌<◌}
use native.Mathlib.Nat.{not-suc-le-zero, le_of_suc-le-suc}
use native.Mathlib.Omega.{arith}
use native.Mathlib.Decide.{ℕ_discrete, dec_lt}
use borrow.Author.Tests.{ne_eqb, leb-true}
use lib.Dec.{eqb, leb, ltb}
use lib.ListN.{length, get_or}
use Rattle.seqs.specs.Choose.{pick, both_true, either, opposite}
use Rattle.seqs.specs.Bytes.{number_at, number_at_lem}
use Rattle.hexadecimal.specs.Hex.{bytes_of}
use Rattle.paper.specs.Requests.{kinds, kind_of, known, fits}
use Rattle.paper.specs.declared.Kind.{Kind}
use Rattle.paper.specs.Numbers.{kind_number}
use Rattle.paper.specs.Refusals.{is_hex, refused_by, all_passed, judge, before_siblings}
use Rattle.paper.specs.Module.{refusal_of, frame_checks, is_writable, read_refusal, write_refusal}
use Rattle.paper.proofs.Frames as F
use Rattle.lines.specs.Work.{lengths, fitting, refusal_by}

-- ── refusals by their tests ──

-- the first of four tests that is true says the number
abbrev pub first_of : (a b c d : Bool) → ℕ
first_of a b c d = pick a 1 (pick b 2 (pick c 3 (pick d 15 0)))

by_tests : (a b c d : Bool)
    → refusal_of
    (pick (either a false) (refused_by 1 [])
    (pick (either b false) (refused_by 2 [])
    (pick (either c false) (refused_by 3 []) (pick (either d false) (refused_by 15 []) (all_passed [])))))
    ≡ first_of a b c d
by_tests true b c d = refl
by_tests false true c d = refl
by_tests false false true d = refl
by_tests false false false true = refl
by_tests false false false false = refl

pub read_by : (line : List ℕ) (space : ℕ) → let f = bytes_of line in
    read_refusal line space ≡ first_of (is_hex line).fails (opposite (known (kind_of f))) (opposite (fits f)) (ltb space (length f))
unfolding read_refusal
read_by line space =
    let f = bytes_of line in
    by_tests (is_hex line).fails (opposite (known (kind_of f))) (opposite (fits f)) (ltb space (length f))

pub write_by : (f : List ℕ) (space : ℕ) → write_refusal f space
    ≡ first_of (is_writable f).fails (opposite (known (kind_of f))) (opposite (fits f)) (ltb space (2 * length f + 1))
unfolding write_refusal
write_by f space = by_tests (is_writable f).fails (opposite (known (kind_of f))) (opposite (fits f)) (ltb space (2 * length f + 1))

-- a frame's own two checks
abbrev pub own : List ℕ → ℕ
own f = refusal_of (judge (2 ∷ 3 ∷ []) [] (frame_checks f))

frame_tests : (b c : Bool)
    → refusal_of (pick (either b false) (refused_by 2 []) (pick (either c false) (refused_by 3 []) (all_passed []))) ≡ pick b 2 (pick c 3 0)
frame_tests true c = refl
frame_tests false true = refl
frame_tests false false = refl

pub frame_by : (f : List ℕ) → own f ≡ pick (opposite (known (kind_of f))) 2 (pick (opposite (fits f)) 3 0)
frame_by f = frame_tests (opposite (known (kind_of f))) (opposite (fits f))

-- ── check 3 in numbers ──

pub known_range : (k : ℕ) → known k ≡ true → (1 ≤ k) × (k ≤ 16)
unfolding known kinds
known_range k h = let p = both_true (leb 1 k) (leb k 16) h in (leb-true 1 k p.0, leb-true k 16 p.1)

-- within a list it does not matter what stands past its end
inside : (l : List ℕ) (i a b : ℕ) → i < length l → get_or l i a ≡ get_or l i b
inside [] i a b h = absurd (not-suc-le-zero h)
inside (x ∷ l) zero a b h = refl
inside (x ∷ l) (suc i) a b h = inside l i a b (le_of_suc-le-suc h)

-- a path: where the length is right, sides lies in the frame; where it is not, nothing else matters
path_by : (f : List ℕ) → Dec (length f ≡ before_siblings + 32 * F.count_at f)
    → F.path_fits (length f) (F.count_at f) (F.sides_at f) ≡ fitting 1 (length f) (get_or f 65 0) (number_at f 66)
unfolding fitting
path_by f (yes e) = rw (number_at_lem f 66 (omega arith))
path_by f (no n) = rw (ne_eqb (length f) (before_siblings + 32 * F.count_at f) n)

fits_by_kind : (f : List ℕ) → Dec (1 < kind_of f) → 1 ≤ kind_of f → kind_of f ≤ 16
    → fits f ≡ fitting (kind_of f) (length f) (get_or f 65 0) (number_at f 66)
unfolding fitting kinds F.lengths
fits_by_kind f (yes h) l k =
    let t : eqb (kind_of f) 1 ≡ false = ne_eqb (kind_of f) 1 (λ e. omega arith) in
    F.fits_other f h ∙ ap (eqb (length f)) (inside lengths (kind_of f) 1 0 (omega arith)) ∙ rw t
fits_by_kind f (no n) l k =
    let e : kind_of f ≡ 1 = omega arith in
    F.fits_path f e ∙ path_by f (ℕ_discrete (length f) (before_siblings + 32 * F.count_at f))
    ∙ ap (λ (i : ℕ). fitting i (length f) (get_or f 65 0) (number_at f 66)) (sym e)

pub known_kind : (k : Kind) → known (kind_number k) ≡ true
unfolding known kinds
known_kind Kind.Path = refl
known_kind Kind.Witness = refl
known_kind Kind.Join = refl
known_kind Kind.Pair = refl
known_kind Kind.Raise = refl
known_kind Kind.Swap = refl
known_kind Kind.First = refl
known_kind Kind.Place = refl
known_kind Kind.Turn = refl
known_kind Kind.Chain = refl
known_kind Kind.Adopt = refl
known_kind Kind.Set = refl
known_kind Kind.Clear = refl
known_kind Kind.Ask = refl
known_kind Kind.AskNone = refl
known_kind Kind.Open = refl

own_by_known : (f : List ℕ) (t : Bool) → known (kind_of f) ≡ t → own f ≡ refusal_by (kind_of f) (length f) (get_or f 65 0) (number_at f 66)
unfolding refusal_by
own_by_known f false h = frame_by f ∙ rw h
own_by_known f true h =
    let p = known_range (kind_of f) h in
    frame_by f ∙ rw (fits_by_kind f (dec_lt 1 (kind_of f)) p.0 p.1)

-- a frame's own refusal, by its numbers
abbrev pub checked : List ℕ → ℕ
checked f = refusal_by (kind_of f) (length f) (get_or f 65 0) (number_at f 66)

pub own_by : (f : List ℕ) → checked f ≡ own f
own_by f = sym (own_by_known f (known (kind_of f)) refl)
