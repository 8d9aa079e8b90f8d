-- What a frame has to be, in numbers: of a path by its n and sides, of every other kind by its length alone.
use mathlib.Core.Path.{◌≡◌, refl, sym, ap, ap₂, ◌∙◌}
use mathlib.Core.Bool.{Bool, true, false}
use mathlib.Core.List.{List, [], ◌∷◌}
use Prim.Native.Nat.{ℕ, zero, suc, ◌+◌, ◌-◌, ◌*◌, ◌/◌, ◌^◌, ◌<◌}
use native.Mathlib.Omega.{arith}
use lib.Dec.{eqb, leb}
use lib.ListN.{length, get_or, take, drop}
use lib.Seq.{get_or-drop, drop-drop}
use Rattle.seqs.specs.Choose.{both, both_true, both_right}
use Rattle.seqs.specs.Bytes.{number_of}
use Rattle.paper.specs.Requests.{Carried, a_number, a_digest, a_record, the_values, a_path, KindRow, unlock, kinds, kind_of, row_of, takes_all, sound_all, fits, most_siblings}
use Rattle.paper.specs.Refusals.{before_siblings}

-- ── a path ──

-- n and sides of a path's frame, where they lie
abbrev pub count_at : List ℕ → ℕ
count_at f = get_or f 65 0

abbrev pub sides_at : List ℕ → ℕ
sides_at f = number_of (take 8 (drop 66 f))

abbrev pub path_fits : (long n sides : ℕ) → Bool
path_fits long n sides = both (eqb long (before_siblings + 32 * n)) (both (leb n most_siblings) (eqb (sides / 2 ^ n) 0))

module _ (f : List ℕ) where
  behind : List ℕ
  behind = drop 32 (drop 32 (drop 1 f))

  count_there : get_or behind 0 0 ≡ count_at f
  unfolding behind
  count_there = get_or-drop 32 (drop 32 (drop 1 f)) 0 0 ∙ get_or-drop 32 (drop 1 f) 32 0 ∙ get_or-drop 1 f 64 0

  sides_there : drop 1 behind ≡ drop 66 f
  unfolding behind
  sides_there = drop-drop 1 32 (drop 32 (drop 1 f)) ∙ drop-drop 33 32 (drop 1 f) ∙ drop-drop 65 1 f

  abbrev at : ℕ → Bool
  at k = both (eqb (length f) (1 + takes_all (row_of k).carries (drop 1 f))) (sound_all (row_of k).carries (drop 1 f))

  glue : (long n sides c : ℕ) → c ≡ before_siblings + 32 * n
      → both (eqb long c) (both (both (leb n most_siblings) (eqb (sides / 2 ^ n) 0)) true) ≡ path_fits long n sides
  glue long n sides c e = rw (e, both_right)

  pub fits_path : kind_of f ≡ 1 → fits f ≡ path_fits (length f) (count_at f) (sides_at f)
  unfolding fits kinds behind
  fits_path e =
      ap at e ∙ glue (length f) (get_or behind 0 0) (number_of (take 8 (drop 1 behind))) _ (omega arith)
      ∙ (λ i. path_fits (length f) (count_there i) (number_of (take 8 (sides_there i))))

-- ── the other kinds ──

abbrev no_path : List Carried → Bool
no_path [] = true
no_path (a_number ∷ l) = no_path l
no_path (a_digest ∷ l) = no_path l
no_path (a_record ∷ l) = no_path l
no_path (the_values ∷ l) = no_path l
no_path (a_path ∷ l) = false

-- without a path the length is the same whatever the bytes are, and nothing else is asked
fixed : (cs : List Carried) (l : List ℕ) → no_path cs ≡ true → (takes_all cs l ≡ takes_all cs []) × (sound_all cs l ≡ true)
fixed [] l h = (refl, refl)
fixed (a_number ∷ cs) l h = let a = fixed cs (drop 8 l) h in let b = fixed cs (drop 8 []) h in (cc, a.1)
fixed (a_digest ∷ cs) l h = let a = fixed cs (drop 32 l) h in let b = fixed cs (drop 32 []) h in (cc, a.1)
fixed (a_record ∷ cs) l h = let a = fixed cs (drop 32 l) h in let b = fixed cs (drop 32 []) h in (cc, a.1)
fixed (the_values ∷ cs) l h = let a = fixed cs (drop 24 l) h in let b = fixed cs (drop 24 []) h in (cc, a.1)
fixed (a_path ∷ cs) l h = (cc, cc)

-- the length of each kind's frame, by the kind; of a path the shortest
abbrev lengths_of : List KindRow → List ℕ
lengths_of [] = []
lengths_of (k ∷ l) = (1 + takes_all k.carries []) ∷ lengths_of l

unfoldable pub lengths : List ℕ
lengths = 0 ∷ lengths_of kinds

abbrev no_paths : List KindRow → Bool
no_paths [] = true
no_paths (k ∷ l) = both (no_path k.carries) (no_paths l)

abbrev none_such : KindRow
none_such = record { carries = []; reads = λ p. unlock [] }

row : (ks : List KindRow) (i : ℕ) → no_paths ks ≡ true
    → (no_path (get_or ks i none_such).carries ≡ true) × (1 + takes_all (get_or ks i none_such).carries [] ≡ get_or (lengths_of ks) i 1)
row [] i h = (refl, refl)
row (k ∷ ks) zero h = ((both_true (no_path k.carries) (no_paths ks) h).0, refl)
row (k ∷ ks) (suc i) h = row ks i (both_true (no_path k.carries) (no_paths ks) h).1

-- kinds above 01
pub fits_other : (f : List ℕ) → 1 < kind_of f → fits f ≡ eqb (length f) (get_or lengths (kind_of f) 1)
unfolding fits kinds lengths
fits_other f h =
    let i : ℕ = kind_of f - 2 in
    let e : kind_of f ≡ suc (suc i) = omega arith in
    let e1 : kind_of f - 1 ≡ suc i = omega arith in
    let cs : List Carried = (get_or kinds (suc i) none_such).carries in
    let r = row (drop 1 kinds) i refl in
    let x = fixed cs (drop 1 f) r.0 in
    ap (λ (j : ℕ). both (eqb (length f) (1 + takes_all (get_or kinds j none_such).carries (drop 1 f)))
    (sound_all (get_or kinds j none_such).carries (drop 1 f))) e1
    ∙ ap₂ (λ (m : ℕ) (s : Bool). both (eqb (length f) (1 + m)) s) x.0 x.1 ∙ both_right (eqb (length f) (1 + takes_all cs []))
    ∙ ap (eqb (length f)) (r.1 ∙ ap (λ (k : ℕ). get_or lengths k 1) (sym e))
