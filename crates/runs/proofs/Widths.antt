-- A request read from a sound frame has digests of 32 bytes and numbers below 2 ^ 64.
use mathlib.Core.Path.{◌≡◌, sym, subst}
use mathlib.Core.Bool.{true}
use mathlib.Core.List.{List, [], ◌∷◌}
use Prim.Native.Nat.{ℕ, zero, suc, ◌+◌, ◌-◌, ◌*◌, ◌≤◌, ◌<◌}
use native.Mathlib.Omega.{arith}
use borrow.Author.Tests.{eqb-true, leb-true}
use lib.Dec.{leb}
use lib.ListN.{length, get_or, take, drop, length-drop}
use lib.Seq.{length-take-le, get_or-take}
use Rattle.seqs.specs.Choose.{both_true, ◌and◌, Every}
use Rattle.seqs.specs.Bytes.{Bytes, number_of, number_at_lem, bytes_take, bytes_drop, number_below}
use Rattle.paper.specs.Strings.{Dig}
use Rattle.rings.proofs.Paths.{AllWide}
use Rattle.paper.specs.Requests as Q
use Rattle.paper.specs.Requests.{Request, Carried, a_number, a_digest, a_record, the_values, a_path, count_in, digests_in, siblings_in, record_in, values_in, KindRow, kinds, kind_of, known, row_of, takes, takes_all, part, fits, request_of}
use Rattle.runs.specs.Sizes.{InEightBytes, ValuesFit, RecordFits}

-- ── widths ──

abbrev pub Is32 : Dig → Type 0
Is32 d = length d ≡ 32

abbrev pub Wide : Request → Type 0
Wide (Q.path x x' sides l) = Is32 x × Is32 x' × AllWide l
Wide (Q.witness x y m) = Is32 x × Is32 y
Wide (Q.join x y x' y' m1 z z' m2) = Is32 x × Is32 y × Is32 x' × Is32 y' × Is32 z × Is32 z'
Wide (Q.pair x1 y x1' y' m1 x2 z x2' z' m2) =
    Is32 x1 × Is32 y × Is32 x1' × Is32 y' × Is32 x2 × Is32 z × Is32 x2' × Is32 z'
Wide (Q.raise x1 x2 y x1' x2' y' m1 z z' m2) =
    Is32 x1 × Is32 x2 × Is32 y × Is32 x1' × Is32 x2' × Is32 y' × Is32 z × Is32 z'
Wide (Q.swap x1 x2 y y' m) = Is32 x1 × Is32 x2 × Is32 y × Is32 y'
Wide (Q.first A) = InEightBytes A
Wide (Q.place A A' B' ω y y' m) = InEightBytes A × InEightBytes A' × InEightBytes B' × Is32 ω × Is32 y × Is32 y'
Wide (Q.turn x y m) = Is32 x × Is32 y
Wide (Q.chain x y m1 z m2) = Is32 x × Is32 y × Is32 z
Wide (Q.adopt y y' m) = Is32 y × Is32 y'
Wide (Q.set_to A A' old v y y' m) = InEightBytes A × InEightBytes A' × RecordFits old × ValuesFit v × Is32 y × Is32 y'
Wide (Q.clear A A' old y y' m) = InEightBytes A × InEightBytes A' × RecordFits old × Is32 y × Is32 y'
Wide (Q.ask q A A' r y m) = InEightBytes q × InEightBytes A × InEightBytes A' × RecordFits r × Is32 y
Wide (Q.ask_none q) = InEightBytes q
Wide (Q.unlock k) = Is32 k

-- ── numbers of bytes ──

number_small : (l : List ℕ) → Bytes l → 8 ≤ length l → InEightBytes (number_of (take 8 l))
number_small l h n = subst InEightBytes (sym (number_at_lem l 0 n)) (number_below l 0 h)

-- ── what a row of the table carries ──

digests_wide : (n : ℕ) (l : List ℕ) → 32 * n ≤ length l → AllWide (digests_in n l)
digests_wide zero l h = tt
digests_wide (suc n) l h =
    (length-take-le 32 l (omega arith), digests_wide n (drop 32 l) (omega (arith, length-drop 32 l)))

-- a carried thing's bytes: a small number, a digest, a record of small numbers, siblings of 32 bytes
abbrev Sized : Carried → List ℕ → Type 0
Sized a_number b = InEightBytes (number_of b)
Sized a_digest b = Is32 b
Sized a_record b = RecordFits (record_in b)
Sized the_values b = ValuesFit (values_in b)
Sized a_path b = AllWide (siblings_in b)

-- any number within some of the bytes
number_within : (w : ℕ) (l : List ℕ) → Bytes l → w ≤ length l → (i : ℕ) → i + 8 ≤ w → InEightBytes (number_of (take 8 (drop i (take w l))))
number_within w l h n i j =
    number_small (drop i (take w l)) (bytes_drop i (take w l) (bytes_take w l h))
    (omega (arith, length-drop i (take w l), length-take-le w l n))

sized : (c : Carried) (l : List ℕ) → Bytes l → takes c l ≤ length l → Sized c (take (takes c l) l)
sized a_number l h n = number_small l h n
sized a_digest l h n = length-take-le 32 l n
sized a_record l h n =
    let at : (i : ℕ) → i + 8 ≤ 32 → InEightBytes (number_of (take 8 (drop i (take 32 l)))) = number_within 32 l h n in
    (at 0 (omega arith), at 8 (omega arith), at 16 (omega arith), at 24 (omega arith))
sized the_values l h n =
    let at : (i : ℕ) → i + 8 ≤ 24 → InEightBytes (number_of (take 8 (drop i (take 24 l)))) = number_within 24 l h n in
    (at 0 (omega arith), at 8 (omega arith), at 16 (omega arith))
sized a_path l h n =
    let w : ℕ = 9 + 32 * count_in l in
    let e : count_in (take w l) ≡ count_in l = get_or-take w l 0 0 (omega arith) in
    rw e (digests_wide (count_in l) (drop 9 (take w l)) (omega (arith, length-drop 9 (take w l), length-take-le w l n)))

-- the i-th of the things that a row carries
abbrev SizedAt : List Carried → ℕ → List ℕ → Type 0
SizedAt [] i l = Unit {0}
SizedAt (c ∷ cs) zero l = Sized c l
SizedAt (c ∷ cs) (suc i) l = SizedAt cs i l

sized_parts : (cs : List Carried) (l : List ℕ) → Bytes l → takes_all cs l ≤ length l → (i : ℕ) → SizedAt cs i (part cs l i)
sized_parts [] l h n i = tt
sized_parts (c ∷ cs) l h n zero = sized c l h (omega arith)
sized_parts (c ∷ cs) l h n (suc i) =
    sized_parts cs (drop (takes c l) l) (bytes_drop (takes c l) l h) (omega (arith, length-drop (takes c l) l)) i

-- ── every row of the table ──

abbrev WideRow : KindRow → Type 0
WideRow k = (p : ℕ → List ℕ) → ((i : ℕ) → SizedAt k.carries i (p i)) → Wide (k.reads p)

abbrev WideRows : List KindRow → Type 0
WideRows = Every WideRow

wide_row : (ks : List KindRow) (i : ℕ) (d : KindRow) → i < length ks → WideRows ks → WideRow (get_or ks i d)
wide_row [] i d n h = absurd (omega arith)
wide_row (k ∷ ks) zero d n h = h.0
wide_row (k ∷ ks) (suc i) d n h = wide_row ks i d (omega arith) h.1

rows : WideRows kinds
unfolding kinds
rows =
    (λ p h. (h 0, h 1, h 2))
    and (λ p h. (h 0, h 1))
    and (λ p h. (h 0, h 1, h 2, h 3, h 5, h 6))
    and (λ p h. (h 0, h 1, h 2, h 3, h 5, h 6, h 7, h 8))
    and (λ p h. (h 0, h 1, h 2, h 3, h 4, h 5, h 7, h 8))
    and (λ p h. (h 0, h 1, h 2, h 3))
    and (λ p h. h 0)
    and (λ p h. (h 0, h 1, h 2, h 3, h 4, h 5))
    and (λ p h. (h 0, h 1))
    and (λ p h. (h 0, h 1, h 3))
    and (λ p h. (h 0, h 1))
    and (λ p h. (h 0, h 1, h 2, h 3, h 4, h 5))
    and (λ p h. (h 0, h 1, h 2, h 3, h 4))
    and (λ p h. (h 0, h 1, h 2, h 3, h 4))
    and (λ p h. h 0)
    and (λ p h. h 0)
    and tt

-- ── a sound frame ──

pub wide : (f : List ℕ) → Bytes f → known (kind_of f) ≡ true → fits f ≡ true → Wide (request_of f)
unfolding known fits request_of
wide f h k n =
    let row : KindRow = row_of (kind_of f) in
    let known_by_lem = both_true (leb 1 (kind_of f)) (leb (kind_of f) (length kinds)) k in
    let lo = leb-true 1 (kind_of f) known_by_lem.0 in
    let hi = leb-true (kind_of f) (length kinds) known_by_lem.1 in
    let long = eqb-true (length f) (1 + takes_all row.carries (drop 1 f)) (both_true _ _ n).0 in
    wide_row kinds (kind_of f - 1) _ (omega arith) rows _
    (sized_parts row.carries (drop 1 f) (bytes_drop 1 f h) (omega (arith, length-drop 1 f)))
