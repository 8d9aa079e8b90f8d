-- What a row of the table of kinds carries, written and read: a number, a digest, a record or a path takes as many bytes as the
-- table says whatever comes behind it, and reads back as what was written.
use mathlib.Core.Path.{◌≡◌, refl, sym}
use mathlib.Core.Bool.{true}
use mathlib.Core.List.{List, [], ◌∷◌, ◌++◌, append_assoc}
use Prim.Native.Nat.{ℕ, zero, suc, ◌+◌, ◌*◌, ◌^◌, ◌≤◌, ◌<◌}
use native.Mathlib.Nat.{lt_of_lt_of_le, div-eq_of_lt, pow-le-pow_right}
use native.Mathlib.Omega.{arith}
use borrow.Author.Tests.{le-leb}
use lib.ListN.{length, get_or, take, drop, length-append}
use lib.Seq.{take_at, drop_at}
use Rattle.seqs.specs.Choose.{Every}
use Rattle.seqs.specs.Bytes.{Bytes, be64, number_of, number_be64, be64_length, bytes_append, be64_bytes}
use Rattle.paper.specs.declared.Record.{Record}
use Rattle.paper.specs.declared.Values.{Values}
use Rattle.paper.specs.Strings.{Dig}
use Rattle.paper.specs.Requests.{Carried, a_number, a_digest, a_record, the_values, a_path, sides_in, digests_in, siblings_in, record_in, values_in, takes, takes_all, part, sound, sound_all, most_siblings}
use Rattle.runs.specs.Frames.{together, record_bytes, values_bytes, path_bytes}
use Rattle.runs.specs.Sizes.{InEightBytes, ValuesFit, RecordFits}
use Rattle.runs.proofs.Widths.{Is32}

-- a digest that a line can carry: 32 bytes
pub record IsDigest (d : Dig) : Type 0 where
  pub wide : Is32 d
  pub bytes : Bytes d

abbrev pub AllDigests : List Dig → Type 0
AllDigests = Every IsDigest

-- ── a carried thing, whatever comes behind it ──

pub record Shaped (c : Carried) (b : List ℕ) : Type 0 where
  pub bytes : Bytes b
  pub long : (rest : List ℕ) → takes c (b ++ rest) ≡ length b
  pub fair : (rest : List ℕ) → sound c (b ++ rest) ≡ true
  pub short : length b ≤ takes c (most_siblings ∷ [])

abbrev pub ShapedAll : List Carried → List (List ℕ) → Type 0
ShapedAll [] [] = Unit {0}
ShapedAll [] (p ∷ ps) = ⊥
ShapedAll (c ∷ cs) [] = ⊥
ShapedAll (c ∷ cs) (p ∷ ps) = Shaped c p × ShapedAll cs ps

front : (c : Carried) (b rest : List ℕ) → Shaped c b → (take (takes c (b ++ rest)) (b ++ rest) ≡ b)
    × (drop (takes c (b ++ rest)) (b ++ rest) ≡ rest)
front c b rest h = (take_at b rest _ (sym (h.long rest)), drop_at b rest _ (sym (h.long rest)))

-- the most that a row's things take, a path having at most 64 siblings
abbrev pub most : List Carried → ℕ
most [] = 0
most (c ∷ cs) = takes c (most_siblings ∷ []) + most cs

-- the things of a row, one behind the other
pub record ShapedRow (cs : List Carried) (b : List ℕ) : Type 0 where
  pub bytes : Bytes b
  pub long : takes_all cs b ≡ length b
  pub fair : sound_all cs b ≡ true
  pub short : length b ≤ most cs

pub shaped_row : (cs : List Carried) (ps : List (List ℕ)) → ShapedAll cs ps → ShapedRow cs (together ps)
shaped_row [] [] h = record { bytes = tt; long = refl; fair = refl; short = omega arith }
shaped_row [] (p ∷ ps) h = absurd h
shaped_row (c ∷ cs) [] h = absurd h
shaped_row (c ∷ cs) (p ∷ ps) h =
    let rest = together ps in
    let r = shaped_row cs ps h.1 in
    let past = (front c p rest h.0).1 in
    let n = length-append p rest in
    record {
      bytes = bytes_append p rest h.0.bytes r.bytes;
      long = rw past (omega (arith, h.0.long rest, r.long));
      fair = rw (h.0.fair rest, past) r.fair;
      short = omega (arith, h.0.short, r.short);
    }

pub part_at : (cs : List Carried) (ps : List (List ℕ)) (i : ℕ) → ShapedAll cs ps → part cs (together ps) i ≡ get_or ps i []
part_at [] [] i h = refl
part_at [] (p ∷ ps) i h = absurd h
part_at (c ∷ cs) [] i h = absurd h
part_at (c ∷ cs) (p ∷ ps) zero h = (front c p (together ps) h.0).0
part_at (c ∷ cs) (p ∷ ps) (suc i) h = rw (front c p (together ps) h.0).1 (part_at cs ps i h.1)

-- ── numbers, digests, records, paths ──

pub shaped_number : (n : ℕ) → Shaped a_number (be64 n)
shaped_number n =
    record {
      bytes = be64_bytes n;
      long = λ rest. sym (be64_length n);
      fair = λ rest. refl;
      short = omega (arith, be64_length n);
    }

pub shaped_digest : (d : Dig) → IsDigest d → Shaped a_digest d
shaped_digest d h =
    record { bytes = h.bytes; long = λ rest. sym h.wide; fair = λ rest. refl; short = omega (arith, h.wide) }

record_long : (r : Record) → length (record_bytes r) ≡ 32
record_long r =
    let a = r.revision.0 in
    let b = r.mass.0 in
    let c = r.offset.0 in
    let d = r.rigging.0 in
    simp (length-append, be64_length) (omega arith)

pub shaped_record : (r : Record) → Shaped a_record (record_bytes r)
shaped_record r =
    record {
      bytes =
          bytes_append (be64 _) _ (be64_bytes _)
          (bytes_append (be64 _) _ (be64_bytes _)
          (bytes_append (be64 _) _ (be64_bytes _) (bytes_append (be64 _) _ (be64_bytes _) tt)));
      long = λ rest. sym (record_long r);
      fair = λ rest. refl;
      short = omega (arith, record_long r);
    }

values_long : (v : Values) → length (values_bytes v) ≡ 24
values_long v =
    let a = v.mass.0 in
    let b = v.offset.0 in
    let c = v.rigging.0 in
    simp (length-append, be64_length) (omega arith)

pub shaped_values : (v : Values) → Shaped the_values (values_bytes v)
shaped_values v =
    record {
      bytes =
          bytes_append (be64 _) _ (be64_bytes _)
          (bytes_append (be64 _) _ (be64_bytes _) (bytes_append (be64 _) _ (be64_bytes _) tt));
      long = λ rest. sym (values_long v);
      fair = λ rest. refl;
      short = omega (arith, values_long v);
    }

together_long : (l : List Dig) → AllDigests l → length (together l) ≡ 32 * length l
together_long [] h = refl
together_long (d ∷ l) h = omega (arith, h.0.wide, together_long l h.1, length-append d (together l))

together_bytes : (l : List Dig) → AllDigests l → Bytes (together l)
together_bytes [] h = tt
together_bytes (d ∷ l) h = bytes_append d (together l) h.0.bytes (together_bytes l h.1)

-- sides with no bit at n or above are below 2 ^ 64
pub sides_small : (n sides : ℕ) → n ≤ most_siblings → sides < 2 ^ n → InEightBytes sides
sides_small n sides h k = lt_of_lt_of_le k (pow-le-pow_right (omega arith) h)

pub sides_back : (sides n : ℕ) (l rest : List ℕ) → InEightBytes sides → sides_in ((n ∷ (be64 sides ++ l)) ++ rest) ≡ sides
sides_back sides n l rest h =
    rw (append_assoc (be64 sides) l rest, take_at (be64 sides) (l ++ rest) 8 (be64_length sides)) (number_be64 sides h)

pub shaped_path : (sides : ℕ) (l : List Dig) → AllDigests l → length l ≤ most_siblings → sides < 2 ^ length l
    → Shaped a_path (path_bytes sides l)
shaped_path sides l h n k =
    let size : length (be64 sides ++ together l) ≡ 8 + 32 * length l =
    omega (arith, be64_length sides, together_long l h, length-append (be64 sides) (together l)) in
    record {
      bytes = (omega arith, bytes_append (be64 sides) (together l) (be64_bytes sides) (together_bytes l h));
      long = λ rest. omega arith;
      fair = λ rest.
          let e = sides_back sides (length l) (together l) rest (sides_small (length l) sides n k) in
          rw (le-leb (length l) most_siblings n, e, div-eq_of_lt k) refl;
      short = omega arith;
    }

digests_back : (l : List Dig) → AllDigests l → digests_in (length l) (together l) ≡ l
digests_back [] h = refl
digests_back (d ∷ l) h =
    rw (take_at d (together l) 32 h.0.wide, drop_at d (together l) 32 h.0.wide, digests_back l h.1) refl

pub siblings_back : (sides : ℕ) (l : List Dig) → AllDigests l → siblings_in (path_bytes sides l) ≡ l
siblings_back sides l h = rw (drop_at (be64 sides) (together l) 8 (be64_length sides)) (digests_back l h)

pub values_back : (v : Values) → ValuesFit v → values_in (values_bytes v) ≡ v
unfolding be64
values_back v h =
    let a : number_of (take 8 (values_bytes v)) ≡ v.mass.0 = number_be64 v.mass.0 h.0 in
    let b : number_of (take 8 (drop 8 (values_bytes v))) ≡ v.offset.0 = number_be64 v.offset.0 h.1 in
    let c : number_of (take 8 (drop 16 (values_bytes v))) ≡ v.rigging.0 = number_be64 v.rigging.0 h.2 in
    λ i. record { mass = record { 0 = a i }; offset = record { 0 = b i }; rigging = record { 0 = c i } }

pub record_back : (r : Record) → RecordFits r → record_in (record_bytes r) ≡ r
unfolding be64
record_back r h =
    let a : number_of (take 8 (record_bytes r)) ≡ r.revision.0 = number_be64 r.revision.0 h.0 in
    let b : number_of (take 8 (drop 8 (record_bytes r))) ≡ r.mass.0 = number_be64 r.mass.0 h.1 in
    let c : number_of (take 8 (drop 16 (record_bytes r))) ≡ r.offset.0 = number_be64 r.offset.0 h.2 in
    let d : number_of (take 8 (drop 24 (record_bytes r))) ≡ r.rigging.0 = number_be64 r.rigging.0 h.3 in
    λ i.
    record {
      revision = record { 0 = a i };
      mass = record { 0 = b i };
      offset = record { 0 = c i };
      rigging = record { 0 = d i };
    }
