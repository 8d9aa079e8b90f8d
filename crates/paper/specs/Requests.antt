-- The table of kinds (docs/PROTOCOL.md, 5.1), what each carries, and a frame read as a request.
use Rattle.std.specs.Prelude.{Bool, true, List, [], ◌∷◌, ℕ, zero, suc, ◌+◌, ◌-◌, ◌*◌, ◌/◌, ◌^◌, eqb, leb, length, get_or, take, drop}
use Rattle.seqs.specs.Choose.{both}
use Rattle.seqs.specs.Bytes.{number_of}
use Rattle.paper.specs.declared.Record.{Record}
use Rattle.paper.specs.declared.Values.{Values}
use Rattle.paper.specs.Strings.{Dig}

-- ── the column "kind": a request of each ──
pub data Request : Type 0 where
  path : (x x' : Dig) (sides : ℕ) (siblings : List Dig) → Request
  witness : (x y m : Dig) → Request
  join : (x y x' y' m1 z z' m2 : Dig) → Request
  pair : (x1 y x1' y' m1 x2 z x2' z' m2 : Dig) → Request
  raise : (x1 x2 y x1' x2' y' m1 z z' m2 : Dig) → Request
  swap : (x1 x2 y y' m : Dig) → Request
  first : (A : ℕ) → Request
  place : (A A' B' : ℕ) (ω y y' m : Dig) → Request
  turn : (x y m : Dig) → Request
  chain : (x y m1 z m2 : Dig) → Request
  adopt : (y y' m : Dig) → Request
  set_to : (A A' : ℕ) (old : Record) (v : Values) (y y' m : Dig) → Request
  clear : (A A' : ℕ) (old : Record) (y y' m : Dig) → Request
  ask : (q A A' : ℕ) (r : Record) (y m : Dig) → Request
  ask_none : (q : ℕ) → Request
  unlock : (secret : Dig) → Request

-- ── the column "carries" ──

-- what a frame carries behind its kind: a number, a digest, a record, a set's values, or a path's n, sides and siblings
pub data Carried : Type 0 where
  a_number : Carried
  a_digest : Carried
  a_record : Carried
  the_values : Carried
  a_path : Carried

-- so many digests
abbrev digests : ℕ → List Carried
digests zero = []
digests (suc n) = a_digest ∷ digests n

-- a path's n, its sides and its siblings, up to 64 of them, the lowest first (§5.2.1)
abbrev pub most_siblings : ℕ
most_siblings = 64

abbrev pub count_in : List ℕ → ℕ
count_in l = get_or l 0 0

abbrev pub sides_in : List ℕ → ℕ
sides_in l = number_of (take 8 (drop 1 l))

abbrev pub digests_in : (n : ℕ) → List ℕ → List Dig
digests_in zero l = []
digests_in (suc n) l = take 32 l ∷ digests_in n (drop 32 l)

abbrev pub siblings_in : List ℕ → List Dig
siblings_in l = digests_in (count_in l) (drop 9 l)

abbrev pub record_in : List ℕ → Record
record_in l =
    record {
      revision = record { 0 = number_of (take 8 l) };
      mass = record { 0 = number_of (take 8 (drop 8 l)) };
      offset = record { 0 = number_of (take 8 (drop 16 l)) };
      rigging = record { 0 = number_of (take 8 (drop 24 l)) };
    }

-- the mass, offset and rigging code that a set carries
abbrev pub values_in : List ℕ → Values
values_in l =
    record {
      mass = record { 0 = number_of (take 8 l) };
      offset = record { 0 = number_of (take 8 (drop 8 l)) };
      rigging = record { 0 = number_of (take 8 (drop 16 l)) };
    }

-- a row: what the kind carries, and the request that its parts make, part i being the i-th thing carried
pub record KindRow : Type 0 where
  pub carries : List Carried
  pub reads : (ℕ → List ℕ) → Request

-- the table, from kind 01 on: each row names its parts in their order
unfoldable pub kinds : List KindRow
kinds =
    -- §5.1.1, 01 path: x, x', n (1 byte), sides (8), n siblings
    record {
      carries = a_digest ∷ a_digest ∷ a_path ∷ [];
      reads =
          λ p.
          let x = p 0 in let x' = p 1 in let way = p 2 in
          path x x' (sides_in way) (siblings_in way);
    }
    -- §5.1.2, 02 witness: x, y, m
    ∷ record { carries = digests 3; reads = λ p. let x = p 0 in let y = p 1 in let m = p 2 in witness x y m }
    -- §5.1.3, 03 join: x, y, x', y', m1, z, z', m2
    ∷ record {
      carries = digests 8;
      reads =
          λ p.
          let x = p 0 in let y = p 1 in let x' = p 2 in let y' = p 3 in let m1 = p 4 in let z = p 5 in let z' = p 6 in
          let m2 = p 7 in
          join x y x' y' m1 z z' m2;
    }
    -- §5.1.4, 04 pair: x1, y, x1', y', m1, x2, z, x2', z', m2
    ∷ record {
      carries = digests 10;
      reads =
          λ p.
          let x1 = p 0 in let y = p 1 in let x1' = p 2 in let y' = p 3 in let m1 = p 4 in let x2 = p 5 in let z = p 6 in
          let x2' = p 7 in let z' = p 8 in let m2 = p 9 in
          pair x1 y x1' y' m1 x2 z x2' z' m2;
    }
    -- §5.1.5, 05 raise: x1, x2, y, x1', x2', y', m1, z, z', m2
    ∷ record {
      carries = digests 10;
      reads =
          λ p.
          let x1 = p 0 in let x2 = p 1 in let y = p 2 in let x1' = p 3 in let x2' = p 4 in let y' = p 5 in
          let m1 = p 6 in let z = p 7 in let z' = p 8 in let m2 = p 9 in
          raise x1 x2 y x1' x2' y' m1 z z' m2;
    }
    -- §5.1.6, 06 swap: x1, x2, y, y', m
    ∷ record {
      carries = digests 5;
      reads =
          λ p.
          let x1 = p 0 in let x2 = p 1 in let y = p 2 in let y' = p 3 in let m = p 4 in
          swap x1 x2 y y' m;
    }
    -- §5.1.7, 07 first: A
    ∷ record { carries = a_number ∷ []; reads = λ p. let A = number_of (p 0) in first A }
    -- §5.1.8, 08 place: A, A', B', ω, y, y', m
    ∷ record {
      carries = a_number ∷ a_number ∷ a_number ∷ digests 4;
      reads =
          λ p.
          let A = number_of (p 0) in let A' = number_of (p 1) in let B' = number_of (p 2) in let ω = p 3 in let y = p 4 in
          let y' = p 5 in let m = p 6 in
          place A A' B' ω y y' m;
    }
    -- §5.1.9, 09 turn: x, y, m
    ∷ record { carries = digests 3; reads = λ p. let x = p 0 in let y = p 1 in let m = p 2 in turn x y m }
    -- §5.1.10, 0a chain: x, y, m1, z, m2
    ∷ record {
      carries = digests 5;
      reads =
          λ p.
          let x = p 0 in let y = p 1 in let m1 = p 2 in let z = p 3 in let m2 = p 4 in
          chain x y m1 z m2;
    }
    -- §5.1.11, 0b adopt: y, y', m
    ∷ record { carries = digests 3; reads = λ p. let y = p 0 in let y' = p 1 in let m = p 2 in adopt y y' m }
    -- §5.1.12, 0c set: A, A', old record, v2, v3, v4, y, y', m
    ∷ record {
      carries = a_number ∷ a_number ∷ a_record ∷ the_values ∷ digests 3;
      reads =
          λ p.
          let A = number_of (p 0) in let A' = number_of (p 1) in let old = p 2 in let v = p 3 in let y = p 4 in
          let y' = p 5 in let m = p 6 in
          set_to A A' (record_in old) (values_in v) y y' m;
    }
    -- §5.1.13, 0d clear: A, A', old record, y, y', m
    ∷ record {
      carries = a_number ∷ a_number ∷ a_record ∷ digests 3;
      reads =
          λ p.
          let A = number_of (p 0) in let A' = number_of (p 1) in let old = p 2 in let y = p 3 in let y' = p 4 in
          let m = p 5 in
          clear A A' (record_in old) y y' m;
    }
    -- §5.1.14, 0e ask: q, A, A', record, y, m
    ∷ record {
      carries = a_number ∷ a_number ∷ a_number ∷ a_record ∷ digests 2;
      reads =
          λ p.
          let q = number_of (p 0) in let A = number_of (p 1) in let A' = number_of (p 2) in let r = p 3 in let y = p 4 in
          let m = p 5 in
          ask q A A' (record_in r) y m;
    }
    -- §5.1.15, 0f ask of none: q
    ∷ record { carries = a_number ∷ []; reads = λ p. let q = number_of (p 0) in ask_none q }
    -- §5.1.16, 10 open: secret
    ∷ record { carries = a_digest ∷ []; reads = λ p. let secret = p 0 in unlock secret }
    ∷ []

-- ── a frame ──

-- §4.1.1: a frame begins with its kind
abbrev pub kind_of : List ℕ → ℕ
kind_of f = get_or f 0 0

-- the kind is in the table
unfoldable pub known : ℕ → Bool
known k = both (leb 1 k) (leb k (length kinds))

-- a kind that is not in the table has no row; what stands here for it (for kind 0, the row of 01) decides nothing, since 2
-- comes first
abbrev pub row_of : ℕ → KindRow
row_of k = get_or kinds (k - 1) (record { carries = []; reads = λ p. unlock [] })

-- how many of the bytes l a carried thing takes, those of a path by its n
abbrev pub takes : Carried → List ℕ → ℕ
takes a_number l = 8
takes a_digest l = 32
takes a_record l = 32
takes the_values l = 24
takes a_path l = 9 + 32 * count_in l

abbrev pub takes_all : List Carried → List ℕ → ℕ
takes_all [] l = 0
takes_all (c ∷ cs) l = takes c l + takes_all cs (drop (takes c l) l)

-- the bytes of the i-th thing carried
abbrev pub part : List Carried → List ℕ → ℕ → List ℕ
part [] l i = []
part (c ∷ cs) l zero = take (takes c l) l
part (c ∷ cs) l (suc i) = part cs (drop (takes c l) l) i

-- §6.2.3, §5.2.3: a path has at most 64 siblings, and no bit of its sides from n up
abbrev pub sound : Carried → List ℕ → Bool
sound a_number l = true
sound a_digest l = true
sound a_record l = true
sound the_values l = true
sound a_path l = both (leb (count_in l) most_siblings) (eqb (sides_in l / 2 ^ count_in l) 0)

abbrev pub sound_all : List Carried → List ℕ → Bool
sound_all [] l = true
sound_all (c ∷ cs) l = both (sound c l) (sound_all cs (drop (takes c l) l))

-- a frame has its kind's length and a sound path
unfoldable pub fits : List ℕ → Bool
fits f =
    let carried = (row_of (kind_of f)).carries in
    both (eqb (length f) (1 + takes_all carried (drop 1 f))) (sound_all carried (drop 1 f))

-- the request that a frame is
unfoldable pub request_of : List ℕ → Request
request_of f = let row = row_of (kind_of f) in row.reads (part row.carries (drop 1 f))
