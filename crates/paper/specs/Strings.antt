-- Strings and digests (docs/PROTOCOL.md, section 3). All of it for any digest D of a string's bytes.
use Rattle.std.specs.Prelude.{Bool, ◌≡◌, List, [], ◌∷◌, ◌++◌, ℕ, ◌+◌, ◌/◌, ◌%◌, ◌^◌, ◌<◌, eqb, ltb, length, replicate}
use Rattle.seqs.specs.Choose.{pick, both, either, opposite, Every}
use Rattle.seqs.specs.Bytes.{be64, all_zero}
use Rattle.sha256.specs.Padding.{blocks}
use Rattle.paper.specs.declared.Record.{Record}

-- a digest as its bytes; the digest 0 (§3.1.2)
abbrev pub Dig : Type 0
Dig = List ℕ

abbrev pub nought : Dig
nought = replicate 32 0

-- ── the table of strings ──

-- What a memorandum says (§3.6.2 to §3.6.5). U1: y stands above x, and with x' there it is y'. V1: y stands above x. U2: as U1, of
-- two separate places. EI: two roots stand for rings equally well made. What each means of a list is in `rings`.
pub data Memo : Type 0 where
  u1 : (x y x' y' : Dig) → Memo
  v1 : (x y : Dig) → Memo
  u2 : (x1 x2 y x1' x2' y' : Dig) → Memo
  ei : (y y' : Dig) → Memo

-- A string: the table's rows (§3.2.1 to §3.2.7). A memorandum's string is what it says, and the secret (§3.6.1).
pub data Str : Type 0 where
  leaf : (A A' : ℕ) (ω : Dig) → Str
  node : (u v : Dig) → Str
  entry : (r : Record) → Str
  memo_string : (m : Memo) (secret : Dig) → Str

-- the four numbers of a record (§3.4.1)
abbrev pub numbers : Record → List ℕ
numbers r = r.revision.0 ∷ r.mass.0 ∷ r.offset.0 ∷ r.rigging.0 ∷ []

-- what a memorandum says: its tag and its digests
abbrev pub memo_tag : Memo → ℕ
memo_tag (u1 x y x' y') = 0x04
memo_tag (v1 x y) = 0x05
memo_tag (u2 x1 x2 y x1' x2' y') = 0x06
memo_tag (ei y y') = 0x07

abbrev pub memo_digests : Memo → List Dig
memo_digests (u1 x y x' y') = x ∷ y ∷ x' ∷ y' ∷ []
memo_digests (v1 x y) = x ∷ y ∷ []
memo_digests (u2 x1 x2 y x1' x2' y') = x1 ∷ x2 ∷ y ∷ x1' ∷ x2' ∷ y' ∷ []
memo_digests (ei y y') = y ∷ y' ∷ []

-- §3.1.3: a tag byte and fields
abbrev pub tag_of : Str → ℕ
tag_of (leaf A A' ω) = 0x01
tag_of (node u v) = 0x02
tag_of (entry r) = 0x03
tag_of (memo_string m k) = memo_tag m

-- a field is a number or a digest
pub data Field : Type 0 where
  number_field : ℕ → Field
  digest_field : Dig → Field
  deriving Discrete as Field-discrete

abbrev pub nums : List ℕ → List Field
nums [] = []
nums (n ∷ l) = number_field n ∷ nums l

abbrev pub digs : List Dig → List Field
digs [] = []
digs (d ∷ l) = digest_field d ∷ digs l

abbrev pub fields_of : Str → List Field
fields_of (leaf A A' ω) = number_field A ∷ number_field A' ∷ digest_field ω ∷ []
fields_of (node u v) = digest_field u ∷ digest_field v ∷ []
fields_of (entry r) = nums (numbers r)
fields_of (memo_string m k) = digs (memo_digests m ++ (k ∷ []))

-- a number as its 8 bytes (§3.1.1), a digest as its 32
abbrev pub field_bytes : Field → List ℕ
field_bytes (number_field n) = be64 n
field_bytes (digest_field d) = d

abbrev pub width_of : Field → ℕ
width_of (number_field n) = 8
width_of (digest_field d) = 32

abbrev pub spread : List Field → List ℕ
spread [] = []
spread (f ∷ l) = field_bytes f ++ spread l

abbrev pub widths : List Field → ℕ
widths [] = 0
widths (f ∷ l) = width_of f + widths l

-- a string's bytes, and its length: for each row the number in the table's last column (`ByHand`)
unfoldable pub enc : Str → List ℕ
enc s = tag_of s ∷ spread (fields_of s)

abbrev pub length_of : Str → ℕ
length_of s = 1 + widths (fields_of s)

-- numbers that 8 bytes hold, digests of 32 bytes: of such strings the bytes tell the string
-- (`proofs/Encoding`, `enc_injective`), and they are as many as the length says (`enc_length`)
abbrev pub FieldFits : Field → Type 0
FieldFits (number_field n) = n < 2 ^ 64
FieldFits (digest_field d) = length d ≡ 32

abbrev pub FieldsFit : List Field → Type 0
FieldsFit = Every FieldFits

abbrev pub StringFits : Str → Type 0
StringFits s = FieldsFit (fields_of s)

-- ── counts ──

-- §3.7.2: what the strings formed cost, each as often as it is formed
abbrev pub cost : List Str → ℕ
cost [] = 0
cost (s ∷ l) = blocks (length_of s) + cost l

-- ── records ──

-- the record of an item that has none: all its numbers are 0
abbrev pub empty_record : Record
empty_record =
    record {
      revision = record { 0 = 0 };
      mass = record { 0 = 0 };
      offset = record { 0 = 0 };
      rigging = record { 0 = 0 };
    }

-- a record that stands for none: v1 is 0
abbrev pub blank : Record → Bool
blank r = eqb r.revision.0 0

-- §3.4.3: no revision, and yet another number
unfoldable pub malformed : Record → Bool
malformed r = both (blank r) (opposite (all_zero (numbers r)))

-- §3.4.4: a silly mass, none at all or above the heaviest
abbrev pub heaviest : ℕ
heaviest = 2000000

unfoldable pub silly_mass : (kilograms : ℕ) → Bool
silly_mass n = either (eqb n 0) (ltb heaviest n)

-- the string of a record's hash, where there is one (§3.7.7)
unfoldable pub record_forms : Record → List Str
record_forms r = pick (blank r) [] (entry r ∷ [])

-- ── the gap ──

-- q lies in the gap of A and A': between them (§3.5.3), or round the end (§3.5.4)
unfoldable pub in_gap : (q A A' : ℕ) → Bool
in_gap q A A' =
    pick (ltb A A')
    (both (ltb A q) (ltb q A'))
    (both (opposite (eqb q 0)) (either (ltb A q) (ltb q A')))

-- ── nodes and paths ──

-- the string of H(u,v), where there is one (§3.7.7)
unfoldable pub parent_forms : (u v : Dig) → List Str
parent_forms u v = pick (all_zero v) [] (pick (all_zero u) [] (node u v ∷ []))

module _ (D : List ℕ → Dig) where
  -- the digest of a string
  abbrev pub digest_of : Str → Dig
  digest_of s = D (enc s)

  -- how a memorandum is made of what it says and the secret, and the strings formed for it: here and nowhere else
  abbrev pub memorandum : Memo → (secret : Dig) → Dig
  memorandum t k = digest_of (memo_string t k)

  abbrev pub memorandum_forms : Memo → (secret : Dig) → List Str
  memorandum_forms t k = memo_string t k ∷ []

  -- §3.4.2: the hash of a record
  unfoldable pub record_hash : Record → Dig
  record_hash r = pick (blank r) nought (digest_of (entry r))

  -- §3.3.1: the parent of two digests
  unfoldable pub H : (u v : Dig) → Dig
  H u v = pick (all_zero v) u (pick (all_zero u) v (digest_of (node u v)))

  -- The way up (§5.2.4), the lowest sibling first. One level, from u with the sibling s and its bit, which is 1 where s stands on
  -- the left (§5.2.2)
  abbrev pub up : (u s : Dig) (bit : ℕ) → Dig
  up u s bit = pick (eqb bit 1) (H s u) (H u s)

  abbrev pub up_forms : (u s : Dig) (bit : ℕ) → List Str
  up_forms u s bit = pick (eqb bit 1) (parent_forms s u) (parent_forms u s)

  abbrev pub fold_up : Dig → (sides : ℕ) → List Dig → Dig
  fold_up u sides [] = u
  fold_up u sides (s ∷ l) = fold_up (up u s (sides % 2)) (sides / 2) l

  abbrev pub fold_forms : Dig → (sides : ℕ) → List Dig → List Str
  fold_forms u sides [] = []
  fold_forms u sides (s ∷ l) = up_forms u s (sides % 2) ++ fold_forms (up u s (sides % 2)) (sides / 2) l
