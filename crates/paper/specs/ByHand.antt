-- The numbers to check by hand (docs/PROTOCOL.md, 9.1) and some more as one table under one statement, `ByHand`, which
-- `proofs/ByHand` shows from the definitions.
use Rattle.std.specs.Prelude.{Bool, true, false, ◌≡◌, List, [], ◌∷◌, ◌++◌, ℕ, ◌+◌, ◌*◌, ◌≤◌, eqb, length, get_or, replicate}
use Rattle.seqs.specs.Choose.{opposite, Every}
use Rattle.sha256.specs.Padding.{blocks}
use Rattle.seqs.specs.Bytes.{all_zero}
use Rattle.hexadecimal.specs.Hex.{all_digits, bytes_of, digits_of}
use Rattle.paper.specs.declared.Record.{Record}
use Rattle.paper.specs.declared.Registers.{Registers}
use Rattle.paper.specs.declared.Values.{Values}
use Rattle.paper.specs.Strings.{Dig, nought, Str, leaf, node, entry, memo_string, u1, v1, u2, ei, length_of, cost, empty_record, malformed, in_gap, digest_of, memorandum, record_hash, H, fold_forms}
use Rattle.paper.specs.Requests.{Request, most_siblings, path, set_to, clear, ask, kind_of, fits, request_of}
use Rattle.paper.specs.Refusals.{plain, order, longest_frame, longest_line, reply_room, is_hex, top, next_record, cleared_record, leaf_of, change_says, judge}
use Rattle.paper.specs.Answers.{answer}
use Rattle.paper.specs.Module.{refusal_of, unopened, answer_to, reply_line}

abbrev four : (revision mass offset rigging : ℕ) → Record
four a b c d =
    record {
      revision = record { 0 = a };
      mass = record { 0 = b };
      offset = record { 0 = c };
      rigging = record { 0 = d };
    }

-- a row: what is looked at, and what the paper says of it
pub data Row : Type 0 where
  gap_row : (A A' q : ℕ) → (lies : Bool) → Row
  parent_row : (u v : Dig) → (above : Dig) → Row
  hash_row : Record → Dig → Row
  malformed_row : Record → (is : Bool) → Row
  blocks_row : (bytes : ℕ) → (many : ℕ) → Row
  length_row : Str → (long : ℕ) → Row
  constant_row : (defined written : ℕ) → Row
  order_row : (sooner later : ℕ) → Row

abbrev pub RowSays : (D : List ℕ → Dig) → Row → Type 0
RowSays D (gap_row A A' q lies) = in_gap q A A' ≡ lies
RowSays D (parent_row u v w) = H D u v ≡ w
RowSays D (hash_row r d) = record_hash D r ≡ d
RowSays D (malformed_row r is) = malformed r ≡ is
RowSays D (blocks_row n k) = blocks n ≡ k
RowSays D (length_row s n) = length_of s ≡ n
RowSays D (constant_row n k) = n ≡ k
RowSays D (order_row n k) = refusal_of (judge order [] (plain k true ∷ plain n true ∷ [])) ≡ n

-- the table, for any u
abbrev pub table : (u : Dig) → List Row
table u =
    -- §9.1.1
    gap_row 432 562 500 true
    ∷ gap_row 432 562 432 false
    ∷ gap_row 432 562 562 false
    -- §9.1.2
    ∷ gap_row 796 241 900 true
    ∷ gap_row 796 241 100 true
    ∷ gap_row 796 241 500 false
    -- §9.1.3
    ∷ gap_row 241 241 5 true
    ∷ gap_row 241 241 241 false
    -- §9.1.4
    ∷ parent_row nought nought nought
    ∷ parent_row u nought u
    -- §9.1.5
    ∷ hash_row (four 0 0 0 0) nought
    ∷ malformed_row (four 0 5 0 0) true
    -- §9.1.6
    ∷ blocks_row 55 1
    ∷ blocks_row 56 2
    ∷ blocks_row 65 2
    ∷ blocks_row 161 3
    ∷ blocks_row 225 4
    -- the lengths of the strings, §3.2.1 to §3.2.7
    ∷ length_row (leaf 0 0 u) 49
    ∷ length_row (node u u) 65
    ∷ length_row (entry (four 0 0 0 0)) 33
    ∷ length_row (memo_string (u1 u u u u) u) 161
    ∷ length_row (memo_string (v1 u u) u) 97
    ∷ length_row (memo_string (u2 u u u u u u) u) 225
    ∷ length_row (memo_string (ei u u) u) 97
    -- the longest frame and line (§4.1.3), and the top of the counter (§6.2.7)
    ∷ constant_row longest_frame 2122
    ∷ constant_row longest_line 4244
    ∷ constant_row top 18446744073709551615
    -- §9.3.1: 20 is not in the gap of 5 and 10
    ∷ gap_row 5 10 20 false
    -- §6.1.1: where a check and the next of the table both fail, it is the first that refuses
    ∷ order_row 15 1
    ∷ order_row 1 2
    ∷ order_row 2 3
    ∷ order_row 3 13
    ∷ order_row 13 14
    ∷ order_row 14 12
    ∷ order_row 12 4
    ∷ order_row 4 5
    ∷ order_row 5 16
    ∷ order_row 16 6
    ∷ order_row 6 11
    ∷ order_row 11 7
    ∷ order_row 7 8
    ∷ order_row 8 9
    ∷ order_row 9 10
    ∷ []

-- §9.1.7: a path of 64 costs 259 where no digest carried and none formed on the way up is zero, whatever the sides
abbrev pub NoneZero : List Dig → Type 0
NoneZero = Every (λ d. all_zero d ≡ false)

abbrev pub NoZeroDigest : (D : List ℕ → Dig) → List Str → Type 0
NoZeroDigest D = Every (λ s. all_zero (digest_of D s) ≡ false)

abbrev pub PathOf64 : (D : List ℕ → Dig) → Type 0
PathOf64 D = (s : Registers) (x x' : Dig) (sides : ℕ) (l : List Dig) → NoneZero (x ∷ x' ∷ l) → length l ≡ 64
    → NoZeroDigest D (fold_forms D x sides l) → NoZeroDigest D (fold_forms D x' sides l)
    → cost (answer D s (path x x' sides l)).forms ≡ 259

-- and one that does: with a digest that is never zero
abbrev pub ones : Dig
ones = replicate 32 1

abbrev pub PathReaches259 : Type 0
PathReaches259 =
    cost (answer (λ l. ones) (unopened nought) (path ones ones 0 (replicate most_siblings ones))).forms ≡ 259

-- §9.1.9, §5.3.3: 195 bytes hold the longest reply's line, with its 0A, and 194 get 15
pub record SpaceOf195 (D : List ℕ → Dig) (s : Registers) (line : List ℕ) : Type 0 where
  pub too_small : (space : ℕ) → space ≤ 194 → (answer_to D s line space).refusal ≡ 15
  pub enough : (space : ℕ) → 195 ≤ space → (answer_to D s line space).refusal ≡ 15 → ⊥
  pub holds : (space : ℕ) → length (reply_line (answer_to D s line space)) ≤ 195

-- §9.1.8: n = 65 gets 3 in the longest frame, and 1 with all its 65 siblings
pub record EdgesOf65 (D : List ℕ → Dig) (s : Registers) (l : List ℕ) : Type 0 where
  pub gets_3 : all_digits l ≡ true → length l ≡ longest_line → kind_of (bytes_of l) ≡ 1 → get_or (bytes_of l) 65 0 ≡ 65
      → (answer_to D s l reply_room).refusal ≡ 3
  pub gets_1 : length l ≡ 2 * (74 + 32 * 65) → (answer_to D s l reply_room).refusal ≡ 1

-- ── masses, §9.1.10 to §9.1.12 ──

-- a line that is read as a request
pub record ReadsAs (line : List ℕ) (kind : ℕ) (q : Request) : Type 0 where
  pub hex : (is_hex line).fails ≡ false
  pub of_kind : kind_of (bytes_of line) ≡ kind
  pub fit : fits (bytes_of line) ≡ true
  pub request : request_of (bytes_of line) ≡ q

-- A set of an item by its old record, with a new mass, at some counter; a clear and an ask of an item by its record. Each with its
-- refusal, or 0.
pub data MassRow : Type 0 where
  set_row : (A : ℕ) (old : Record) (mass counter : ℕ) → (refusal : ℕ) → MassRow
  clear_row : (old : Record) → (refusal : ℕ) → MassRow
  ask_row : (r : Record) → (refusal : ℕ) → MassRow

-- In all of them the module is open, y is its root, m says what it has to and the other numbers are right: but for what
-- its row says, the line would be accepted.
abbrev pub MassRowSays : (D : List ℕ → Dig) → MassRow → Type 0
MassRowSays D (set_row A old mass c n) =
    (s : Registers) (A' : ℕ) (v : Values) (y' : Dig) (line : List ℕ) → s.opened ≡ true → s.counter.0 ≡ c → v.mass.0 ≡ mass
    → eqb A' 0 ≡ false
    → (let m = memorandum D (change_says D A A' old (next_record s v) s.root y') s.secret in
    ReadsAs line 0x0c (set_to A A' old v s.root y' m) → (answer_to D s line reply_room).refusal ≡ n)
MassRowSays D (clear_row old n) =
    (s : Registers) (A A' : ℕ) (y' : Dig) (line : List ℕ) → s.opened ≡ true → eqb s.counter.0 top ≡ false
    → eqb A 0 ≡ false → eqb A' 0 ≡ false
    → (let m = memorandum D (change_says D A A' old cleared_record s.root y') s.secret in
    ReadsAs line 0x0d (clear A A' old s.root y' m) → (answer_to D s line reply_room).refusal ≡ n)
MassRowSays D (ask_row r n) =
    (s : Registers) (A A' : ℕ) (line : List ℕ) → s.opened ≡ true → eqb A 0 ≡ false → eqb A' 0 ≡ false
    → (let m = memorandum D (v1 (digest_of D (leaf_of D A A' r)) s.root) s.secret in
    ReadsAs line 0x0e (ask A A A' r s.root m) → (answer_to D s line reply_room).refusal ≡ n)

abbrev pub masses : List MassRow
masses =
    -- §9.1.10: a set that would else be accepted; 61,400,000 is what becomes of 61,400 kg when they are typed in grams
    set_row 432 empty_record 0 7 16
    ∷ set_row 432 empty_record 1 7 0
    ∷ set_row 432 empty_record 61400 7 0
    ∷ set_row 432 empty_record 2000000 7 0
    ∷ set_row 432 empty_record 2000001 7 16
    ∷ set_row 432 empty_record 61400000 7 16
    -- §9.1.11: silly, and something else: item 0, a malformed old record, the counter at its top
    ∷ set_row 0 empty_record 0 7 4
    ∷ set_row 432 (four 0 5 0 0) 0 7 5
    ∷ set_row 432 (four 0 5 0 0) 2000001 7 5
    ∷ set_row 432 empty_record 0 top 16
    ∷ set_row 432 empty_record 2000001 top 16
    ∷ set_row 432 empty_record 61400 top 7
    -- §9.1.12: the mass of a record that is there already
    ∷ set_row 432 (four 3 0 0 0) 61400 7 0
    ∷ set_row 432 (four 3 3000000 0 0) 61400 7 0
    ∷ clear_row (four 3 0 0 0) 0
    ∷ clear_row (four 3 3000000 0 0) 0
    ∷ ask_row (four 3 0 0 0) 0
    ∷ ask_row (four 3 3000000 0 0) 0
    ∷ []

-- §9.2.1, the whole run: S is 01 thirty-two times, Z 64 digits 0

-- a line in and the line out for it, without its 0A
pub data Exchange : Type 0 where
  gets : (line reply : List ℕ) → Exchange

abbrev S : List ℕ
S = replicate 32 0x01

abbrev five : List ℕ
five = 0 ∷ 0 ∷ 0 ∷ 0 ∷ 0 ∷ 0 ∷ 0 ∷ 5 ∷ []

abbrev pub whole_run : List Exchange
whole_run =
    -- `7`, `0001`; `ff`, `0002`; `0f`, `0003`
    gets (0x37 ∷ []) (digits_of (0x00 ∷ 0x01 ∷ []))
    ∷ gets (digits_of (0xff ∷ [])) (digits_of (0x00 ∷ 0x02 ∷ []))
    ∷ gets (digits_of (0x0f ∷ [])) (digits_of (0x00 ∷ 0x03 ∷ []))
    -- `0f0000000000000005`, `000d`
    ∷ gets (digits_of (0x0f ∷ five)) (digits_of (0x00 ∷ 0x0d ∷ []))
    -- `10`Z, `000c`; `10`S, `90`; `10`Z, `000e`
    ∷ gets (digits_of (0x10 ∷ nought)) (digits_of (0x00 ∷ 0x0c ∷ []))
    ∷ gets (digits_of (0x10 ∷ S)) (digits_of (0x90 ∷ []))
    ∷ gets (digits_of (0x10 ∷ nought)) (digits_of (0x00 ∷ 0x0e ∷ []))
    -- `0f0000000000000005`, `8f0000000000000005`; `070000000000000000`, `0004`
    ∷ gets (digits_of (0x0f ∷ five)) (digits_of (0x8f ∷ five))
    ∷ gets (digits_of (0x07 ∷ replicate 8 0)) (digits_of (0x00 ∷ 0x04 ∷ []))
    ∷ []

-- each line gets its reply, from some registers on, with 195 bytes of space
abbrev pub Runs : (D : List ℕ → Dig) → Registers → List Exchange → Type 0
Runs D s [] = Unit {0}
Runs D s (gets line reply ∷ l) =
    (reply_line (answer_to D s line reply_room) ≡ reply ++ (0x0a ∷ [])) × Runs D (answer_to D s line reply_room).after l

pub record ByHand : Type 1 where
  pub rows : (D : List ℕ → Dig) (u : Dig) → Every (RowSays D) (table u)
  -- §3.5.4: where A is its own next, every number above 0 but A
  pub gap_of_one : (q A : ℕ) → eqb q 0 ≡ false → in_gap q A A ≡ opposite (eqb q A)
  pub path : (D : List ℕ → Dig) → PathOf64 D
  pub path_reaches : PathReaches259
  pub room : (D : List ℕ → Dig) → ((l : List ℕ) → length (D l) ≡ 32) → (s : Registers) (line : List ℕ) → SpaceOf195 D s line
  pub edges : (D : List ℕ → Dig) (s : Registers) (l : List ℕ) → EdgesOf65 D s l
  pub masses_judged : (D : List ℕ → Dig) → Every (MassRowSays D) masses
  pub run : (D : List ℕ → Dig) → Runs D (unopened nought) whole_run
