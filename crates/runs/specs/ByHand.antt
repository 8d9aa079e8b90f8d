-- What is legal and what is true of one short list, row by row, and the replies to three questions and three sets, byte by byte, as
-- tables under one statement, `ListByHand`: a definition of `LegalWish` or of `TrueFinding` made narrower or wider breaks a row. `proofs/ByHand`
-- shows it.
use Rattle.std.specs.Prelude.{◌≡◌, true, List, [], ◌∷◌, ◌++◌, ℕ, ◌-◌, ◌^◌, length}
use Rattle.seqs.specs.Choose.{Every}
use Rattle.seqs.specs.Bytes.{Bytes}
use Rattle.hexadecimal.specs.Hex.{digits_of}
use Rattle.paper.specs.declared.Record.{Record}
use Rattle.paper.specs.declared.Registers.{Registers}
use Rattle.paper.specs.declared.Values.{Values}
use Rattle.paper.specs.declared.Finding.{Finding}
use Rattle.paper.specs.declared.Finding.TheVariants.{Recorded, Listed as Empty, Gap}
use Rattle.paper.specs.Strings.{Dig, v1, empty_record, digest_of, memorandum}
use Rattle.paper.specs.Refusals.{reply_room, next_record, leaf_of, change_says}
use Rattle.paper.specs.Module.{answer_to}
use Rattle.rings.specs.Lists.{item_with}
use Rattle.runs.specs.Run.{Items}
use Rattle.runs.specs.Safety.{TrueFinding}
use Rattle.runs.specs.Wishes.{Wish, insert_item, remove_item, swap_places, set_record, clear_record, ask_about, LegalWish}

-- a record of four numbers, a set's values of three
abbrev pub four_numbers : (revision mass offset rigging : ℕ) → Record
four_numbers a b c d =
    record {
      revision = record { 0 = a };
      mass = record { 0 = b };
      offset = record { 0 = c };
      rigging = record { 0 = d };
    }

abbrev pub values_of : (mass offset rigging : ℕ) → Values
values_of b c d = record { mass = record { 0 = b }; offset = record { 0 = c }; rigging = record { 0 = d } }

-- the list: item 5 with no record, item 9 with one
abbrev pub rotor : Record
rotor = four_numbers 3 68900 1250 3

abbrev pub small : Items
small = item_with 5 empty_record ∷ item_with 9 rotor ∷ []

-- findings on items by their numbers
abbrev found_record : ℕ → Record → Finding
found_record A r = Recorded (record { 0 = A }) r

abbrev found_empty : ℕ → Finding
found_empty A = Empty (record { 0 = A })

abbrev found_gap : (A A' : ℕ) → Finding
found_gap A A' = Gap (record { 0 = A }) (record { 0 = A' })

-- a row: what is looked at, and whether the list allows it or bears it out
pub data ListRow : Type 0 where
  permits : Wish → ListRow
  forbids : Wish → ListRow
  bears : (q : ℕ) → Finding → ListRow
  denies : (q : ℕ) → Finding → ListRow

abbrev pub ListRowSays : (D : List ℕ → Dig) → ListRow → Type 0
ListRowSays D (permits x) = LegalWish small x
ListRowSays D (forbids x) = LegalWish small x → ⊥
ListRowSays D (bears q f) = TrueFinding D q f small
ListRowSays D (denies q f) = TrueFinding D q f small → ⊥

-- each kind of wish, legal and not (§7.3.1 to §7.3.6)
abbrev pub wishes : List ListRow
wishes =
    permits (insert_item 7)
    ∷ permits (insert_item (2 ^ 64 - 1))
    ∷ forbids (insert_item 0)
    ∷ forbids (insert_item 5)
    ∷ forbids (insert_item 9)
    ∷ forbids (insert_item (2 ^ 64))
    ∷ permits (remove_item 5)
    ∷ forbids (remove_item 9)
    ∷ forbids (remove_item 7)
    ∷ permits (swap_places 5 9)
    ∷ permits (swap_places 9 5)
    ∷ forbids (swap_places 5 5)
    ∷ forbids (swap_places 5 7)
    ∷ forbids (swap_places 7 9)
    ∷ permits (set_record 5 (values_of 68900 1250 3))
    ∷ permits (set_record 9 (values_of 1 0 0))
    ∷ permits (set_record 9 (values_of 2000000 (2 ^ 64 - 1) (2 ^ 64 - 1)))
    ∷ forbids (set_record 9 (values_of 0 0 0))
    ∷ forbids (set_record 9 (values_of 2000001 0 0))
    ∷ forbids (set_record 9 (values_of 61400000 1250 3))
    ∷ forbids (set_record 7 (values_of 68900 1250 3))
    ∷ forbids (set_record 5 (values_of (2 ^ 64) 1250 3))
    ∷ forbids (set_record 5 (values_of 68900 (2 ^ 64) 3))
    ∷ forbids (set_record 5 (values_of 68900 1250 (2 ^ 64)))
    ∷ permits (clear_record 9)
    ∷ forbids (clear_record 5)
    ∷ forbids (clear_record 7)
    ∷ permits (ask_about 7)
    ∷ permits (ask_about 5)
    ∷ permits (ask_about 9)
    ∷ permits (ask_about (2 ^ 64 - 1))
    ∷ forbids (ask_about 0)
    ∷ forbids (ask_about (2 ^ 64))
    ∷ []

-- each finding, true and not (§8.3.4)
abbrev pub findings : List ListRow
findings =
    -- a record: that item's, every number of it, and only where there is one
    bears 9 (found_record 9 rotor)
    ∷ denies 9 (found_record 9 (four_numbers 2 68900 1250 3))
    ∷ denies 9 (found_record 9 (four_numbers 3 61400 1250 3))
    ∷ denies 9 (found_record 9 (four_numbers 3 68900 1251 3))
    ∷ denies 9 (found_record 9 (four_numbers 3 68900 1250 4))
    ∷ denies 5 (found_record 9 rotor)
    ∷ denies 5 (found_record 5 rotor)
    ∷ denies 5 (found_record 5 empty_record)
    -- listed with no record
    ∷ bears 5 (found_empty 5)
    ∷ denies 9 (found_empty 9)
    ∷ denies 9 (found_empty 5)
    ∷ denies 7 (found_empty 7)
    -- a gap: between neighbours, round the end, and of numbers that lie in it
    ∷ bears 7 (found_gap 5 9)
    ∷ bears 12 (found_gap 9 5)
    ∷ bears 2 (found_gap 9 5)
    ∷ denies 5 (found_gap 5 9)
    ∷ denies 9 (found_gap 5 9)
    ∷ denies 12 (found_gap 5 9)
    ∷ denies 7 (found_gap 9 5)
    ∷ denies 0 (found_gap 9 5)
    ∷ denies 7 (found_gap 5 5)
    ∷ denies 7 (found_gap 5 12)
    ∷ denies 9 (found_gap 5 12)
    ∷ []

-- ── replies as bytes ──

-- A question put to an open module as a line: its frame written out up to its root y, which is the module's, and its memorandum,
-- which is V1(leaf,y) for a leaf of A, A' and r; and every byte of the reply.
pub record Question : Type 0 where
  pub A : ℕ
  pub A' : ℕ
  pub r : Record
  pub frame : List ℕ
  pub says : List ℕ

-- eight bytes, the first five of them 0
abbrev eight : (a b c : ℕ) → List ℕ
eight a b c = 0x00 ∷ 0x00 ∷ 0x00 ∷ 0x00 ∷ 0x00 ∷ a ∷ b ∷ c ∷ []

-- [3, 68900, 1250, 3], and no record
abbrev rotor_bytes : List ℕ
rotor_bytes = eight 0x00 0x00 0x03 ++ eight 0x01 0x0d 0x24 ++ eight 0x00 0x04 0xe2 ++ eight 0x00 0x00 0x03

abbrev no_record : List ℕ
no_record = eight 0x00 0x00 0x00 ++ eight 0x00 0x00 0x00 ++ eight 0x00 0x00 0x00 ++ eight 0x00 0x00 0x00

-- the three findings as bytes (§5.2.14): asked on 9 by the leaf of 9 and 5, on 5 and on 7 by the leaf of 5 and 9
abbrev pub questions : List Question
questions =
    record {
      A = 9;
      A' = 5;
      r = rotor;
      frame = 0x0e ∷ eight 0x00 0x00 0x09 ++ eight 0x00 0x00 0x09 ++ eight 0x00 0x00 0x05 ++ rotor_bytes;
      says = 0x8e ∷ 0x01 ∷ eight 0x00 0x00 0x09 ++ rotor_bytes;
    }
    ∷ record {
      A = 5;
      A' = 9;
      r = empty_record;
      frame = 0x0e ∷ eight 0x00 0x00 0x05 ++ eight 0x00 0x00 0x05 ++ eight 0x00 0x00 0x09 ++ no_record;
      says = 0x8e ∷ 0x02 ∷ eight 0x00 0x00 0x05;
    }
    ∷ record {
      A = 5;
      A' = 9;
      r = empty_record;
      frame = 0x0e ∷ eight 0x00 0x00 0x07 ++ eight 0x00 0x00 0x05 ++ eight 0x00 0x00 0x09 ++ no_record;
      says = 0x8e ∷ 0x03 ∷ eight 0x00 0x00 0x05 ++ eight 0x00 0x00 0x09;
    }
    ∷ []

abbrev pub RepliedSo : (D : List ℕ → Dig) → Question → Type 0
RepliedSo D x = (s : Registers) → s.opened ≡ true → length s.root ≡ 32 → Bytes s.root
    → (let m = memorandum D (v1 (digest_of D (leaf_of D x.A x.A' x.r)) s.root) s.secret in
    (answer_to D s (digits_of (x.frame ++ (s.root ++ m))) reply_room).says ≡ x.says)

-- A set of item 9, whose next is 5 and whose record is `rotor`, put to an open module whose counter is 3: its values, its frame
-- written out up to its root y, which is the module's; y', any digest; its memorandum, which fits. And every byte of the reply.
pub record Setting : Type 0 where
  pub values : Values
  pub frame : List ℕ
  pub says : (y' : Dig) → List ℕ

abbrev set_frame : (mass : List ℕ) → List ℕ
set_frame mass =
    0x0c ∷ eight 0x00 0x00 0x09 ++ eight 0x00 0x00 0x05 ++ rotor_bytes ++ mass ++ eight 0x00 0x04 0xe2 ++ eight 0x00 0x00 0x03

-- 61,400 kg; the heaviest mass; and 61,400 kg typed in grams (§6.2.16)
abbrev pub settings : List Setting
settings =
    record {
      values = values_of 61400 1250 3;
      frame = set_frame (eight 0x00 0xef 0xd8);
      says = λ y'. 0x8c ∷ y' ++ eight 0x00 0x00 0x04;
    }
    ∷ record {
      values = values_of 2000000 1250 3;
      frame = set_frame (eight 0x1e 0x84 0x80);
      says = λ y'. 0x8c ∷ y' ++ eight 0x00 0x00 0x04;
    }
    ∷ record {
      values = values_of 61400000 1250 3;
      frame = set_frame (0x00 ∷ 0x00 ∷ 0x00 ∷ 0x00 ∷ 0x03 ∷ 0xa8 ∷ 0xe3 ∷ 0xc0 ∷ []);
      says = λ y'. 0x00 ∷ 0x10 ∷ [];
    }
    ∷ []

abbrev pub SetSo : (D : List ℕ → Dig) → Setting → Type 0
SetSo D x = (s : Registers) (y' : Dig) → s.opened ≡ true → s.counter.0 ≡ 3 → length s.root ≡ 32 → Bytes s.root
    → length y' ≡ 32 → Bytes y'
    → (let m = memorandum D (change_says D 9 5 rotor (next_record s x.values) s.root y') s.secret in
    (answer_to D s (digits_of (x.frame ++ (s.root ++ (y' ++ m)))) reply_room).says ≡ x.says y')

pub record ListByHand : Type 0 where
  pub legal : (D : List ℕ → Dig) → Every (ListRowSays D) wishes
  pub true_findings : (D : List ℕ → Dig) → Every (ListRowSays D) findings
  pub replies : (D : List ℕ → Dig) → ((l : List ℕ) → length (D l) ≡ 32) → ((l : List ℕ) → Bytes (D l)) → Every (RepliedSo D) questions
  pub sets : (D : List ℕ → Dig) → ((l : List ℕ) → length (D l) ≡ 32) → ((l : List ℕ) → Bytes (D l)) → Every (SetSo D) settings
