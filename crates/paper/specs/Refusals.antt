-- The refusals and their order (docs/PROTOCOL.md, section 6), and the column "needs" of the table of kinds (5.1).
use Rattle.std.specs.Prelude.{◌≡◌, Bool, true, false, List, [], ◌∷◌, ◌++◌, ℕ, ◌+◌, ◌-◌, ◌*◌, ◌%◌, ◌^◌, eqb, ltb, length, drop}
use Rattle.seqs.specs.Choose.{pick, either, opposite}
use Rattle.seqs.specs.Bytes.{same, all_zero}
use Rattle.hexadecimal.specs.Hex.{all_digits}
use Rattle.paper.specs.declared.Record.{Record}
use Rattle.paper.specs.declared.Values.{Values}
use Rattle.paper.specs.declared.Registers.{Registers}
use Rattle.paper.specs.Strings.{Dig, nought, Memo, u1, v1, u2, ei, Str, leaf, malformed, empty_record, blank, silly_mass, record_forms, in_gap, digest_of, memorandum, memorandum_forms, record_hash}
use Rattle.paper.specs.Requests.{Request, path, witness, join, pair, raise, swap, first, place, turn, chain, adopt, set_to, clear, ask, ask_none, unlock, known, fits, most_siblings}

-- A check: its number in the table of refusals, whether it fails (the column "given when"), the strings that it forms, and the
-- memorandum that it compares, if any.
pub record Check : Type 0 where
  pub number : ℕ
  pub fails : Bool
  pub forms : List Str
  pub compares : List Dig

-- a check that looks at numbers and registers alone
abbrev pub plain : (number : ℕ) (fails : Bool) → Check
plain n b = record { number = n; fails = b; forms = []; compares = [] }

-- §6.1.1: the order of the checks
abbrev pub order : List ℕ
order = 15 ∷ 1 ∷ 2 ∷ 3 ∷ 13 ∷ 14 ∷ 12 ∷ 4 ∷ 5 ∷ 16 ∷ 6 ∷ 11 ∷ 7 ∷ 8 ∷ 9 ∷ 10 ∷ []

-- the numbers of the checks on a request: behind those on the space, the line and the frame
abbrev pub request_order : List ℕ
request_order = drop 4 order

-- ── the table, row by row ──

-- §4.1.3, the longest frame and line: a path's kind, x, x', n and sides, and its siblings
abbrev pub before_siblings : ℕ
before_siblings = 74

abbrev pub longest_frame : ℕ
longest_frame = before_siblings + 32 * most_siblings

abbrev pub longest_line : ℕ
longest_line = 2 * longest_frame

-- §6.2.15: the space is shorter than what has to fit it; for the module, than every reply's line (§5.3.3)
abbrev pub room_for : (need space : ℕ) → Check
room_for need space = plain 15 (ltb space need)

abbrev pub reply_room : ℕ
reply_room = 195

-- §6.2.1: no line of hexadecimal; a 0A in it is a byte like any other (§4.1.4)
abbrev pub is_hex : List ℕ → Check
is_hex line =
    plain 1
    (either (eqb (length line) 0)
    (either (eqb (length line % 2) 1)
    (either (ltb longest_line (length line)) (opposite (all_digits line)))))

-- §6.2.2: no such kind
abbrev pub is_kind : ℕ → Check
is_kind k = plain 2 (opposite (known k))

-- §6.2.3: not of its kind's length, or no sound path
abbrev pub is_frame : List ℕ → Check
is_frame f = plain 3 (opposite (fits f))

-- §6.2.13: not open; of every kind but 10
abbrev pub is_open : Registers → Check
is_open s = plain 13 (opposite s.opened)

-- §6.2.14: open already; of kind 10
abbrev pub is_shut : Registers → Check
is_shut s = plain 14 s.opened

-- §6.2.12: a secret of zeros
abbrev pub is_secret : Dig → Check
is_secret k = plain 12 (all_zero k)

-- §6.2.4: an item number 0, which is none (§3.5.1)
abbrev pub not_zero : ℕ → Check
not_zero n = plain 4 (eqb n 0)

-- §6.2.5: a malformed record
abbrev pub well_formed : Record → Check
well_formed r = plain 5 (malformed r)

-- §6.2.16: a silly mass; of a set's new record, and of no other (§5.2.16)
abbrev pub not_silly : (kilograms : ℕ) → Check
not_silly n = plain 16 (silly_mass n)

-- §6.2.6: in a place not in the gap (§5.2.6, §9.3.1); in an ask neither the item nor in the gap
abbrev pub in_the_gap : (q A A' : ℕ) → Check
in_the_gap q A A' = plain 6 (opposite (in_gap q A A'))

abbrev pub is_or_in_the_gap : (q A A' : ℕ) → Check
is_or_in_the_gap q A A' = plain 6 (opposite (either (eqb q A) (in_gap q A A')))

-- §6.2.11: a record that is none
abbrev pub is_recorded : Record → Check
is_recorded r = plain 11 (blank r)

-- §6.2.7: the counter is at its top
abbrev pub top : ℕ
top = 2 ^ 64 - 1

abbrev pub below_top : Registers → Check
below_top s = plain 7 (eqb s.counter.0 top)

-- §6.2.10: stale, another digest than the root
abbrev pub is_root : Registers → Dig → Check
is_root s y = plain 10 (opposite (same y s.root))

-- §5.2.10: the new record of a set, with the raised counter as its revision, and that of a clear
abbrev pub next_record : Registers → Values → Record
next_record s v =
    record {
      revision = record { 0 = s.counter.0 + 1 };
      mass = v.mass;
      offset = v.offset;
      rigging = v.rigging;
    }

abbrev pub cleared_record : Record
cleared_record = empty_record

-- §5.2.5: the leaves that a place speaks of; §5.2.7: the two orders
abbrev pub place_forms : (A A' B' : ℕ) (ω : Dig) → List Str
place_forms A A' B' ω = leaf A A' ω ∷ leaf A B' ω ∷ leaf A' B' nought ∷ []

-- the memoranda that some checks compare
abbrev pub compared : List Check → List Dig
compared [] = []
compared (c ∷ l) = c.compares ++ compared l

module _ (D : List ℕ → Dig) where
  -- What a memorandum may say, in the order tried: whether none has the digest shown, and the strings formed
  abbrev pub none_fits : (secret : Dig) → List Memo → (m : Dig) → Bool
  none_fits k [] m = true
  none_fits k (t ∷ l) m = pick (same (memorandum D t k) m) false (none_fits k l m)

  -- §3.7.5: the strings formed in looking for one that fits, none behind it
  abbrev pub tried : (secret : Dig) → List Memo → (m : Dig) → List Str
  tried k [] m = []
  tried k (t ∷ l) m = memorandum_forms D t k ++ pick (same (memorandum D t k) m) [] (tried k l m)

  -- §6.2.8 and §6.2.9: the first or the second memorandum is none of those that fit; with the strings formed for these (§3.7.4)
  abbrev pub first_memo : (s : Registers) (before : List Str) (says : List Memo) (m : Dig) → Check
  first_memo s before says m =
      record {
        number = 8;
        fails = none_fits s.secret says m;
        forms = before ++ tried s.secret says m;
        compares = m ∷ [];
      }

  abbrev pub second_memo : (s : Registers) (says : Memo) (m : Dig) → Check
  second_memo s says m =
      record {
        number = 9;
        fails = none_fits s.secret (says ∷ []) m;
        forms = tried s.secret (says ∷ []) m;
        compares = m ∷ [];
      }

  -- ── the column "needs" ──

  -- the leaf of an item with a record (§5.2.9, §5.2.13)
  abbrev pub leaf_of : (A A' : ℕ) → Record → Str
  leaf_of A A' r = leaf A A' (record_hash D r)

  abbrev pub leaf_forms : (A A' : ℕ) → Record → List Str
  leaf_forms A A' r = record_forms r ++ (leaf_of A A' r ∷ [])

  abbrev pub change_forms : (A A' : ℕ) (old new : Record) → List Str
  change_forms A A' old new = leaf_forms A A' old ++ leaf_forms A A' new

  abbrev pub change_says : (A A' : ℕ) (old new : Record) (y y' : Dig) → Memo
  change_says A A' old new y y' = u1 (digest_of D (leaf_of A A' old)) y (digest_of D (leaf_of A A' new)) y'

  abbrev pub place_says : (A A' B' : ℕ) (ω y y' : Dig) → List Memo
  place_says A A' B' ω y y' =
      let x1 = digest_of D (leaf A A' ω) in
      let x1' = digest_of D (leaf A B' ω) in
      let x2 = digest_of D (leaf A' B' nought) in
      u2 x1 x2 y x1' nought y' ∷ u2 x2 x1 y nought x1' y' ∷ []

  abbrev pub needs : Registers → Request → List Check
  needs s (path x x' sides l) = is_open s ∷ []
  needs s (witness x y m) = is_open s ∷ first_memo s [] (u1 x y x y ∷ []) m ∷ []
  needs s (join x y x' y' m1 z z' m2) =
      is_open s ∷ first_memo s [] (u1 x y x' y' ∷ []) m1 ∷ second_memo s (u1 y z y' z') m2 ∷ []
  needs s (pair x1 y x1' y' m1 x2 z x2' z' m2) =
      is_open s ∷ first_memo s [] (u1 x1 y x1' y' ∷ []) m1 ∷ second_memo s (u1 x2 z x2' z') m2 ∷ []
  needs s (raise x1 x2 y x1' x2' y' m1 z z' m2) =
      is_open s ∷ first_memo s [] (u2 x1 x2 y x1' x2' y' ∷ []) m1 ∷ second_memo s (u1 y z y' z') m2 ∷ []
  needs s (swap x1 x2 y y' m) = is_open s ∷ first_memo s [] (u2 x1 x2 y x2 x1 y' ∷ []) m ∷ []
  needs s (first A) = is_open s ∷ not_zero A ∷ []
  needs s (place A A' B' ω y y' m) =
      is_open s ∷ not_zero A ∷ not_zero A' ∷ not_zero B' ∷ in_the_gap A' A B'
      ∷ first_memo s (place_forms A A' B' ω) (place_says A A' B' ω y y') m ∷ []
  needs s (turn x y m) = is_open s ∷ first_memo s [] (ei x y ∷ []) m ∷ []
  needs s (chain x y m1 z m2) = is_open s ∷ first_memo s [] (ei x y ∷ []) m1 ∷ second_memo s (ei y z) m2 ∷ []
  needs s (adopt y y' m) = is_open s ∷ first_memo s [] (ei y y' ∷ []) m ∷ is_root s y ∷ []
  needs s (set_to A A' old v y y' m) =
      let new = next_record s v in
      is_open s ∷ not_zero A ∷ not_zero A' ∷ well_formed old ∷ not_silly v.mass.0 ∷ below_top s
      ∷ first_memo s (change_forms A A' old new) (change_says A A' old new y y' ∷ []) m ∷ is_root s y ∷ []
  needs s (clear A A' old y y' m) =
      is_open s ∷ not_zero A ∷ not_zero A' ∷ well_formed old ∷ is_recorded old ∷ below_top s
      ∷ first_memo s (change_forms A A' old cleared_record) (change_says A A' old cleared_record y y' ∷ []) m ∷ is_root s y ∷ []
  needs s (ask q A A' r y m) =
      is_open s ∷ not_zero q ∷ not_zero A ∷ not_zero A' ∷ well_formed r ∷ is_or_in_the_gap q A A'
      ∷ first_memo s (leaf_forms A A' r) (v1 (digest_of D (leaf_of A A' r)) y ∷ []) m ∷ is_root s y ∷ []
  needs s (ask_none q) = is_open s ∷ not_zero q ∷ is_root s nought ∷ []
  needs s (unlock k) = is_shut s ∷ is_secret k ∷ []

  -- the memoranda that a request carries: those that its checks compare
  abbrev pub carried_memoranda : Registers → Request → List Dig
  carried_memoranda s q = compared (needs s q)

-- ── the verdict: the first number of an order that applies ──

abbrev pub those : ℕ → List Check → List Check
those n [] = []
those n (c ∷ l) = pick (eqb c.number n) (c ∷ those n l) (those n l)

abbrev pub any_fails : List Check → Bool
any_fails [] = false
any_fails (c ∷ l) = either c.fails (any_fails l)

abbrev pub forms_all : List Check → List Str
forms_all [] = []
forms_all (c ∷ l) = forms_all l ++ c.forms

-- a check of number n fails; the strings that the checks of number n form
abbrev pub applies : ℕ → List Check → Bool
applies n cs = any_fails (those n cs)

abbrev pub formed_at : ℕ → List Check → List Str
formed_at n cs = forms_all (those n cs)

-- refused by a number, or passed; with the strings formed, up to the check that refuses (§3.7.3: which strings, and how often;
-- their order in the list says nothing)
pub data Verdict : Type 0 where
  refused_by : ℕ → List Str → Verdict
  all_passed : List Str → Verdict

abbrev pub formed_by : Verdict → List Str
formed_by (refused_by n fs) = fs
formed_by (all_passed fs) = fs

abbrev pub judge : (numbers : List ℕ) → List Str → List Check → Verdict
judge [] fs cs = all_passed fs
judge (n ∷ ns) fs cs = pick (applies n cs) (refused_by n (formed_at n cs ++ fs)) (judge ns (formed_at n cs ++ fs) cs)

-- ── what a verdict's number says ──

-- those of some numbers that come before n
abbrev pub numbers_before : ℕ → List ℕ → List ℕ
numbers_before n [] = []
numbers_before n (i ∷ ns) = pick (eqb i n) [] (i ∷ numbers_before n ns)

-- none of some numbers applies
abbrev pub Passed : List ℕ → List Check → Type 0
Passed [] cs = Unit {0}
Passed (n ∷ ns) cs = (applies n cs ≡ false) × Passed ns cs

-- §8.1.3, the first that applies: n is one of the numbers, it applies, and none before it does
pub record FirstToApply (numbers : List ℕ) (cs : List Check) (n : ℕ) : Type 0 where
  pub before : List ℕ
  pub behind : List ℕ
  pub in_order : numbers ≡ before ++ (n ∷ behind)
  pub here : applies n cs ≡ true
  pub none_before : Passed before cs
