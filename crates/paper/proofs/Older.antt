-- A set's memorandum stands for the new record's revision, so at another counter it fits only where strings collide:
-- the memoranda, the leaves in them, or the records in those. The two lines may differ in all else.
use mathlib.Core.Path.{◌≡◌, refl, sym, ap, subst, ◌∙◌}
use mathlib.Core.Bool.{Bool, true, false, true≢false}
use mathlib.Core.List.Memᴰ
use mathlib.Core.List.{List, [], ◌∷◌, ◌++◌, Memᴰ}
use mathlib.Core.Logic.{◌⊎◌, inl, inr}
use Prim.Native.Nat.{ℕ, ◌+◌, ◌<◌, ◌^◌}
use native.Mathlib.Omega.{arith}
use borrow.Author.Tests.{eqb-true, eqb-false, ne_eqb}
use lib.Dec.{eqb}
use lib.ListN.{length, take, drop, length-drop}
use lib.Seq.{length-take-le, take_at, drop_at}
use Rattle.seqs.specs.Choose.{pick, both, either, opposite, both_true}
use Rattle.seqs.specs.Bytes.{be64, be64_length, number_of, number_be64, same, same_true}
use Rattle.hexadecimal.specs.Hex.{bytes_of}
use Rattle.paper.specs.declared.Record.{Record}
use Rattle.paper.specs.declared.Values.{Values}
use Rattle.paper.specs.declared.Registers.{Registers}
use Rattle.paper.specs.Strings.{Dig, nought, Memo, Str, leaf, entry, enc, digest_of, memorandum, blank, record_forms, record_hash}
use Rattle.paper.specs.Requests.{Request, set_to, record_in, values_in, KindRow, kinds, kind_of, row_of, takes_all, part, sound_all, fits, request_of}
use Rattle.paper.specs.Refusals.{Check, order, room_for, reply_room, is_hex, top, next_record, numbers_before, carried_memoranda, leaf_of, leaf_forms, change_forms, change_says, needs, applies, formed_at, judge, Passed}
use Rattle.paper.specs.Module.{frame_checks, Told, told_by, answer_to}
use Rattle.paper.specs.Collisions.{Collision}
use Rattle.paper.proofs.Memoranda.{tail, or_same, MadeOf, one_new_half}
use Rattle.paper.proofs.Verdicts.{opposite_false, the_one, first_of, number_is, in_told, split_passed, passed_at, reached, passed_number}
use Rattle.paper.specs.Older.{PastCheck8, Later, OlderGets8}

-- ── where the number is 0 or 10, every other check is passed ──

abbrev other_than : ℕ → Bool
other_than n = both (opposite (eqb n 0)) (opposite (eqb n 10))

abbrev others : List ℕ → Bool
others [] = true
others (n ∷ ns) = both (other_than n) (others ns)

other : (n : ℕ) → other_than n ≡ true → PastCheck8 n → ⊥
other n h (inl e) = true≢false (sym h ∙ ap other_than e)
other n h (inr e) = true≢false (sym h ∙ ap other_than e)

passed_step : (b : Bool) (n m : ℕ) → other_than n ≡ true → PastCheck8 (pick b n m) → (b ≡ false) × PastCheck8 m
passed_step true n m h f = absurd (other n h f)
passed_step false n m h f = (refl, f)

all_passed_lem : (ns rest : List ℕ) (cs : List Check) → others ns ≡ true → PastCheck8 (first_of (ns ++ rest) cs) → Passed ns cs
all_passed_lem [] rest cs h f = tt
all_passed_lem (n ∷ ns) rest cs h f =
    let hs = both_true (other_than n) (others ns) h in
    let w = passed_step (applies n cs) n (first_of (ns ++ rest) cs) hs.0 f in
    (w.0, all_passed_lem ns rest cs hs.1 w.1)

-- ── bytes that agree ──

-- the bytes behind two numbers
behind_two : (A A' : ℕ) (h : List ℕ) → take 32 (drop 8 (drop 8 (be64 A ++ (be64 A' ++ (h ++ []))))) ≡ take 32 (h ++ [])
behind_two A A' h =
    rw (drop_at (be64 A) (be64 A' ++ (h ++ [])) 8 (be64_length A), drop_at (be64 A') (h ++ []) 8 (be64_length A')) refl

-- what the strings of two leaves and of two records tell
leaf_tells : (A A' B B' : ℕ) (h h' : Dig) → length h ≡ 32 → length h' ≡ 32 → enc (leaf A A' h) ≡ enc (leaf B B' h') → h ≡ h'
unfolding enc
leaf_tells A A' B B' h h' n n' e =
    sym (take_at h [] 32 n) ∙ sym (behind_two A A' h) ∙ ap (λ (s : List ℕ). take 32 (drop 8 (drop 8 (tail s)))) e
    ∙ behind_two B B' h' ∙ take_at h' [] 32 n'

revision_in : (r : Record) → r.revision.0 < 2 ^ 64 → number_of (take 8 (tail (enc (entry r)))) ≡ r.revision.0
unfolding enc
revision_in r n =
    ap number_of (take_at (be64 r.revision.0) _ 8 (be64_length r.revision.0)) ∙ number_be64 r.revision.0 n

entry_tells : (r r' : Record) → r.revision.0 < 2 ^ 64 → r'.revision.0 < 2 ^ 64 → enc (entry r) ≡ enc (entry r')
    → r.revision.0 ≡ r'.revision.0
entry_tells r r' n n' e =
    sym (revision_in r n) ∙ ap (λ (l : List ℕ). number_of (take 8 (tail l))) e ∙ revision_in r' n'

-- ── a set's line at some registers ──

-- the checks before 8
abbrev before : List ℕ
before = numbers_before 8 order

-- a memorandum that may say one thing fits
fits_by : (b : Bool) → either (pick b false true) false ≡ false → b ≡ true
fits_by true h = refl
fits_by false h = absurd (true≢false h)

abbrev head_of : List Dig → Dig
head_of [] = []
head_of (d ∷ l) = d

-- of records that are not blank, one hash is one digest
hashes_by : (b b' : Bool) (z d d' : Dig) → b ≡ false → b' ≡ false → pick b z d ≡ pick b' z d' → d ≡ d'
hashes_by true b' z d d' e e' h = absurd (true≢false e)
hashes_by false true z d d' e e' h = absurd (true≢false e')
hashes_by false false z d d' e e' h = h

-- a set's line by what it says
record SetLine (line : List ℕ) : Type 0 where
  A : ℕ
  A' : ℕ
  old : Record
  v : Values
  y : Dig
  y' : Dig
  m : Dig
  is_set : request_of (bytes_of line) ≡ set_to A A' old v y y' m
  wide : fits (bytes_of line) ≡ true → length y ≡ 32

-- kind 0c is a set, and its y has 32 bytes where the frame has its length
set_line : (line : List ℕ) → kind_of (bytes_of line) ≡ 0x0c → SetLine line
unfolding request_of kinds fits
set_line line k =
    let f : List ℕ = bytes_of line in
    let row : ℕ → KindRow = row_of in
    let p : ℕ → List ℕ = part (row 0x0c).carries (drop 1 f) in
    record {
      A = number_of (p 0);
      A' = number_of (p 1);
      old = record_in (p 2);
      v = values_in (p 3);
      y = p 4;
      y' = p 5;
      m = p 6;
      is_set = ap (λ (n : ℕ). (row n).reads (part (row n).carries (drop 1 f))) k;
      wide = λ h.
          let g : both (eqb (length f) (1 + takes_all (row 0x0c).carries (drop 1 f))) (sound_all (row 0x0c).carries (drop 1 f)) ≡ true =
          subst
          (λ (n : ℕ). both (eqb (length f) (1 + takes_all (row n).carries (drop 1 f))) (sound_all (row n).carries (drop 1 f)) ≡ true)
          k h in
          let long = eqb-true (length f) 169 (both_true _ _ g).0 in
          length-take-le 32 (drop 24 (drop 32 (drop 8 (drop 8 (drop 1 f)))))
          (omega (
            arith,
            length-drop 24 (drop 32 (drop 8 (drop 8 (drop 1 f)))),
            length-drop 32 (drop 8 (drop 8 (drop 1 f))),
            length-drop 8 (drop 8 (drop 1 f)),
            length-drop 8 (drop 1 f),
            length-drop 1 f,
          ));
    }

module _ (D : List ℕ → Dig) (D32 : (l : List ℕ) → length (D l) ≡ 32) where
  module _ {line : List ℕ} (l : SetLine line) (r : Registers) (n : ℕ) where
    abbrev q : Request
    q = set_to l.A l.A' l.old l.v l.y l.y' l.m

    abbrev kind : ℕ
    kind = kind_of (bytes_of line)

    abbrev new : Record
    new = next_record r l.v

    abbrev new_leaf : Str
    new_leaf = leaf_of D l.A l.A' new

    abbrev says : Memo
    says = change_says D l.A l.A' l.old new l.y l.y'

    abbrev checks : List Check
    checks = room_for reply_room n ∷ is_hex line ∷ (frame_checks (bytes_of line) ++ needs D r q)

    judged : answer_to D r line n ≡ told_by D r kind q (judge order [] checks)
    unfolding answer_to
    judged = rw l.is_set refl

    number : (answer_to D r line n).refusal ≡ first_of order checks
    number = ap (λ (t : Told). t.refusal) judged ∙ number_is D r kind q order [] checks

    formed : (x : Str) → Passed before checks → Memᴰ x (formed_at 8 checks) → Memᴰ x (answer_to D r line n).formed
    formed x h i =
        rw judged (in_told D r kind q x (judge order [] checks) (reached x before 8 (9 ∷ 10 ∷ []) [] checks h i))

    -- the strings that tell the new revision
    memo_formed : MadeOf D (formed_at 8 checks) says r.secret
    memo_formed x i = Memᴰ.append_right (change_forms D l.A l.A' l.old new) (Memᴰ.append_left _ i)

    leaf_formed : Memᴰ new_leaf (formed_at 8 checks)
    leaf_formed =
        Memᴰ.append_left _
        (Memᴰ.append_right (leaf_forms D l.A l.A' l.old) (Memᴰ.append_right (record_forms new) (Memᴰ.head refl)))

    not_blank : blank new ≡ false
    not_blank = ne_eqb (r.counter.0 + 1) 0 (λ z. omega arith)

    entry_formed : Memᴰ (entry new) (formed_at 8 checks)
    unfolding record_forms
    entry_formed =
        Memᴰ.append_left _
        (Memᴰ.append_right (leaf_forms D l.A l.A' l.old) (Memᴰ.append_left {s = record_forms new} _
        (rw not_blank (Memᴰ.head refl))))

    -- a memorandum that fits is made of what it may say
    fitted : applies 8 checks ≡ false → memorandum D says r.secret ≡ l.m
    fitted h = same_true _ l.m (fits_by (same (memorandum D says r.secret) l.m) h)

    hash_long : length (record_hash D new) ≡ 32
    unfolding record_hash
    hash_long = rw not_blank (D32 (enc (entry new)))

    y_long : Passed before checks → length l.y ≡ 32
    y_long h = l.wide (opposite_false (fits (bytes_of line)) (the_one (passed_at 3 before checks h refl)))

  -- ── two counters ──

  module _ {line₀ line : List ℕ} (l₀ : SetLine line₀) (l : SetLine line) (s₀ s : Registers) (space₀ space : ℕ)
      (L : Later D s₀ s line₀ line space₀ space) where
    abbrev fs : List Str
    fs = (answer_to D s₀ line₀ space₀).formed ++ (answer_to D s line space).formed

    abbrev checks₀ : List Check
    checks₀ = checks l₀ s₀ space₀

    abbrev now : List Check
    now = checks l s space

    then_passed : Passed before checks₀ × Passed (8 ∷ []) checks₀
    then_passed =
        split_passed before (8 ∷ []) checks₀
        (all_passed_lem (before ++ (8 ∷ [])) (9 ∷ 10 ∷ []) checks₀ refl (subst PastCheck8 (number l₀ s₀ space₀) L.fitted))

    now_passed : Passed before now
    now_passed =
        subst (λ (p : Request). Passed before (room_for reply_room space ∷ is_hex line ∷ (frame_checks (bytes_of line) ++ needs D s p)))
        l.is_set L.passes

    -- the counter's top is refused by 7
    below : s.counter.0 < top
    below =
        let u = L.in_register in
        let n = eqb-false s.counter.0 top (the_one (passed_at 7 before now now_passed refl)) in
        omega (arith, n)

    one_memorandum : l₀.m ≡ l.m
    one_memorandum =
        ap head_of (ap (carried_memoranda D s₀) (sym l₀.is_set) ∙ L.one_memorandum ∙ ap (carried_memoranda D s) l.is_set)

    formed_then : (x : Str) → Memᴰ x (formed_at 8 checks₀) → Memᴰ x fs
    formed_then x i = Memᴰ.append_left _ (formed l₀ s₀ space₀ x then_passed.0 i)

    formed_now : (x : Str) → Memᴰ x (formed_at 8 now) → Memᴰ x fs
    formed_now x i = Memᴰ.append_right (answer_to D s₀ line₀ space₀).formed (formed l s space x now_passed i)

    records : record_hash D (new l₀ s₀ space₀) ≡ record_hash D (new l s space) → Collision D fs
    unfolding record_hash
    records h =
        let o = L.older in
        let u = below in
        or_same D fs (entry (new l₀ s₀ space₀)) (entry (new l s space)) (formed_then _ (entry_formed l₀ s₀ space₀))
        (formed_now _ (entry_formed l s space))
        (hashes_by (blank (new l₀ s₀ space₀)) (blank (new l s space)) nought _ _ (not_blank l₀ s₀ space₀) (not_blank l s space) h)
        (λ b. let n = entry_tells (new l₀ s₀ space₀) (new l s space) (omega arith) (omega arith) b in absurd (omega arith))

    leaves : digest_of D (new_leaf l₀ s₀ space₀) ≡ digest_of D (new_leaf l s space) → Collision D fs
    leaves h =
        or_same D fs (new_leaf l₀ s₀ space₀) (new_leaf l s space) (formed_then _ (leaf_formed l₀ s₀ space₀))
        (formed_now _ (leaf_formed l s space)) h
        (λ b. records (leaf_tells _ _ _ _ _ _ (hash_long l₀ s₀ space₀) (hash_long l s space) b))

    memos : applies 8 now ≡ false → Collision D fs
    memos h =
        one_new_half D fs _ l₀.y _ l₀.y' _ l.y _ l.y' s₀.secret s.secret
        (D32 _) (y_long l₀ s₀ space₀ then_passed.0) (D32 _) (D32 _) (y_long l s space now_passed) (D32 _)
        (λ x i. formed_then x (memo_formed l₀ s₀ space₀ x i)) (λ x i. formed_now x (memo_formed l s space x i))
        (fitted l₀ s₀ space₀ then_passed.1.0 ∙ one_memorandum ∙ sym (fitted l s space h)) leaves

    gets_8 : (b : Bool) → applies 8 now ≡ b → ((answer_to D s line space).refusal ≡ 8) ⊎ Collision D fs
    gets_8 true h =
        inl (number l s space ∙ passed_number before (8 ∷ 9 ∷ 10 ∷ []) now now_passed ∙ rw h refl)
    gets_8 false h = inr (memos h)

  pub older_gets_8 : OlderGets8 D
  older_gets_8 s₀ s line₀ line space₀ space L =
      gets_8 (set_line line₀ L.kind₀) (set_line line L.kind) s₀ s space₀ space L _ refl
