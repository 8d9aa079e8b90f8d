-- The rows by hand: what is in a list of two and in its ring, and arithmetic.
use mathlib.Core.Path.{◌≡◌, refl, sym, ap, ◌∙◌}
use mathlib.Core.Bool.{Bool, true, false, true≢false}
use mathlib.Core.List.Memᴰ
use mathlib.Core.List.{List, [], ◌∷◌, ◌++◌, append-nil}
use mathlib.Core.Logic.{◌≢◌}
use Prim.Native.Nat.{ℕ}
use native.Mathlib.Omega.{arith}
use lib.Dec.{eqb}
use lib.ListN.{length}
use Rattle.seqs.specs.Choose.{pick, either, ◌and◌, Every}
use Rattle.seqs.specs.Bytes.{Bytes, be64, same_refl}
use Rattle.hexadecimal.specs.Hex.{digits_of}
use Rattle.paper.specs.declared.Record.{Record}
use Rattle.paper.specs.declared.Registers.{Registers}
use Rattle.paper.specs.declared.Values.{Values}
use Rattle.paper.specs.Strings.{Dig, v1, empty_record, blank, malformed, silly_mass, in_gap, digest_of, memorandum}
use Rattle.paper.specs.Requests as Q
use Rattle.paper.specs.Refusals.{reply_room, next_record, leaf_of, change_says, needs, judge}
use Rattle.paper.specs.Answers.{finding_of, finding_bytes}
use Rattle.paper.specs.Module.{Told, told_by, answer_to}
use Rattle.paper.proofs.Early.{late}
use Rattle.rings.specs.Trees.{TreeLeaf, points}
use Rattle.rings.specs.Lists.{ListItem, item_with, OnList, Unlisted}
use Rattle.runs.specs.Run.{World}
use Rattle.runs.specs.Safety.{Neighbours}
use Rattle.runs.specs.Frames.{record_bytes, values_bytes}
use Rattle.runs.specs.ByHand.{values_of, rotor, small, wishes, findings, ListRowSays, questions, RepliedSo, settings, SetSo, ListByHand}
use Rattle.runs.specs.Sizes.{InEightBytes, ValuesFit, RecordFits}
use Rattle.runs.proofs.Parts.{IsDigest}
use Rattle.runs.proofs.Accepted.{NoneFails}
use Rattle.runs.proofs.Frames.{Sendable}
use Rattle.runs.proofs.Fed.{told_as, told_is}

-- ── what is listed ──

at_5 : OnList 5 empty_record small
at_5 = Memᴰ.head refl

at_9 : OnList 9 rotor small
at_9 = Memᴰ.tail (Memᴰ.head refl)

abbrev number_in : ListItem Record → ℕ
number_in (item_with A r) = A

abbrev record_in : ListItem Record → Record
record_in (item_with A r) = r

no_other : {A : ℕ} {r : Record} → A ≢ 5 → A ≢ 9 → OnList A r small → ⊥
no_other n m (Memᴰ.head e) = n (ap number_in e)
no_other n m (Memᴰ.tail (Memᴰ.head e)) = m (ap number_in e)
no_other {A = A} {r = r} n m (Memᴰ.tail (Memᴰ.tail x8)) = elim x8 [ ]

-- the only record that an item has, and its numbers
only_at_5 : {r : Record} → OnList 5 r small → r ≡ empty_record
only_at_5 (Memᴰ.head e) = ap record_in e
only_at_5 (Memᴰ.tail (Memᴰ.head e)) = absurd (omega (arith, ap number_in e))
only_at_5 {r = r} (Memᴰ.tail (Memᴰ.tail x8)) = elim x8 [ ]

only_at_9 : {r : Record} → OnList 9 r small → r ≡ rotor
only_at_9 (Memᴰ.head e) = absurd (omega (arith, ap number_in e))
only_at_9 (Memᴰ.tail (Memᴰ.head e)) = ap record_in e
only_at_9 {r = r} (Memᴰ.tail (Memᴰ.tail x8)) = elim x8 [ ]

abbrev revision_of : Record → ℕ
revision_of r = r.revision.0

abbrev mass_of : Record → ℕ
mass_of r = r.mass.0

abbrev offset_of : Record → ℕ
offset_of r = r.offset.0

abbrev rigging_of : Record → ℕ
rigging_of r = r.rigging.0

unlisted : (A : ℕ) → A ≢ 5 → A ≢ 9 → Unlisted A small
unlisted A n m = (n, (m, tt))

-- ── neighbours ──

abbrev from_of : TreeLeaf → ℕ
from_of (points A A' ω) = A

abbrev to_of : TreeLeaf → ℕ
to_of (points A A' ω) = A'

module _ (D : List ℕ → Dig) where
  from_5 : Neighbours D 5 9 small
  from_5 = (empty_record, at_5, Memᴰ.head refl)

  from_9 : Neighbours D 9 5 small
  from_9 = (rotor, at_9, Memᴰ.tail (Memᴰ.head refl))

  -- 5 leads to 9 alone
  only_to_9 : {A' : ℕ} → A' ≢ 9 → Neighbours D 5 A' small → ⊥
  only_to_9 n (r, h, Memᴰ.head e) = n (ap to_of e)
  only_to_9 n (r, h, Memᴰ.tail (Memᴰ.head e)) = absurd (omega (arith, ap from_of e))
  only_to_9 n (r, h, Memᴰ.tail (Memᴰ.tail x9)) = elim x9 [ ]

  -- ── the rows ──

  legal : Every (ListRowSays D) wishes
  legal =
      -- insert
      omega arith
      and omega arith
      and (λ h. omega (arith, h.0))
      and (λ h. h.2.0 refl)
      and (λ h. h.2.1.0 refl)
      and (λ h. omega (arith, h.1))
      -- remove
      and at_5
      and (λ h. omega (arith, ap revision_of (only_at_9 h)))
      and no_other (omega arith) (omega arith)
      -- swap
      and (omega arith, (_, at_5), (_, at_9))
      and (omega arith, (_, at_9), (_, at_5))
      and (λ h. h.0 refl)
      and (λ h. no_other (omega arith) (omega arith) h.2.1)
      and (λ h. no_other (omega arith) (omega arith) h.1.1)
      -- set
      and ((_, at_5), omega arith, omega arith)
      and ((_, at_9), omega arith, omega arith)
      and ((_, at_9), omega arith, omega arith)
      and (λ h. omega (arith, h.2.0))
      and (λ h. omega (arith, h.2.1))
      and (λ h. omega (arith, h.2.1))
      and (λ h. no_other (omega arith) (omega arith) h.0.1)
      and (λ h. omega (arith, h.1.0))
      and (λ h. omega (arith, h.1.1))
      and (λ h. omega (arith, h.1.2))
      -- clear
      and (_, at_9, refl)
      and (λ h. true≢false (sym (ap blank (only_at_5 h.1)) ∙ h.2))
      and (λ h. no_other (omega arith) (omega arith) h.1)
      -- ask
      and omega arith
      and omega arith
      and omega arith
      and omega arith
      and (λ h. omega (arith, h.0))
      and (λ h. omega (arith, h.1))
      and tt

  true_findings : Every (ListRowSays D) findings
  unfolding in_gap
  true_findings =
      -- a record
      (refl, refl, at_9)
      and (λ h. omega (arith, ap revision_of (only_at_9 h.2)))
      and (λ h. omega (arith, ap mass_of (only_at_9 h.2)))
      and (λ h. omega (arith, ap offset_of (only_at_9 h.2)))
      and (λ h. omega (arith, ap rigging_of (only_at_9 h.2)))
      and (λ h. omega (arith, h.0))
      and (λ h. omega (arith, ap revision_of (only_at_5 h.2)))
      and (λ h. true≢false h.1)
      -- listed
      and (refl, at_5)
      and (λ h. omega (arith, ap revision_of (only_at_9 h.1)))
      and (λ h. omega (arith, h.0))
      and (λ h. no_other (omega arith) (omega arith) h.1)
      -- a gap
      and (refl, unlisted 7 (omega arith) (omega arith), from_5)
      and (refl, unlisted 12 (omega arith) (omega arith), from_9)
      and (refl, unlisted 2 (omega arith) (omega arith), from_9)
      and (λ h. true≢false (sym h.0))
      and (λ h. true≢false (sym h.0))
      and (λ h. true≢false (sym h.0))
      and (λ h. true≢false (sym h.0))
      and (λ h. true≢false (sym h.0))
      and (λ h. only_to_9 (omega arith) h.2)
      and (λ h. only_to_9 (omega arith) h.2)
      and (λ h. h.1.1.0 refl)
      and tt

-- ── replies ──

small_rotor : RecordFits rotor
small_rotor = (omega arith, omega arith, omega arith, omega arith)

small_none : RecordFits empty_record
small_none = (omega arith, omega arith, omega arith, omega arith)

module _ (D : List ℕ → Dig) (D32 : (l : List ℕ) → length (D l) ≡ 32) (DB : (l : List ℕ) → Bytes (D l)) where
  abbrev frame : (q A A' : ℕ) → Record → (rest : List ℕ) → List ℕ
  frame q A A' r rest = 0x0e ∷ (be64 q ++ (be64 A ++ (be64 A' ++ (record_bytes r ++ rest))))

  -- a question whose root and memorandum fit is answered by the finding that it asks for
  reply : (q A A' : ℕ) (r : Record) (s : Registers) → s.opened ≡ true → length s.root ≡ 32 → Bytes s.root
      → InEightBytes q → InEightBytes A → InEightBytes A' → RecordFits r
      → eqb q 0 ≡ false → eqb A 0 ≡ false → eqb A' 0 ≡ false → malformed r ≡ false
      → either (eqb q A) (in_gap q A A') ≡ true
      → (let m = memorandum D (v1 (digest_of D (leaf_of D A A' r)) s.root) s.secret in
      (answer_to D s (digits_of (frame q A A' r (s.root ++ m))) reply_room).says ≡ 0x8e ∷ finding_bytes (finding_of q A A' r))
  reply q A A' r s o n b hq hA hA' hr q0 A0 A'0 ok near =
      let w : World = record { registers = s; formed = []; book = []; items = []; changed = 0 } in
      let t = v1 (digest_of D (leaf_of D A A' r)) s.root in
      let m = memorandum D t s.secret in
      let a = Q.ask q A A' r s.root m in
      let ok-y : IsDigest s.root = record { wide = n; bytes = b } in
      let ok-m : IsDigest m = record { wide = D32 _; bytes = DB _ } in
      let sendable : Sendable a = (hq, hA, hA', hr, (ok-y, (ok-m, tt))) in
      let passes : NoneFails (needs D s a) =
      rw o refl and q0 and A0 and A'0 and ok and rw near refl and rw (same_refl m) refl and rw (same_refl s.root) refl and tt in
      ap (λ (x : List ℕ). (answer_to D s (digits_of (frame q A A' r (s.root ++ x))) reply_room).says) (sym (append-nil m))
      ∙ ap (λ (x : Told). x.says) (told_is D w a sendable passes)

  replies : Every (RepliedSo D) questions
  unfolding be64 finding_of malformed in_gap
  replies =
      (λ s o n b. reply 9 9 5 rotor s o n b (omega arith) (omega arith) (omega arith) small_rotor refl refl refl refl refl)
      and (λ s o n b. reply 5 5 9 empty_record s o n b (omega arith) (omega arith) (omega arith) small_none refl refl refl refl refl)
      and (λ s o n b. reply 7 5 9 empty_record s o n b (omega arith) (omega arith) (omega arith) small_none refl refl refl refl refl)
      and tt

  -- ── sets ──

  abbrev set_to9 : Values → (rest : List ℕ) → List ℕ
  set_to9 v rest = 0x0c ∷ (be64 9 ++ (be64 5 ++ (record_bytes rotor ++ (values_bytes v ++ rest))))

  -- a set of item 9 whose root and memorandum fit is answered by its mass alone
  set_said : (v : Values) (silly : Bool) (s : Registers) (y' : Dig) → s.opened ≡ true → s.counter.0 ≡ 3
      → silly_mass v.mass.0 ≡ silly
      → (let m = memorandum D (change_says D 9 5 rotor (next_record s v) s.root y') s.secret in
      let q = Q.set_to 9 5 rotor v s.root y' m in
      (told_by D s 0x0c q (judge late [] (needs D s q))).says ≡ pick silly (0x00 ∷ 0x10 ∷ []) (0x8c ∷ (y' ++ be64 4)))
  unfolding malformed
  set_said v true s y' o c mass = rw (o, mass) refl
  set_said v false s y' o c mass = rw (o, mass, c, same_refl, same_refl s.root) refl

  setting : (v : Values) (silly : Bool) (s : Registers) (y' : Dig) → s.opened ≡ true → s.counter.0 ≡ 3 → length s.root ≡ 32
      → Bytes s.root → length y' ≡ 32 → Bytes y' → ValuesFit v → silly_mass v.mass.0 ≡ silly
      → (let m = memorandum D (change_says D 9 5 rotor (next_record s v) s.root y') s.secret in
      (answer_to D s (digits_of (set_to9 v (s.root ++ (y' ++ m)))) reply_room).says ≡ pick silly (0x00 ∷ 0x10 ∷ []) (0x8c ∷ (y' ++ be64 4)))
  setting v silly s y' o c n b n' b' fit mass =
      let w : World = record { registers = s; formed = []; book = []; items = []; changed = 0 } in
      let m = memorandum D (change_says D 9 5 rotor (next_record s v) s.root y') s.secret in
      let q = Q.set_to 9 5 rotor v s.root y' m in
      let ok-y : IsDigest s.root = record { wide = n; bytes = b } in
      let ok-y' : IsDigest y' = record { wide = n'; bytes = b' } in
      let ok-m : IsDigest m = record { wide = D32 _; bytes = DB _ } in
      let sendable : Sendable q = (omega arith, omega arith, small_rotor, fit, (ok-y, (ok-y', (ok-m, tt)))) in
      ap (λ (x : List ℕ). (answer_to D s (digits_of (set_to9 v (s.root ++ (y' ++ x)))) reply_room).says) (sym (append-nil m))
      ∙ ap (λ (x : Told). x.says) (told_as D w q sendable)
      ∙ set_said v silly s y' o c mass

  sets : Every (SetSo D) settings
  unfolding be64 silly_mass
  sets =
      (λ s y' o c n b n' b'. setting (values_of 61400 1250 3) false s y' o c n b n' b' (omega arith) refl)
      and (λ s y' o c n b n' b'. setting (values_of 2000000 1250 3) false s y' o c n b n' b' (omega arith) refl)
      and (λ s y' o c n b n' b'. setting (values_of 61400000 1250 3) true s y' o c n b n' b' (omega arith) refl)
      and tt

pub by_hand : ListByHand
by_hand = record { legal = legal; true_findings = true_findings; replies = replies; sets = sets }
