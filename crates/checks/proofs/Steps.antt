-- Checks made one after the other: the one law of all kinds, that a request whose row was walked comes to the outcome that the
-- paper's table gives.
use Rattle.std.proofs.Common.{◌≡◌, ℕ, ◌+◌, ◌%◌, ◌^◌, ◌≤◌, Bool, true, false, List, [], ◌∷◌, ◌++◌, length, refl, sym, ap, ap₂, ◌∙◌, subst, arith, le-leb}
use Rattle.std.specs.Prelude.{Some, Result, Ok, Err, OnOk}
use Rattle.seqs.specs.Choose.{pick, either, either_no, opposite, Every}
use Rattle.seqs.specs.Bytes.{all_zero, same}
use Rattle.sha256.specs.Hash.{sha256}
use Rattle.paper.specs.declared.Record.{Record}
use Rattle.paper.specs.declared.Registers.{Registers}
use Rattle.paper.specs.Strings.{Dig, Memo, Str, cost, entry, leaf, blank, memorandum, memorandum_forms, record_forms, record_hash}
use Rattle.paper.specs.Requests as Q
use Rattle.paper.specs.Refusals.{none_fits, tried, Check, request_order, needs, leaf_forms, Verdict, refused_by, all_passed, judge}
use Rattle.paper.specs.Answers.{AnswerParts, answer}
use Rattle.paper.specs.Module.{told_by}
use Rattle.paper.proofs.Ceilings.{cost_append}
use Rattle.replies.specs.declared.Outcome.{Outcome}
use Rattle.replies.specs.Outcomes.{number_told, outcome_of, outcome_for, refusal, listed}
use Rattle.places.specs.Places.{request_at}
use Rattle.places.proofs.Places.{answer_short}
use Rattle.checks.specs.declared.Desk.{Desk}
use Rattle.paper.specs.declared.Refusal.{Refusal}
use Rattle.paper.specs.Numbers.{refusal_number}
use Rattle.digests.specs.declared.Digest.{Digest}
use Rattle.digests.specs.declared.Says.{Says}
use Rattle.digests.specs.Speaking.{Spoken, made_of}
use Rattle.digests.proofs.Speaking.{made_of_lem}
use Rattle.checks.specs.Steps.{begun, blocks_more, held, outcome_at, walk, row}

-- ── a leaf costs two blocks at most ──

few_by : (b : Bool) (r : Record) (A A' : ℕ) (ω : Dig) → cost (pick b [] (entry r ∷ []) ++ (leaf A A' ω ∷ [])) ≤ 2
few_by true r A A' ω = omega arith
few_by false r A A' ω = omega arith

pub few_leaf : (A A' : ℕ) (r : Record) → cost (leaf_forms sha256 A A' r) ≤ 2
unfolding record_forms
few_leaf A A' r = few_by (blank r) r A A' (record_hash sha256 r)

-- ── all checks of a request ──

-- the first check that fails refuses; strings are formed no further
abbrev verdict : List Check → List Str → Verdict
verdict [] fs = all_passed fs
verdict (c ∷ l) fs = pick c.fails (refused_by c.number (c.forms ++ fs)) (verdict l (c.forms ++ fs))

pick_either : (a b : Bool) (x y : Verdict) → pick (either a b) x y ≡ pick a x (pick b x y)
pick_either true b x y = refl
pick_either false b x y = refl

-- so goes every kind's verdict: each row of `needs` is in the order of the numbers
walked : (s : Registers) (q : Q.Request) → judge request_order [] (needs sha256 s q) ≡ verdict (needs sha256 s q) []
walked s (Q.path x x' sides l) = simp either_no
walked s (Q.witness x y m) = simp either_no
walked s (Q.join x y x' y' m1 z z' m2) = simp either_no
walked s (Q.pair x1 y x1' y' m1 x2 z x2' z' m2) = simp either_no
walked s (Q.raise x1 x2 y x1' x2' y' m1 z z' m2) = simp either_no
walked s (Q.swap x1 x2 y y' m) = simp either_no
walked s (Q.first A) = simp either_no
walked s (Q.place A A' B' ω y y' m) = simp (either_no, pick_either)
walked s (Q.turn x y m) = simp either_no
walked s (Q.chain x y m1 z m2) = simp either_no
walked s (Q.adopt y y' m) = simp either_no
walked s (Q.set_to A A' old v y y' m) = simp (either_no, pick_either)
walked s (Q.clear A A' old y y' m) = simp (either_no, pick_either)
walked s (Q.ask q A A' r y m) = simp (either_no, pick_either)
walked s (Q.ask_none q) = simp either_no
walked s (Q.unlock k) = rw (either_no s.opened, either_no (all_zero k))

-- no check has the number 0, which stands for no refusal
abbrev Numbered : List Check → Type 0
Numbered = Every (λ c. number_told c.number ≡ Some c.number)

numbered : (s : Registers) (q : Q.Request) → Numbered (needs sha256 s q)
numbered s (Q.path x x' sides l) = (refl, tt)
numbered s (Q.witness x y m) = (refl, (refl, tt))
numbered s (Q.join x y x' y' m1 z z' m2) = (refl, (refl, (refl, tt)))
numbered s (Q.pair x1 y x1' y' m1 x2 z x2' z' m2) = (refl, (refl, (refl, tt)))
numbered s (Q.raise x1 x2 y x1' x2' y' m1 z z' m2) = (refl, (refl, (refl, tt)))
numbered s (Q.swap x1 x2 y y' m) = (refl, (refl, tt))
numbered s (Q.first A) = (refl, (refl, tt))
numbered s (Q.place A A' B' ω y y' m) = (refl, (refl, (refl, (refl, (refl, (refl, tt))))))
numbered s (Q.turn x y m) = (refl, (refl, tt))
numbered s (Q.chain x y m1 z m2) = (refl, (refl, (refl, tt)))
numbered s (Q.adopt y y' m) = (refl, (refl, (refl, tt)))
numbered s (Q.set_to A A' old v y y' m) = (refl, (refl, (refl, (refl, (refl, (refl, (refl, (refl, tt))))))))
numbered s (Q.clear A A' old y y' m) = (refl, (refl, (refl, (refl, (refl, (refl, (refl, (refl, tt))))))))
numbered s (Q.ask q A A' r y m) = (refl, (refl, (refl, (refl, (refl, (refl, (refl, (refl, tt))))))))
numbered s (Q.ask_none q) = (refl, (refl, (refl, tt)))
numbered s (Q.unlock k) = (refl, (refl, tt))

module _ (s : Registers) (kind : ℕ) (q : Q.Request) where
  abbrev a : AnswerParts
  a = answer sha256 s q

  abbrev told : Verdict → Outcome
  told v = outcome_of (told_by sha256 s kind q v)

  abbrev Comes : ℕ → List Str → List Check → Type 0
  Comes m fs l = walk s kind a m l ≡ told (verdict l fs)

  -- an answer that has room, or any refusal
  answered_as : (m : ℕ) (fs : List Str) → length a.lists ≤ 96 → m ≡ cost fs → Comes m fs []
  unfolding listed
  answered_as m fs room e =
      let k : m + cost a.forms ≡ cost (a.forms ++ fs) = omega (arith, e, cost_append a.forms fs) in
      rw (k, le-leb (length a.lists) 96 room) refl

  module _ (c : Check) (l : List Check) (m : ℕ) (fs : List Str) (h : Numbered (c ∷ l)) (e : m ≡ cost fs) where
    counted : m + cost c.forms ≡ cost (c.forms ++ fs)
    counted = omega (arith, e, cost_append c.forms fs)

    by_test : (b : Bool) (o : Outcome) (v : Verdict) → (b ≡ false → o ≡ told v)
        → pick b (refusal s c.number (m + cost c.forms)) o ≡ told (pick b (refused_by c.number (c.forms ++ fs)) v)
    by_test true o v f = rw (h.0, counted) refl
    by_test false o v f = f refl

  walk_is : (l : List Check) (m : ℕ) (fs : List Str) → length a.lists ≤ 96 → Numbered l → m ≡ cost fs → Comes m fs l
  walk_is [] m fs room h e = answered_as m fs room e
  walk_is (c ∷ l) m fs room h e =
      by_test c l m fs h e c.fails _ _ (λ x. walk_is l _ (c.forms ++ fs) room h.1 (counted c l m fs h e))

  -- a row that refuses does so whatever it would list
  walk_refused : (l : List Check) (m : ℕ) (fs : List Str) (t : Registers) (n b : ℕ) → refusal t n b ≡ walk s kind a m l → Numbered l
      → m ≡ cost fs → Comes m fs l
  walk_refused [] m fs t n b r h e = let x = ap (λ (o : Outcome). o.refused) r in cc
  walk_refused (c ∷ l) m fs t n b r h e =
      by_test c l m fs h e c.fails _ _
      (λ x. walk_refused l _ (c.forms ++ fs) t n b
      (r ∙ ap (λ (y : Bool). pick y (refusal s c.number (m + cost c.forms)) (walk s kind a (m + cost c.forms) l)) x) h.1
      (counted c l m fs h e))

  paper_says : Comes 0 [] (needs sha256 s q) → row s kind q ≡ outcome_for s kind q
  unfolding outcome_for
  paper_says e = e ∙ ap told (sym (walked s q))

  -- a request whose row was walked is answered as the paper says
  pub concluded : (a : Result (List ℕ) Refusal) (d : Desk) → outcome_at kind a d ≡ row s kind q
      → OnOk a (length (answer sha256 s q).lists ≤ 96) → outcome_at kind a d ≡ outcome_for s kind q
  concluded (Ok l) d e room = e ∙ paper_says (walk_is (needs sha256 s q) 0 [] room (numbered s q) refl)
  concluded (Err x) d e room =
      e ∙ paper_says (walk_refused (needs sha256 s q) 0 [] d.registers (refusal_number x) d.blocks e (numbered s q) refl)

-- the request that lies in a frame, as it was read, judged at a desk
pub answered : (s : Registers) (kind : ℕ) (f : List ℕ) {q : Q.Request} {d : Desk} {o : Outcome} → q ≡ request_at kind f → d ≡ begun s
    → o ≡ row d.registers kind q → o ≡ outcome_for s kind (request_at kind f)
answered s kind f {q} e b o =
    let room : length (answer sha256 s q).lists ≤ 96 =
    subst (λ (p : Q.Request). length (answer sha256 s p).lists ≤ 96) (sym e) (answer_short f kind s) in
    o ∙ ap (λ (d : Desk). row d.registers kind q) b
    ∙ paper_says s kind q (walk_is s kind q (needs sha256 s q) 0 [] room (numbered s q) refl) ∙ ap (outcome_for s kind) e

-- ── a memorandum by the bytes of what it says is the one of the paper's string, with its count ──

pub issues_it : {s : Says} {t : Memo} → Spoken s t → (k : Dig)
    → ((made_of s k).bytes ≡ memorandum sha256 t k) × ((made_of s k).blocks ≡ cost (memorandum_forms sha256 t k))
issues_it p k = let e = made_of_lem p k in (ap (λ (d : Digest). d.bytes) e, ap (λ (d : Digest). d.blocks) e)

none_of_one : (b : Bool) → opposite b ≡ pick b false true
none_of_one true = refl
none_of_one false = refl

none_behind : (fs : List Str) (b : Bool) → cost fs ≡ cost (fs ++ pick b [] [])
none_behind fs true = omega (arith, cost_append fs [])
none_behind fs false = omega (arith, cost_append fs [])

-- the check that m is the memorandum of what is said, by its bytes: it holds where the paper's does, and costs as much
pub fits_one : {E : Type 0} {s : Says} {t : Memo} → Spoken s t → (k m : Dig) (e : E)
    → let b = same (made_of s k).bytes m in
    let n = (made_of s k).blocks in
    (held b e ≡ held (same (memorandum sha256 t k) m) e)
    × (opposite b ≡ none_fits sha256 k (t ∷ []) m)
    × (n ≡ cost (memorandum_forms sha256 t k))
    × (n ≡ cost (tried sha256 k (t ∷ []) m))
fits_one {t = t} p k m e =
    let i = issues_it p k in
    let b = same (memorandum sha256 t k) m in (
      ap (λ (d : Dig). held (same d m) e) i.0,
      ap (λ (d : Dig). opposite (same d m)) i.0 ∙ none_of_one b,
      i.1,
      i.1 ∙ none_behind (memorandum_forms sha256 t k) b,
    )

two_tried : (b b' : Bool) → pick b true b' ≡ opposite (pick b false (pick b' false true))
two_tried true b' = refl
two_tried false true = refl
two_tried false false = refl

none_of_two : (b b' : Bool) → pick b false (opposite b') ≡ pick b false (pick b' false true)
none_of_two true b' = refl
none_of_two false b' = none_of_one b'

two_counted : (fs gs : List Str) (b b' : Bool) → cost fs + pick b 0 (cost gs) ≡ cost (fs ++ pick b [] (gs ++ pick b' [] []))
two_counted fs gs true b' = omega (arith, cost_append fs [])
two_counted fs gs false b' = omega (arith, none_behind gs b', cost_append fs (gs ++ pick b' [] []))

-- one work after the other comes to the work of both
worked_at : (b : Bool) (d : Desk) (n n' : ℕ) → pick b (blocks_more d n) (blocks_more (blocks_more d n) n') ≡ blocks_more d (n + pick b 0 n')
worked_at true d n n' =
    let e : (d.blocks + n) % 2 ^ 64 ≡ (d.blocks + (n + 0)) % 2 ^ 64 = omega arith in
    λ i. record { registers = d.registers; blocks = e i }
worked_at false d n n' =
    let e : ((d.blocks + n) % 2 ^ 64 + n') % 2 ^ 64 ≡ (d.blocks + (n + n')) % 2 ^ 64 = omega arith in
    λ i. record { registers = d.registers; blocks = e i }

-- the same where it may be that of one of two: the second is worked where the first does not fit, and so it is counted at a desk
pub fits_either : {E : Type 0} {s s' : Says} {t t' : Memo} → Spoken s t → Spoken s' t' → (k m : Dig) (e : E)
    → let b = same (made_of s k).bytes m in
    let b' = same (made_of s' k).bytes m in
    let n = (made_of s k).blocks in
    let n' = (made_of s' k).blocks in
    let ts : List Memo = t ∷ t' ∷ [] in
    (held (pick b true b') e ≡ held (opposite (none_fits sha256 k ts m)) e)
    × (pick b false (opposite b') ≡ none_fits sha256 k ts m)
    × (n + pick b 0 n' ≡ cost (tried sha256 k ts m))
    × ((d : Desk) → pick b (blocks_more d n) (blocks_more (blocks_more d n) n') ≡ blocks_more d (cost (tried sha256 k ts m)))
fits_either {s = s} {s'} {t} {t'} p p' k m e =
    let i = issues_it p k in
    let i' = issues_it p' k in
    let b = same (memorandum sha256 t k) m in
    let b' = same (memorandum sha256 t' k) m in
    let counted : (made_of s k).blocks + pick (same (made_of s k).bytes m) 0 (made_of s' k).blocks
    ≡ cost (tried sha256 k (t ∷ t' ∷ []) m)
    = (λ x. i.1 x + pick (same (i.0 x) m) 0 (i'.1 x)) ∙ two_counted (memorandum_forms sha256 t k) (memorandum_forms sha256 t' k) b b' in (
      ap₂ (λ (d d' : Dig). held (pick (same d m) true (same d' m)) e) i.0 i'.0 ∙ ap (λ (x : Bool). held x e) (two_tried b b'),
      ap₂ (λ (d d' : Dig). pick (same d m) false (opposite (same d' m))) i.0 i'.0 ∙ none_of_two b b',
      counted,
      λ d. worked_at (same (made_of s k).bytes m) d _ _ ∙ ap (blocks_more d) counted,
    )
