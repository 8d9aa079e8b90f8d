-- No request's count passes its ceiling: all strings that its checks and its answer can form cost no more.
use mathlib.Core.Path.{◌≡◌, refl, ◌∙◌}
use mathlib.Core.Bool.{Bool, true, false}
use mathlib.Core.List.{List, [], ◌∷◌, ◌++◌}
use Prim.Native.Nat.{ℕ, ◌+◌, ◌*◌, ◌/◌, ◌%◌, ◌≤◌}
use native.Mathlib.Omega.{arith}
use lib.Dec.{eqb}
use lib.ListN.{length, drop}
use Rattle.seqs.specs.Choose.{pick}
use Rattle.seqs.specs.Bytes.{same, all_zero}
use Rattle.hexadecimal.specs.Hex.{bytes_of}
use Rattle.paper.specs.declared.Record.{Record}
use Rattle.paper.specs.declared.Registers.{Registers}
use Rattle.paper.specs.Strings.{Dig, nought, Memo, u1, v1, u2, ei, Str, leaf, node, entry, cost, blank, record_forms, parent_forms, digest_of, memorandum, memorandum_forms, up, up_forms, fold_forms}
use Rattle.paper.specs.Requests as Q
use Rattle.paper.specs.Requests.{Request, kind_of, request_of}
use Rattle.paper.specs.Refusals.{Check, order, request_order, room_for, reply_room, is_hex, is_kind, is_frame, next_record, cleared_record, tried, first_memo, leaf_of, leaf_forms, change_forms, change_says, needs, those, forms_all, applies, formed_at, Verdict, refused_by, all_passed, formed_by, judge}
use Rattle.paper.specs.Answers.{answer}
use Rattle.paper.specs.Module.{frame_checks, told_by, answer_frame, answer_to}
use Rattle.paper.specs.Ceilings.{ceiling, Ceilings}

-- ── a verdict's strings are among those of its checks ──

pub cost_append : (a b : List Str) → cost (a ++ b) ≡ cost a + cost b
cost_append [] b = omega arith
cost_append (s ∷ a) b = omega (arith, cost_append a b)

-- what the checks of some numbers cost together
abbrev all : List ℕ → List Check → ℕ
all [] cs = 0
all (n ∷ ns) cs = cost (formed_at n cs) + all ns cs

judged_step : (b : Bool) (n : ℕ) (fs : List Str) (v : Verdict) (m k : ℕ) → cost fs ≤ m → cost (formed_by v) ≤ m + k
    → cost (formed_by (pick b (refused_by n fs) v)) ≤ m + k
judged_step true n fs v m k h i = omega arith
judged_step false n fs v m k h i = i

judged : (ns : List ℕ) (fs : List Str) (cs : List Check) → cost (formed_by (judge ns fs cs)) ≤ cost fs + all ns cs
judged [] fs cs = omega arith
judged (n ∷ ns) fs cs =
    let e = cost_append (formed_at n cs) fs in
    let r = judged ns (formed_at n cs ++ fs) cs in
    let m : ℕ = cost (formed_at n cs) + cost fs in
    let s = judged_step (applies n cs) n (formed_at n cs ++ fs) (judge ns (formed_at n cs ++ fs) cs) m (all ns cs)
    (omega arith) (omega arith) in
    omega arith

module _ (D : List ℕ → Dig) where
  told_cost : (s : Registers) (k : ℕ) (q : Request) (v : Verdict)
      → cost (told_by D s k q v).formed ≤ cost (answer D s q).forms + cost (formed_by v)
  told_cost s k q (refused_by n fs) = omega arith
  told_cost s k q (all_passed fs) = omega (arith, cost_append (answer D s q).forms fs)

  -- ── what each part costs ──

  none_or_none : (b : Bool) → cost (pick b [] []) ≡ 0
  none_or_none true = refl
  none_or_none false = refl

  none_or : (b : Bool) (l : List Str) → cost (pick b [] l) ≤ cost l
  none_or true l = omega arith
  none_or false l = omega arith

  parent_cost : (u v : Dig) → cost (parent_forms u v) ≤ 2
  unfolding parent_forms
  parent_cost u v =
      let f : List Str = node u v ∷ [] in
      omega (arith, none_or (all_zero v) (pick (all_zero u) [] f), none_or (all_zero u) f)

  record_cost : (r : Record) → cost (record_forms r) ≤ 1
  unfolding record_forms
  record_cost r = none_or (blank r) (entry r ∷ [])

  cleared_cost : cost (record_forms cleared_record) ≤ 0
  unfolding record_forms
  cleared_cost = omega arith

  up_cost : (u v : Dig) (b : Bool) → cost (pick b (parent_forms v u) (parent_forms u v)) ≤ 2
  up_cost u v true = parent_cost v u
  up_cost u v false = parent_cost u v

  fold_cost : (u : Dig) (sides : ℕ) (l : List Dig) → cost (fold_forms D u sides l) ≤ 2 * length l
  fold_cost u sides [] = omega arith
  fold_cost u sides (v ∷ l) =
      let here : List Str = up_forms D u v (sides % 2) in
      let rest : List Str = fold_forms D (up D u v (sides % 2)) (sides / 2) l in
      omega (arith, cost_append here rest, up_cost u v (eqb (sides % 2) 1), fold_cost (up D u v (sides % 2)) (sides / 2) l)

  -- after a memorandum that may say one thing, nothing else is tried
  one : (k : Dig) (t : Memo) (m : Dig) → cost (pick (same (memorandum D t k) m) [] []) ≡ 0
  one k t m = none_or_none (same (memorandum D t k) m)

  two : (k : Dig) (t t' : Memo) (m : Dig)
      → cost (pick (same (memorandum D t k) m) [] (tried D k (t' ∷ []) m)) ≤ cost (memorandum_forms D t' k)
  two k t t' m = omega (arith, none_or (same (memorandum D t k) m) (tried D k (t' ∷ []) m), one k t' m)

  leaf_cost : (A A' : ℕ) (r : Record) → cost (leaf_forms D A A' r) ≡ cost (record_forms r) + 1
  leaf_cost A A' r = cost_append (record_forms r) (leaf_of D A A' r ∷ [])

  change_cost : (A A' : ℕ) (old new : Record)
      → cost (change_forms D A A' old new) ≡ cost (record_forms old) + cost (record_forms new) + 2
  change_cost A A' old new =
      omega
      (arith, cost_append (leaf_forms D A A' old) (leaf_forms D A A' new), leaf_cost A A' old, leaf_cost A A' new)

  -- ── each request's strings together ──

  -- set and clear, whose new record costs no more than n
  changed : (s : Registers) (A A' : ℕ) (old new : Record) (y y' m : Dig) (n : ℕ) → cost (record_forms new) ≤ n
      → cost (first_memo D s (change_forms D A A' old new) (change_says D A A' old new y y' ∷ []) m).forms ≤ 6 + n
  changed s A A' old new y y' m n h =
      let t : Memo = change_says D A A' old new y y' in
      omega (
        arith,
        cost_append (change_forms D A A' old new) (tried D s.secret (t ∷ []) m),
        change_cost A A' old new,
        record_cost old,
        one s.secret t m,
      )

  rows : (s : Registers) (q : Request) → cost (answer D s q).forms + all order (needs D s q) ≤ ceiling q
  rows s (Q.path x x' sides l) =
      omega
      (arith, cost_append (fold_forms D x' sides l) (fold_forms D x sides l), fold_cost x' sides l, fold_cost x sides l)
  rows s (Q.witness x y m) = omega (arith, one s.secret (u1 x y x y) m)
  rows s (Q.join x y x' y' m1 z z' m2) =
      omega (arith, one s.secret (u1 x y x' y') m1, one s.secret (u1 y z y' z') m2)
  rows s (Q.pair x1 y x1' y' m1 x2 z x2' z' m2) =
      omega (
        arith,
        one s.secret (u1 x1 y x1' y') m1,
        one s.secret (u1 x2 z x2' z') m2,
        cost_append (parent_forms y' z') (parent_forms y z),
        parent_cost y' z',
        parent_cost y z,
      )
  rows s (Q.raise x1 x2 y x1' x2' y' m1 z z' m2) =
      omega (arith, one s.secret (u2 x1 x2 y x1' x2' y') m1, one s.secret (u1 y z y' z') m2)
  rows s (Q.swap x1 x2 y y' m) = omega (arith, one s.secret (u2 x1 x2 y x2 x1 y') m)
  rows s (Q.first A) = omega arith
  rows s (Q.place A A' B' ω y y' m) =
      let x1 = digest_of D (leaf A A' ω) in
      let x1' = digest_of D (leaf A B' ω) in
      let x2 = digest_of D (leaf A' B' nought) in
      omega (arith, two s.secret (u2 x1 x2 y x1' nought y') (u2 x2 x1 y nought x1' y') m)
  rows s (Q.turn x y m) = omega (arith, one s.secret (ei x y) m)
  rows s (Q.chain x y m1 z m2) = omega (arith, one s.secret (ei x y) m1, one s.secret (ei y z) m2)
  rows s (Q.adopt y y' m) = omega (arith, one s.secret (ei y y') m)
  rows s (Q.set_to A A' old v y y' m) =
      let new = next_record s v in
      omega (arith, changed s A A' old new y y' m 1 (record_cost new))
  rows s (Q.clear A A' old y y' m) = omega (arith, changed s A A' old cleared_record y y' m 0 cleared_cost)
  rows s (Q.ask q A A' r y m) =
      let t : Memo = v1 (digest_of D (leaf_of D A A' r)) y in
      omega (
        arith,
        cost_append (leaf_forms D A A' r) (tried D s.secret (t ∷ []) m),
        leaf_cost A A' r,
        record_cost r,
        one s.secret t m,
      )
  rows s (Q.ask_none q) = omega arith
  rows s (Q.unlock k) = omega arith

  -- a request whose frame's own checks are met
  pub request_cost : (s : Registers) (k : ℕ) (q : Request)
      → cost (told_by D s k q (judge request_order [] (needs D s q))).formed ≤ ceiling q
  request_cost s k q =
      let cs : List Check = needs D s q in
      omega (arith, told_cost s k q (judge request_order [] cs), judged request_order [] cs, rows s q)

  -- ── checks without strings cost nothing ──

  formless_by : (b : Bool) (c : Check) (l : List Check) → c.forms ≡ []
      → cost (forms_all (pick b (c ∷ l) l)) ≡ cost (forms_all l)
  formless_by true c l h = rw h (omega (arith, cost_append (forms_all l) []))
  formless_by false c l h = refl

  formless : (ns : List ℕ) (c : Check) (cs : List Check) → c.forms ≡ [] → all ns (c ∷ cs) ≡ all ns cs
  formless [] c cs h = refl
  formless (n ∷ ns) c cs h =
      omega (arith, formless_by (eqb c.number n) c (those n cs) h, formless ns c cs h)

  of_frame : (ns : List ℕ) (s : Registers) (f : List ℕ)
      → all ns (frame_checks f ++ needs D s (request_of f)) ≡ all ns (needs D s (request_of f))
  of_frame ns s f =
      let q = request_of f in
      formless ns (is_kind (kind_of f)) (is_frame f ∷ needs D s q) refl ∙ formless ns (is_frame f) (needs D s q) refl

  frame : (s : Registers) (f : List ℕ) → cost (answer_frame D s f).formed ≤ ceiling (request_of f)
  unfolding answer_frame
  frame s f =
      let q = request_of f in
      let cs : List Check = frame_checks f ++ needs D s q in
      omega (
        arith,
        told_cost s (kind_of f) q (judge (drop 2 order) [] cs),
        judged (drop 2 order) [] cs,
        of_frame (drop 2 order) s f,
        rows s q,
      )

  line : (s : Registers) (l : List ℕ) (space : ℕ) → cost (answer_to D s l space).formed ≤ ceiling (request_of (bytes_of l))
  unfolding answer_to
  line s l space =
      let f = bytes_of l in
      let q = request_of f in
      let cs : List Check = frame_checks f ++ needs D s q in
      let hs : List Check = is_hex l ∷ cs in
      let ws : List Check = room_for reply_room space ∷ hs in
      omega (
        arith,
        told_cost s (kind_of f) q (judge order [] ws),
        judged order [] ws,
        formless order (room_for reply_room space) hs refl,
        formless order (is_hex l) cs refl,
        of_frame order s f,
        rows s q,
      )

pub ceilings : (D : List ℕ → Dig) → Ceilings D
ceilings D = record { frame = frame D; line = line D }
