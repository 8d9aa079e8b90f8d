-- Every string that a line forms is well formed: its numbers are below 2 ^ 64 and its digests have 32 bytes. A module that is
-- not open forms none.
use mathlib.Core.Path.{◌≡◌, refl, sym, ap, subst}
use mathlib.Core.Bool.{Bool, true, false}
use mathlib.Core.List.{List, [], ◌∷◌, ◌++◌, Memᴰ}
use Prim.Native.Nat.{ℕ, ◌+◌, ◌/◌, ◌%◌}
use native.Mathlib.Omega.{arith}
use borrow.Author.Tests.{eqb-false}
use lib.Dec.{eqb}
use lib.ListN.{length}
use Rattle.seqs.specs.Choose.{pick, either, ◌and◌, Every}
use Rattle.seqs.specs.Bytes.{same, all_zero}
use Rattle.paper.specs.declared.Record.{Record}
use Rattle.paper.specs.declared.Values.{Values}
use Rattle.paper.specs.declared.Registers.{Registers}
use Rattle.paper.specs.Strings.{Dig, nought, Memo, u1, v1, u2, ei, Str, leaf, node, entry, memo_string, enc, digest_of, memorandum, memorandum_forms, StringFits, blank, record_forms, parent_forms, H, up, up_forms, fold_up, fold_forms}
use Rattle.paper.specs.Requests as Q
use Rattle.paper.specs.Requests.{Request}
use Rattle.paper.specs.Refusals.{Check, top, next_record, cleared_record, place_forms, place_says, tried, leaf_of, leaf_forms, change_forms, change_says, needs, those, forms_all, applies, formed_at, Verdict, refused_by, all_passed, formed_by, judge, numbers_before}
use Rattle.paper.specs.Answers.{answer}
use Rattle.paper.specs.Module.{Told, told_by}
use Rattle.rings.proofs.Bridge.{record_32, parent_32}
use Rattle.rings.proofs.Paths.{AllWide, fold_up_32}
use Rattle.paper.proofs.Early.{late}
use Rattle.runs.specs.Sizes.{InEightBytes, RecordFits}
use Rattle.runs.proofs.Widths.{Is32, Wide}

-- ── lists of well formed strings ──

abbrev pub Well : List Str → Type 0
Well = Every StringFits

pub well_at : (l : List Str) (s : Str) → Well l → Memᴰ s l → StringFits s
well_at (t ∷ l) s h (Memᴰ.head e) = subst StringFits (sym e) h.0
well_at (t ∷ l) s h (Memᴰ.tail m) = well_at l s h.1 m
well_at [] s h x'' = elim x'' [ ]

pub well_append : (a b : List Str) → Well a → Well b → Well (a ++ b)
well_append [] b h k = k
well_append (s ∷ a) b h k = (h.0, well_append a b h.1 k)

well_pick : (b : Bool) (l m : List Str) → Well l → Well m → Well (pick b l m)
well_pick true l m h k = h
well_pick false l m h k = k

-- a counter below 2 ^ 64 stays so: at its top nothing is set or cleared
pub below_top_lem : (c : ℕ) → InEightBytes c → eqb c top ≡ false → InEightBytes (c + 1)
below_top_lem c h e = omega (arith, eqb-false c top e)

-- ── the strings of checks ──

abbrev WellChecks : List Check → Type 0
WellChecks = Every (λ c. Well c.forms)

well_those : (n : ℕ) (cs : List Check) → WellChecks cs → Well (formed_at n cs)
well_those n [] h = tt
well_those n (c ∷ cs) h = here (eqb c.number n) (well_those n cs h.1)
  where
    here : (b : Bool) → Well (formed_at n cs) → Well (forms_all (pick b (c ∷ those n cs) (those n cs)))
    here true k = well_append (formed_at n cs) c.forms k h.0
    here false k = k

well_judged : (ns : List ℕ) (fs : List Str) (cs : List Check) → WellChecks cs → Well fs → Well (formed_by (judge ns fs cs))
well_judged [] fs cs h k = k
well_judged (n ∷ ns) fs cs h k =
    let here = well_append (formed_at n cs) fs (well_those n cs h) k in
    step (applies n cs) here (well_judged ns (formed_at n cs ++ fs) cs h here)
  where
    step : (b : Bool) → Well (formed_at n cs ++ fs) → Well (formed_by (judge ns (formed_at n cs ++ fs) cs))
        → Well (formed_by (pick b (refused_by n (formed_at n cs ++ fs)) (judge ns (formed_at n cs ++ fs) cs)))
    step true i j = i
    step false i j = j

module _ (D : List ℕ → Dig) (D32 : (l : List ℕ) → length (D l) ≡ 32) where
  abbrev d32 : (s : Str) → Is32 (digest_of D s)
  d32 s = D32 (enc s)

  -- ── what the definitions form ──

  -- a memorandum's fields are sound; its strings, with those before it
  abbrev WellMemo : Memo → Dig → Type 0
  WellMemo t k = StringFits (memo_string t k)

  well_memo : (t : Memo) (k : Dig) (l : List Str) → WellMemo t k → Well l → Well (memorandum_forms D t k ++ l)
  well_memo t k l h i = (h, i)

  abbrev WellMemos : Dig → List Memo → Type 0
  WellMemos k = Every (λ t. WellMemo t k)

  well_tried : (k : Dig) (says : List Memo) (m : Dig) → WellMemos k says → Well (tried D k says m)
  well_tried k [] m h = tt
  well_tried k (t ∷ l) m h =
      let fits = same (memorandum D t k) m in
      well_memo t k (pick fits [] (tried D k l m)) h.0 (well_pick fits [] (tried D k l m) tt (well_tried k l m h.1))

  well_record : (r : Record) → RecordFits r → Well (record_forms r)
  unfolding record_forms
  well_record r h = well_pick (blank r) [] (entry r ∷ []) tt ((h.0 and h.1 and h.2 and h.3 and tt), tt)

  well_leaf : (A A' : ℕ) (r : Record) → InEightBytes A → InEightBytes A' → RecordFits r → Well (leaf_forms D A A' r)
  well_leaf A A' r hA hA' h =
      well_append (record_forms r) (leaf_of D A A' r ∷ []) (well_record r h) ((hA and hA' and record_32 D D32 r and tt), tt)

  well_change : (A A' : ℕ) (old new : Record) → InEightBytes A → InEightBytes A' → RecordFits old → RecordFits new
      → Well (change_forms D A A' old new)
  well_change A A' old new hA hA' h k =
      well_append (leaf_forms D A A' old) (leaf_forms D A A' new) (well_leaf A A' old hA hA' h) (well_leaf A A' new hA hA' k)

  well_parent : (u v : Dig) → Is32 u → Is32 v → Well (parent_forms u v)
  unfolding parent_forms
  well_parent u v hu hv =
      well_pick (all_zero v) [] (pick (all_zero u) [] (node u v ∷ [])) tt
      (well_pick (all_zero u) [] (node u v ∷ []) tt ((hu, (hv, tt)), tt))

  up_32 : (u s : Dig) (bit : ℕ) → Is32 u → Is32 s → Is32 (up D u s bit)
  up_32 u s bit hu hs = side (eqb bit 1)
    where
      side : (b : Bool) → Is32 (pick b (H D s u) (H D u s))
      side true = parent_32 D D32 s u hs hu
      side false = parent_32 D D32 u s hu hs

  well_fold : (u : Dig) (sides : ℕ) (l : List Dig) → Is32 u → AllWide l → Well (fold_forms D u sides l)
  well_fold u sides [] hu hl = tt
  well_fold u sides (s ∷ l) hu hl =
      well_append (up_forms D u s (sides % 2)) (fold_forms D (up D u s (sides % 2)) (sides / 2) l)
      (well_pick (eqb (sides % 2) 1) (parent_forms s u) (parent_forms u s) (well_parent s u hl.0 hu)
      (well_parent u s hu hl.0))
      (well_fold (up D u s (sides % 2)) (sides / 2) l (up_32 u s (sides % 2) hu hl.0) hl.1)

  -- ── what a line's request comes to ──

  -- the answer to a request whose line is read
  abbrev answered : Registers → (kind : ℕ) → Request → Told
  answered s kind q = told_by D s kind q (judge late [] (needs D s q))

  -- Where no string is formed: an opening, and a set at the counter's top.
  opening : (s : Registers) (kind : ℕ) (k : Dig) → (answered s kind (Q.unlock k)).formed ≡ []
  opening s kind k = by_tests s.opened (all_zero k)
    where
      by_tests : (b c : Bool)
          → (told_by D s kind (Q.unlock k) (pick (either b false) (refused_by 14 []) (pick (either c false) (refused_by 12 []) (all_passed [])))
          ).formed ≡ []
      by_tests true c = refl
      by_tests false true = refl
      by_tests false false = refl

  -- numbers whose checks form nothing
  abbrev Formless : List ℕ → List Check → Type 0
  Formless [] cs = Unit {0}
  Formless (n ∷ ns) cs = (formed_at n cs ≡ []) × Formless ns cs

  -- behind such numbers a check of one more applies
  stopped : (s : Registers) (kind : ℕ) (q : Request) (ns : List ℕ) (n : ℕ) (rest : List ℕ) (cs : List Check) → Formless ns cs
      → formed_at n cs ≡ [] → applies n cs ≡ true → (told_by D s kind q (judge (ns ++ (n ∷ rest)) [] cs)).formed ≡ []
  stopped s kind q [] n rest cs f g a = rw (a, g) refl
  stopped s kind q (i ∷ ns) n rest cs f g a = rw f.0 (step (applies i cs) (stopped s kind q ns n rest cs f.1 g a))
    where
      step : (b : Bool) → (told_by D s kind q (judge (ns ++ (n ∷ rest)) [] cs)).formed ≡ []
          → (told_by D s kind q (pick b (refused_by i []) (judge (ns ++ (n ∷ rest)) [] cs))).formed ≡ []
      step true h = refl
      step false h = h

  at_top_lem : (s : Registers) (kind A A' : ℕ) (old : Record) (v : Values) (y y' m : Dig) → eqb s.counter.0 top ≡ true
      → (answered s kind (Q.set_to A A' old v y y' m)).formed ≡ []
  at_top_lem s kind A A' old v y y' m h =
      let q = Q.set_to A A' old v y y' m in
      stopped s kind q (numbers_before 7 late) 7 (8 ∷ 9 ∷ 10 ∷ []) (needs D s q)
      (refl and refl and refl and refl and refl and refl and refl and refl and tt) refl (rw h refl)

  -- Else a module that is not open refuses by 13, before it forms any; and with a secret of 32 bytes all that the checks form
  -- is well formed.
  data Forms (s : Registers) (q : Request) : Type 0 where
    none_at_all : ((kind : ℕ) → (answered s kind q).formed ≡ []) → Forms s q
    of_checks : (s.opened ≡ false → judge late [] (needs D s q) ≡ refused_by 13 []) → (Is32 s.secret → WellChecks (needs D s q))
        → Forms s q

  -- ── every kind ──

  module _ (s : Registers) where
    abbrev key : Dig
    key = s.secret

    -- a check that asks for one memorandum, with strings before it or without
    says : (t : Memo) (m : Dig) → WellMemo t key → Well (tried D key (t ∷ []) m)
    says t m h = well_tried key (t ∷ []) m (h, tt)

    says_after : (l : List Str) (t : Memo) (m : Dig) → Well l → WellMemo t key → Well (l ++ tried D key (t ∷ []) m)
    says_after l t m k h = well_append l (tried D key (t ∷ []) m) k (says t m h)

    -- of a set or a clear
    says_change : (A A' : ℕ) (old new : Record) (y y' m : Dig) → InEightBytes A → InEightBytes A' → RecordFits old → RecordFits new → Is32 y
        → Is32 y' → Is32 key → Well (change_forms D A A' old new ++ tried D key (change_says D A A' old new y y' ∷ []) m)
    says_change A A' old new y y' m hA hA' ho hn hy hy' k =
        says_after (change_forms D A A' old new) (change_says D A A' old new y y') m (well_change A A' old new hA hA' ho hn)
        (d32 _ and hy and d32 _ and hy' and k and tt)

    -- check by check of its list; `tt` is one that forms nothing
    forms : (q : Request) → InEightBytes s.counter.0 → Wide q → Forms s q
    forms (Q.path x x' sides l) c w = of_checks (λ o. rw o refl) (λ k. tt and tt)
    forms (Q.witness x y m) c w =
        of_checks (λ o. rw o refl) (λ k. tt and says (u1 x y x y) m (w.0 and w.1 and w.0 and w.1 and k and tt) and tt)
    forms (Q.join x y x' y' m1 z z' m2) c w =
        of_checks (λ o. rw o refl) (λ k.
        tt and says (u1 x y x' y') m1 (w.0 and w.1 and w.2 and w.3 and k and tt)
        and says (u1 y z y' z') m2 (w.1 and w.4 and w.3 and w.5 and k and tt) and tt)
    forms (Q.pair x1 y x1' y' m1 x2 z x2' z' m2) c w =
        of_checks (λ o. rw o refl) (λ k.
        tt and says (u1 x1 y x1' y') m1 (w.0 and w.1 and w.2 and w.3 and k and tt)
        and says (u1 x2 z x2' z') m2 (w.4 and w.5 and w.6 and w.7 and k and tt) and tt)
    forms (Q.raise x1 x2 y x1' x2' y' m1 z z' m2) c w =
        of_checks (λ o. rw o refl) (λ k.
        tt and says (u2 x1 x2 y x1' x2' y') m1 (w.0 and w.1 and w.2 and w.3 and w.4 and w.5 and k and tt)
        and says (u1 y z y' z') m2 (w.2 and w.6 and w.5 and w.7 and k and tt) and tt)
    forms (Q.swap x1 x2 y y' m) c w =
        of_checks (λ o. rw o refl) (λ k.
        tt and says (u2 x1 x2 y x2 x1 y') m (w.0 and w.1 and w.2 and w.1 and w.0 and w.3 and k and tt) and tt)
    forms (Q.first A) c w = of_checks (λ o. rw o refl) (λ k. tt and tt and tt)
    forms (Q.place A A' B' ω y y' m) c w =
        of_checks (λ o. rw o refl) (λ k.
        let leaves : Well (place_forms A A' B' ω) =
        (w.0 and w.1 and w.3 and tt) and (w.0 and w.2 and w.3 and tt) and (w.1 and w.2 and refl and tt) and tt in
        let says' = place_says D A A' B' ω y y' in
        let memos : WellMemos key says' =
        (d32 _ and d32 _ and w.4 and d32 _ and refl and w.5 and k and tt)
        and (d32 _ and d32 _ and w.4 and refl and d32 _ and w.5 and k and tt) and tt in
        let tries = well_append (place_forms A A' B' ω) (tried D key says' m) leaves (well_tried key says' m memos) in
        tt and tt and tt and tt and tt and tries and tt)
    forms (Q.turn x y m) c w = of_checks (λ o. rw o refl) (λ k. tt and says (ei x y) m (w.0 and w.1 and k and tt) and tt)
    forms (Q.chain x y m1 z m2) c w =
        of_checks (λ o. rw o refl) (λ k.
        tt and says (ei x y) m1 (w.0 and w.1 and k and tt) and says (ei y z) m2 (w.1 and w.2 and k and tt) and tt)
    forms (Q.adopt y y' m) c w =
        of_checks (λ o. rw o refl) (λ k. tt and says (ei y y') m (w.0 and w.1 and k and tt) and tt and tt)
    forms (Q.set_to A A' old v y y' m) c w = by_counter (eqb s.counter.0 top) refl
      where
        by_counter : (b : Bool) → eqb s.counter.0 top ≡ b → Forms s (Q.set_to A A' old v y y' m)
        by_counter true e = none_at_all (λ kind. at_top_lem s kind A A' old v y y' m e)
        by_counter false e =
            let new = next_record s v in
            let new-small : RecordFits new = (below_top_lem s.counter.0 c e, w.3.0, w.3.1, w.3.2) in
            of_checks (λ o. rw o refl) (λ k.
            tt and tt and tt and tt and tt and tt
            and says_change A A' old new y y' m w.0 w.1 w.2 new-small w.4 w.5 k and tt and tt)
    forms (Q.clear A A' old y y' m) c w =
        of_checks (λ o. rw o refl) (λ k.
        let zeros : RecordFits cleared_record = (omega arith, omega arith, omega arith, omega arith) in
        tt and tt and tt and tt and tt and tt
        and says_change A A' old cleared_record y y' m w.0 w.1 w.2 zeros w.3 w.4 k and tt and tt)
    forms (Q.ask q A A' r y m) c w =
        of_checks (λ o. rw o refl) (λ k.
        let leaf-well = well_leaf A A' r w.1 w.2 w.3 in
        tt and tt and tt and tt and tt and tt
        and says_after (leaf_forms D A A' r) (v1 (digest_of D (leaf_of D A A' r)) y) m leaf-well (d32 _ and w.4 and k and tt)
        and tt and tt)
    forms (Q.ask_none q) c w = of_checks (λ o. rw o refl) (λ k. tt and tt and tt and tt)
    forms (Q.unlock n) c w = none_at_all (λ kind. opening s kind n)

    well_answer : (q : Request) → Is32 key → Wide q → Well (answer D s q).forms
    well_answer (Q.path x x' sides l) k w =
        let y = fold_up D x sides l in
        let y' = fold_up D x' sides l in
        let y-32 = fold_up_32 D D32 x sides l w.0 w.2 in
        let y'-32 = fold_up_32 D D32 x' sides l w.1 w.2 in
        well_memo (u1 x y x' y') key (fold_forms D x' sides l ++ fold_forms D x sides l) (w.0 and y-32 and w.1 and y'-32 and k and tt)
        (well_append (fold_forms D x' sides l) (fold_forms D x sides l) (well_fold x' sides l w.1 w.2)
        (well_fold x sides l w.0 w.2))
    well_answer (Q.witness x y m) k w = well_memo (v1 x y) key [] (w.0 and w.1 and k and tt) tt
    well_answer (Q.join x y x' y' m1 z z' m2) k w =
        well_memo (u1 x z x' z') key [] (w.0 and w.4 and w.2 and w.5 and k and tt) tt
    well_answer (Q.pair x1 y x1' y' m1 x2 z x2' z' m2) k w =
        let n = parent_32 D D32 y z w.1 w.5 in
        let n' = parent_32 D D32 y' z' w.3 w.7 in
        well_memo (u2 x1 x2 (H D y z) x1' x2' (H D y' z')) key (parent_forms y' z' ++ parent_forms y z)
        (w.0 and w.4 and n and w.2 and w.6 and n' and k and tt)
        (well_append (parent_forms y' z') (parent_forms y z) (well_parent y' z' w.3 w.7) (well_parent y z w.1 w.5))
    well_answer (Q.raise x1 x2 y x1' x2' y' m1 z z' m2) k w =
        well_memo (u2 x1 x2 z x1' x2' z') key [] (w.0 and w.1 and w.6 and w.3 and w.4 and w.7 and k and tt) tt
    well_answer (Q.swap x1 x2 y y' m) k w = well_memo (ei y y') key [] (w.2 and w.3 and k and tt) tt
    well_answer (Q.first A) k w =
        let x = leaf A A nought in
        well_memo (ei nought (digest_of D x)) key (x ∷ []) (refl and d32 x and k and tt) ((w and w and refl and tt) and tt)
    well_answer (Q.place A A' B' ω y y' m) k w = well_memo (ei y y') key [] (w.4 and w.5 and k and tt) tt
    well_answer (Q.turn x y m) k w = well_memo (ei y x) key [] (w.1 and w.0 and k and tt) tt
    well_answer (Q.chain x y m1 z m2) k w = well_memo (ei x z) key [] (w.0 and w.2 and k and tt) tt
    well_answer (Q.adopt y y' m) k w = tt
    well_answer (Q.set_to A A' old v y y' m) k w = tt
    well_answer (Q.clear A A' old y y' m) k w = tt
    well_answer (Q.ask q A A' r y m) k w = tt
    well_answer (Q.ask_none q) k w = tt
    well_answer (Q.unlock n) k w = tt

    -- ── a line that is read ──

    pub closed_forms : (kind : ℕ) (q : Request) → InEightBytes s.counter.0 → Wide q → s.opened ≡ false
        → (answered s kind q).formed ≡ []
    closed_forms kind q c w o = by_forms (forms q c w)
      where
        by_forms : Forms s q → (answered s kind q).formed ≡ []
        by_forms (none_at_all e) = e kind
        by_forms (of_checks e h) = ap (λ (v : Verdict). (told_by D s kind q v).formed) (e o)

    pub well_formed_lem : (kind : ℕ) (q : Request) → InEightBytes s.counter.0 → Is32 key → Wide q → Well (answered s kind q).formed
    well_formed_lem kind q c k w = by_forms (forms q c w)
      where
        by_verdict : (v : Verdict) → Well (formed_by v) → Well (told_by D s kind q v).formed
        by_verdict (refused_by n fs) h = h
        by_verdict (all_passed fs) h = well_append (answer D s q).forms fs (well_answer q k w) h

        by_forms : Forms s q → Well (answered s kind q).formed
        by_forms (none_at_all e) = subst Well (sym (e kind)) tt
        by_forms (of_checks e h) = by_verdict (judge late [] (needs D s q)) (well_judged late [] (needs D s q) (h k) tt)
