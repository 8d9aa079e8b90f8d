-- The paper's numbers to check by hand, from the definitions: each row computes.
use mathlib.Core.Path.{◌≡◌, refl, ap, ap₂, ◌∙◌}
use mathlib.Core.Bool.{Bool, true, false, true≢false}
use mathlib.Core.List.{List, [], ◌∷◌, ◌++◌}
use Prim.Native.Nat.{ℕ, zero, suc, ◌+◌, ◌*◌, ◌/◌, ◌%◌, ◌≤◌}
use native.Mathlib.Omega.{arith}
use native.Mathlib.Decide.{dec_le}
use borrow.Author.Tests.{eq-eqb, ne_eqb, lt-ltb, le-ltb}
use lib.Dec.{eqb}
use lib.ListN.{length, replicate}
use Rattle.seqs.specs.Choose.{pick, opposite, either_no, ◌and◌, Every}
use Rattle.seqs.specs.Bytes.{be64, all_zero, same_refl}
use Rattle.hexadecimal.specs.Hex.{is_digit, value_of, digit_of, line_of, bytes_of}
use Rattle.hexadecimal.proofs.Laws.{bytes_length}
use Rattle.paper.specs.declared.Record.{Record}
use Rattle.paper.specs.declared.Registers.{Registers}
use Rattle.paper.specs.declared.Values.{Values}
use Rattle.paper.specs.Strings.{Dig, nought, v1, Str, node, cost, digest_of, memorandum, parent_forms, up, up_forms, fold_forms, blank, malformed, silly_mass, in_gap, record_hash, H}
use Rattle.paper.specs.Requests as Q
use Rattle.paper.specs.Requests.{Request, most_siblings, kinds, kind_of, known, fits, request_of}
use Rattle.paper.specs.Refusals.{longest_frame, reply_room, top, next_record, cleared_record, leaf_of, change_says, needs}
use Rattle.paper.specs.Module.{Told, unopened, answer_to}
use Rattle.paper.proofs.Frames.{fits_path}
use Rattle.paper.proofs.Ceilings.{cost_append}
use Rattle.paper.proofs.Early.{late, none_early, read_is}
use Rattle.paper.proofs.Room.{room}
use Rattle.paper.proofs.Verdicts.{first_of, number_is}
use Rattle.paper.specs.ByHand.{ByHand, NoneZero, NoZeroDigest, PathOf64, ones, PathReaches259, EdgesOf65, RowSays, table, ReadsAs, set_row, clear_row, ask_row, MassRowSays, masses, Runs, whole_run}

rows : (D : List ℕ → Dig) (u : Dig) → Every (RowSays D) (table u)
unfolding in_gap H record_hash malformed
rows D u =
    refl and refl and refl and refl and refl and refl and refl and refl and refl and refl and refl and refl and refl
    and refl and refl and refl and refl and refl and refl and refl and refl and refl and refl and refl
    and refl and refl and refl and refl and refl and refl and refl and refl and refl and refl and refl and refl and refl and refl
    and refl and refl and refl and refl and refl and tt

-- q above, below or equal to A
gap_of_one : (q A : ℕ) → eqb q 0 ≡ false → in_gap q A A ≡ opposite (eqb q A)
unfolding in_gap
gap_of_one q A z = by_order (dec_le A q) (dec_le q A)
  where
    by_order : Dec (A ≤ q) → Dec (q ≤ A) → in_gap q A A ≡ opposite (eqb q A)
    by_order (yes h) (yes g) =
        rw (z, le-ltb A A (omega arith), le-ltb A q g, le-ltb q A h, eq-eqb q A (omega arith)) refl
    by_order (yes h) (no g) =
        rw (z, le-ltb A A (omega arith), lt-ltb A q (omega (arith, g)), ne_eqb q A (λ e. g (omega arith))) refl
    by_order (no h) g =
        rw
        (z, le-ltb A A (omega arith), le-ltb A q (omega (arith, h)), lt-ltb q A (omega (arith, h)), ne_eqb q A (λ e. h (omega arith)))
        refl

-- ── a path without a zero: every level forms a node ──

module _ (D : List ℕ → Dig) where
  parent_cost : (u v : Dig) → all_zero u ≡ false → all_zero v ≡ false → cost (parent_forms u v) ≡ 2
  unfolding parent_forms
  parent_cost u v h g = rw (h, g) refl

  -- a node whose digest is not zero: the parent is not zero, and the strings behind it are left
  parent_on : (u v : Dig) (rest : List Str) → all_zero u ≡ false → all_zero v ≡ false → NoZeroDigest D (parent_forms u v ++ rest)
      → (all_zero (H D u v) ≡ false) × NoZeroDigest D rest
  unfolding parent_forms H
  parent_on u v rest h g n = by (all_zero u) (all_zero v) h g n
    where
      by : (p q : Bool) → p ≡ false → q ≡ false → NoZeroDigest D (pick q [] (pick p [] (node u v ∷ [])) ++ rest)
          → (all_zero (pick q u (pick p v (digest_of D (node u v)))) ≡ false) × NoZeroDigest D rest
      by false false h g n = (n.0, n.1)
      by true q h g n = absurd (true≢false h)
      by false true h g n = absurd (true≢false g)

  up_on : (b : Bool) (u v : Dig) (rest : List Str) → all_zero u ≡ false → all_zero v ≡ false
      → NoZeroDigest D (pick b (parent_forms v u) (parent_forms u v) ++ rest)
      → (all_zero (pick b (H D v u) (H D u v)) ≡ false) × NoZeroDigest D rest
  up_on true u v rest h g n = parent_on v u rest g h n
  up_on false u v rest h g n = parent_on u v rest h g n

  up_cost : (b : Bool) (u v : Dig) → all_zero u ≡ false → all_zero v ≡ false
      → cost (pick b (parent_forms v u) (parent_forms u v)) ≡ 2
  up_cost true u v h g = parent_cost v u g h
  up_cost false u v h g = parent_cost u v h g

  fold_cost : (u : Dig) (sides : ℕ) (l : List Dig) → all_zero u ≡ false → NoneZero l → NoZeroDigest D (fold_forms D u sides l)
      → cost (fold_forms D u sides l) ≡ 2 * length l
  fold_cost u sides [] h g n = refl
  fold_cost u sides (v ∷ l) h g n =
      let b = eqb (sides % 2) 1 in
      let w = up D u v (sides % 2) in
      let on = up_on b u v (fold_forms D w (sides / 2) l) h g.0 n in
      omega (
        arith,
        cost_append (up_forms D u v (sides % 2)) (fold_forms D w (sides / 2) l),
        up_cost b u v h g.0,
        fold_cost w (sides / 2) l on.0 g.1 on.1,
      )

path_of_64 : (D : List ℕ → Dig) → PathOf64 D
path_of_64 D s x x' sides l z n f f' =
    omega (
      arith,
      cost_append (fold_forms D x' sides l) (fold_forms D x sides l),
      fold_cost D x sides l z.0 z.1.1 f,
      fold_cost D x' sides l z.1.0 z.1.1 f',
    )

none_zero : (n : ℕ) → NoneZero (replicate n ones)
none_zero zero = tt
none_zero (suc n) = (refl, none_zero n)

never_zero : (l : List Str) → NoZeroDigest (λ b. ones) l
never_zero [] = tt
never_zero (s ∷ l) = (refl, never_zero l)

path_reaches : PathReaches259
path_reaches =
    let l : List Dig = replicate most_siblings ones in
    let D : List ℕ → Dig = λ b. ones in
    let f = never_zero (fold_forms D ones 0 l) in
    path_of_64 D (unopened nought) ones ones 0 l (none_zero (2 + most_siblings)) refl f f

-- 65 is above 64, whatever the sides say, and 65 siblings make more than 4,244 digits
edges : (D : List ℕ → Dig) (s : Registers) (l : List ℕ) → EdgesOf65 D s l
unfolding answer_to known kinds
edges D s l =
    let f = bytes_of l in
    let early = none_early D s (request_of f) in
    record {
      gets_3 =
          λ digits n k c.
          let long : length f ≡ longest_frame = omega (arith, bytes_length l) in
          let short : fits f ≡ false = fits_path f k ∙ rw (long, c) refl in
          rw (n, digits, early.of_15, early.of_1, early.of_2, early.of_3, k, short) refl;
      gets_1 = λ n. rw (n, early.of_15) refl;
    }

-- a line that is read gets its request's first number
judged : (D : List ℕ → Dig) (s : Registers) (line : List ℕ) (kind : ℕ) (q : Request) → known kind ≡ true → ReadsAs line kind q
    → (answer_to D s line reply_room).refusal ≡ first_of late (needs D s q)
judged D s line kind q k r =
    ap (λ (t : Told). t.refusal) (read_is D s line reply_room refl r.hex (rw r.of_kind k) r.fit)
    ∙ number_is D s (kind_of (bytes_of line)) (request_of (bytes_of line)) late [] (needs D s (request_of (bytes_of line)))
    ∙ ap (λ (p : Request). first_of late (needs D s p)) r.request

-- which of its checks a set, a clear or an ask comes to when all else is right
abbrev set_number : (A : ℕ) (old : Record) (mass counter : ℕ) → ℕ
set_number A old mass c =
    pick (eqb A 0) 4 (pick (malformed old) 5 (pick (silly_mass mass) 16 (pick (eqb c top) 7 0)))

abbrev clear_number : Record → ℕ
clear_number old = pick (malformed old) 5 (pick (blank old) 11 0)

abbrev ask_number : Record → ℕ
ask_number r = pick (malformed r) 5 0

module _ (D : List ℕ → Dig) (s : Registers) (o : s.opened ≡ true) where
  set_first : (A A' : ℕ) (old : Record) (v : Values) (y' : Dig) → eqb A' 0 ≡ false
      → (let m = memorandum D (change_says D A A' old (next_record s v) s.root y') s.secret in
      first_of late (needs D s (Q.set_to A A' old v s.root y' m)) ≡ set_number A old v.mass.0 s.counter.0)
  set_first A A' old v y' z = simp (o, z, either_no, same_refl)

  clear_first : (A A' : ℕ) (old : Record) (y' : Dig) → eqb s.counter.0 top ≡ false → eqb A 0 ≡ false → eqb A' 0 ≡ false
      → (let m = memorandum D (change_says D A A' old cleared_record s.root y') s.secret in
      first_of late (needs D s (Q.clear A A' old s.root y' m)) ≡ clear_number old)
  clear_first A A' old y' t z z' = simp (o, t, z, z', either_no, same_refl)

  ask_first : (A A' : ℕ) (r : Record) → eqb A 0 ≡ false → eqb A' 0 ≡ false
      → (let m = memorandum D (v1 (digest_of D (leaf_of D A A' r)) s.root) s.secret in
      first_of late (needs D s (Q.ask A A A' r s.root m)) ≡ ask_number r)
  ask_first A A' r z z' = simp (o, z, z', eq-eqb A A refl, either_no, same_refl)

module _ (D : List ℕ → Dig) where
  set_row_lem : (A : ℕ) (old : Record) (mass c n : ℕ) → set_number A old mass c ≡ n → MassRowSays D (set_row A old mass c n)
  unfolding known kinds
  set_row_lem A old mass c n h s A' v y' line o e em z r =
      judged D s line 0x0c _ refl r ∙ set_first D s o A A' old v y' z ∙ ap₂ (set_number A old) em e ∙ h

  clear_row_lem : (old : Record) (n : ℕ) → clear_number old ≡ n → MassRowSays D (clear_row old n)
  unfolding known kinds
  clear_row_lem old n h s A A' y' line o t z z' r = judged D s line 0x0d _ refl r ∙ clear_first D s o A A' old y' t z z' ∙ h

  ask_row_lem : (r : Record) (n : ℕ) → ask_number r ≡ n → MassRowSays D (ask_row r n)
  unfolding known kinds
  ask_row_lem r n h s A A' line o z z' l = judged D s line 0x0e _ refl l ∙ ask_first D s o A A' r z z' ∙ h

  masses_judged : Every (MassRowSays D) masses
  unfolding silly_mass malformed
  masses_judged =
      set_row_lem _ _ _ _ _ refl
      and set_row_lem _ _ _ _ _ refl
      and set_row_lem _ _ _ _ _ refl
      and set_row_lem _ _ _ _ _ refl
      and set_row_lem _ _ _ _ _ refl
      and set_row_lem _ _ _ _ _ refl
      and set_row_lem _ _ _ _ _ refl
      and set_row_lem _ _ _ _ _ refl
      and set_row_lem _ _ _ _ _ refl
      and set_row_lem _ _ _ _ _ refl
      and set_row_lem _ _ _ _ _ refl
      and set_row_lem _ _ _ _ _ refl
      and set_row_lem _ _ _ _ _ refl
      and set_row_lem _ _ _ _ _ refl
      and clear_row_lem _ _ refl
      and clear_row_lem _ _ refl
      and ask_row_lem _ _ refl
      and ask_row_lem _ _ refl
      and tt

run : (D : List ℕ → Dig) → Runs D (unopened nought) whole_run
unfolding is_digit value_of digit_of line_of kinds known fits request_of be64 answer_to
run D = refl and refl and refl and refl and refl and refl and refl and refl and refl and tt

pub by_hand : ByHand
by_hand =
    record {
      rows = rows;
      gap_of_one = gap_of_one;
      path = path_of_64;
      path_reaches = path_reaches;
      room = room;
      edges = edges;
      masses_judged = masses_judged;
      run = run;
    }
