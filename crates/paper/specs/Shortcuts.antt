-- Shortcuts that look right (docs/PROTOCOL.md, 9.3): what they would let in is refused; and two more that are soon taken.
-- `proofs/Shortcuts` shows it.
use Rattle.std.specs.Prelude.{◌≡◌, true, false, ◌⊎◌, ℕ, eqb, length}
use mathlib.Core.List.{List, [], ◌++◌, Memᴰ}
use Rattle.paper.specs.declared.Record.{Record}
use Rattle.paper.specs.declared.Registers.{Registers}
use Rattle.paper.specs.declared.Values.{Values}
use Rattle.paper.specs.Strings.{Dig, nought, u1, Str, digest_of, memorandum, memorandum_forms, malformed, in_gap}
use Rattle.paper.specs.Requests.{Request, join, first, place, adopt, set_to, clear, ask}
use Rattle.paper.specs.Refusals.{Check, order, request_order, needs, carried_memoranda, Verdict, formed_by, judge, numbers_before, Passed}
use Rattle.paper.specs.Collisions.{Collision}
use Rattle.paper.specs.Answers.{answer}
use Rattle.paper.specs.Module.{refusal_of, checks_of}

module _ (D : List ℕ → Dig) where
  -- the verdict on a request that was read, and its refusal or 0
  abbrev pub verdict_on : Registers → Request → Verdict
  verdict_on s q = judge request_order [] (needs D s q)

  abbrev pub refusal_for : Registers → Request → ℕ
  refusal_for s q = refusal_of (verdict_on s q)

  pub record Shortcuts : Type 0 where
    -- §9.3.1: inserting without the gap test
    pub gap_tested : (s : Registers) (A A' B' : ℕ) (ω y y' m : Dig) → s.opened ≡ true
        → eqb A 0 ≡ false → eqb A' 0 ≡ false → eqb B' 0 ≡ false → in_gap A' A B' ≡ false
        → refusal_for s (place A A' B' ω y y' m) ≡ 6
    -- §9.3.2: a malformed record as an empty one, in an ask, a set and a clear
    pub malformed_asked : (s : Registers) (q A A' : ℕ) (r : Record) (y m : Dig) → s.opened ≡ true
        → eqb q 0 ≡ false → eqb A 0 ≡ false → eqb A' 0 ≡ false → malformed r ≡ true
        → refusal_for s (ask q A A' r y m) ≡ 5
    pub malformed_set : (s : Registers) (A A' : ℕ) (old : Record) (v : Values) (y y' m : Dig) → s.opened ≡ true
        → eqb A 0 ≡ false → eqb A' 0 ≡ false → malformed old ≡ true → refusal_for s (set_to A A' old v y y' m) ≡ 5
    pub malformed_cleared : (s : Registers) (A A' : ℕ) (old : Record) (y y' m : Dig) → s.opened ≡ true
        → eqb A 0 ≡ false → eqb A' 0 ≡ false → malformed old ≡ true → refusal_for s (clear A A' old y y' m) ≡ 5
    -- §9.3.3: only the old halves meet; m1 fits, and m2 was made for another new half w than y'
    pub halves_meet : (s : Registers) (x y x' y' z z' w : Dig) → s.opened ≡ true
        → length y ≡ 32 → length z ≡ 32 → length y' ≡ 32 → length w ≡ 32 → (w ≡ y' → ⊥)
        → (refusal_for s (join x y x' y' (memorandum D (u1 x y x' y') s.secret) z z' (memorandum D (u1 y z w z') s.secret)) ≡ 9)
        ⊎ Collision D (memorandum_forms D (u1 y z w z') s.secret ++ memorandum_forms D (u1 y z y' z') s.secret)
    -- §9.3.4: zeros as a memorandum; in every kind that carries one they get 8 or 9 where nothing before 8
    -- applies, unless it is the digest of a string formed for the line
    pub zero_given : (s : Registers) (q : Request) → Memᴰ nought (carried_memoranda D s q)
        → Passed (numbers_before 8 request_order) (needs D s q)
        → ((refusal_for s q ≡ 8) ⊎ (refusal_for s q ≡ 9))
        ⊎ ((x : Str) × Memᴰ x (formed_by (verdict_on s q)) × (digest_of D x ≡ nought))
    -- §6.1.1: 13 comes before 4
    pub shut_first : (s : Registers) → s.opened ≡ false → refusal_for s (first 0) ≡ 13
    -- the counter is of record changes: adopt leaves it
    pub adopt_keeps_counter : (s : Registers) (y y' m : Dig) → (answer D s (adopt y y' m)).after.counter ≡ s.counter
    -- the table is whole: every check of a line has a number of the order
    pub in_order : (s : Registers) (line : List ℕ) (space : ℕ) (c : Check) → Memᴰ c (checks_of D s line space)
        → Memᴰ c.number order
