-- The checks of a line and of its frame come before those of its request: no request needs one of their numbers. So a line that is
-- read is answered as its request is.
use mathlib.Core.Path.{◌≡◌, refl, sym, ap, ◌∙◌}
use mathlib.Core.Bool.{Bool, true, false, true≢false}
use mathlib.Core.List.{List, [], ◌∷◌}
use Prim.Native.Nat.{ℕ}
use borrow.Author.Tests.{eqb-true}
use lib.Dec.{eqb, ltb}
use lib.ListN.{drop}
use Rattle.seqs.specs.Choose.{pick, both, either, both_true}
use Rattle.hexadecimal.specs.Hex.{bytes_of}
use Rattle.paper.specs.declared.Registers.{Registers}
use Rattle.paper.specs.Strings.{Dig}
use Rattle.paper.specs.Requests as Q
use Rattle.paper.specs.Requests.{Request, kind_of, known, fits, request_of}
use Rattle.paper.specs.Refusals.{Check, order, reply_room, is_hex, needs, those, judge}
use Rattle.paper.specs.Module.{told_by, answer_to}

-- a number is one of some numbers
abbrev pub among : ℕ → List ℕ → Bool
among n [] = false
among n (i ∷ ns) = either (eqb i n) (among n ns)

-- every check has one of the numbers
abbrev pub numbered : List ℕ → List Check → Bool
numbered ns [] = true
numbered ns (c ∷ cs) = both (among c.number ns) (numbered ns cs)

-- the numbers of the checks of requests
abbrev pub late : List ℕ
late = drop 4 order

pub numbered_late : (D : List ℕ → Dig) (s : Registers) (q : Request) → numbered late (needs D s q) ≡ true
numbered_late D s (Q.path x x' sides l) = refl
numbered_late D s (Q.witness x y m) = refl
numbered_late D s (Q.join x y x' y' m1 z z' m2) = refl
numbered_late D s (Q.pair x1 y x1' y' m1 x2 z x2' z' m2) = refl
numbered_late D s (Q.raise x1 x2 y x1' x2' y' m1 z z' m2) = refl
numbered_late D s (Q.swap x1 x2 y y' m) = refl
numbered_late D s (Q.first A) = refl
numbered_late D s (Q.place A A' B' ω y y' m) = refl
numbered_late D s (Q.turn x y m) = refl
numbered_late D s (Q.chain x y m1 z m2) = refl
numbered_late D s (Q.adopt y y' m) = refl
numbered_late D s (Q.set_to A A' old v y y' m) = refl
numbered_late D s (Q.clear A A' old y y' m) = refl
numbered_late D s (Q.ask q A A' r y m) = refl
numbered_late D s (Q.ask_none q) = refl
numbered_late D s (Q.unlock k) = refl

-- so there is no check of any other number
pub none_of : (n : ℕ) (ns : List ℕ) (cs : List Check) → among n ns ≡ false → numbered ns cs ≡ true → those n cs ≡ []
none_of n ns [] a h = refl
none_of n ns (c ∷ cs) a h =
    let p = both_true (among c.number ns) (numbered ns cs) h in
    by_number (eqb c.number n) refl p.0 ∙ none_of n ns cs a p.1
  where
    by_number : (b : Bool) → eqb c.number n ≡ b → among c.number ns ≡ true → pick b (c ∷ those n cs) (those n cs) ≡ those n cs
    by_number true e m = absurd (true≢false (sym m ∙ ap (λ (k : ℕ). among k ns) (eqb-true c.number n e) ∙ a))
    by_number false e m = refl

-- none of some checks is of 15 or 1, which are the line's, or of 2 or 3, which are the frame's
pub record NoneEarly (cs : List Check) : Type 0 where
  pub of_15 : those 15 cs ≡ []
  pub of_1 : those 1 cs ≡ []
  pub of_2 : those 2 cs ≡ []
  pub of_3 : those 3 cs ≡ []

pub none_early : (D : List ℕ → Dig) (s : Registers) (q : Request) → NoneEarly (needs D s q)
none_early D s q =
    let cs : List Check = needs D s q in
    let h = numbered_late D s q in
    record {
      of_15 = none_of 15 late cs refl h;
      of_1 = none_of 1 late cs refl h;
      of_2 = none_of 2 late cs refl h;
      of_3 = none_of 3 late cs refl h;
    }

-- where no check of the line or of its frame fails, it is answered as its request is
pub read_is : (D : List ℕ → Dig) (s : Registers) (line : List ℕ) (space : ℕ) → ltb space reply_room ≡ false
    → (is_hex line).fails ≡ false → known (kind_of (bytes_of line)) ≡ true → fits (bytes_of line) ≡ true
    → (let q = request_of (bytes_of line) in
    answer_to D s line space ≡ told_by D s (kind_of (bytes_of line)) q (judge late [] (needs D s q)))
unfolding answer_to
read_is D s line space h i j k =
    let e = none_early D s (request_of (bytes_of line)) in
    rw (h, i, j, k, e.of_15, e.of_1, e.of_2, e.of_3) refl
