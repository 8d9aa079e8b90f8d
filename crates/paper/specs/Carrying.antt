-- The memoranda that a request carries, kind by kind: m, m1 and m2 of the table's column "carries". `carried_memoranda` gathers them from
-- the checks that compare them; that it comes to these and no other is `CarriesJustThese`, which `proofs/Carrying` shows.
use Rattle.std.specs.Prelude.{◌≡◌, List, [], ◌∷◌, ℕ}
use Rattle.paper.specs.declared.Registers.{Registers}
use Rattle.paper.specs.Strings.{Dig}
use Rattle.paper.specs.Requests.{Request, path, witness, join, pair, raise, swap, first, place, turn, chain, adopt, set_to, clear, ask, ask_none, unlock}
use Rattle.paper.specs.Refusals.{carried_memoranda}

abbrev pub memoranda : Request → List Dig
memoranda (path x x' sides l) = []
memoranda (witness x y m) = m ∷ []
memoranda (join x y x' y' m1 z z' m2) = m1 ∷ m2 ∷ []
memoranda (pair x1 y x1' y' m1 x2 z x2' z' m2) = m1 ∷ m2 ∷ []
memoranda (raise x1 x2 y x1' x2' y' m1 z z' m2) = m1 ∷ m2 ∷ []
memoranda (swap x1 x2 y y' m) = m ∷ []
memoranda (first A) = []
memoranda (place A A' B' ω y y' m) = m ∷ []
memoranda (turn x y m) = m ∷ []
memoranda (chain x y m1 z m2) = m1 ∷ m2 ∷ []
memoranda (adopt y y' m) = m ∷ []
memoranda (set_to A A' old v y y' m) = m ∷ []
memoranda (clear A A' old y y' m) = m ∷ []
memoranda (ask q A A' r y m) = m ∷ []
memoranda (ask_none q) = []
memoranda (unlock k) = []

abbrev pub CarriesJustThese : Type 0
CarriesJustThese = (D : List ℕ → Dig) (s : Registers) (q : Request) → carried_memoranda D s q ≡ memoranda q
