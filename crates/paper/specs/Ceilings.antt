-- The most blocks that a request may cost (§3.7.8). `proofs/Ceilings` shows it.
use Rattle.std.specs.Prelude.{List, ℕ, ◌+◌, ◌*◌, ◌≤◌, length}
use Rattle.hexadecimal.specs.Hex.{bytes_of}
use Rattle.paper.specs.declared.Registers.{Registers}
use Rattle.paper.specs.Strings.{Dig, cost}
use Rattle.paper.specs.Requests.{Request, path, witness, join, pair, raise, swap, first, place, turn, chain, adopt, set_to, clear, ask, ask_none, unlock, request_of}
use Rattle.paper.specs.Module.{answer_frame, answer_to}

-- the column "most blocks" of the table of kinds
abbrev pub ceiling : Request → ℕ
ceiling (path x x' sides l) = 4 * length l + 3
ceiling (witness x y m) = 5
ceiling (join x y x' y' m1 z z' m2) = 9
ceiling (pair x1 y x1' y' m1 x2 z x2' z' m2) = 14
ceiling (raise x1 x2 y x1' x2' y' m1 z z' m2) = 11
ceiling (swap x1 x2 y y' m) = 6
ceiling (first A) = 3
ceiling (place A A' B' ω y y' m) = 13
ceiling (turn x y m) = 4
ceiling (chain x y m1 z m2) = 6
ceiling (adopt y y' m) = 2
ceiling (set_to A A' old v y y' m) = 7
ceiling (clear A A' old y y' m) = 6
ceiling (ask q A A' r y m) = 4
ceiling (ask_none q) = 0
ceiling (unlock k) = 0

-- for every registers, and every frame or line with its space: refused or answered, well formed or not
pub record Ceilings (D : List ℕ → Dig) : Type 0 where
  pub frame : (s : Registers) (f : List ℕ) → cost (answer_frame D s f).formed ≤ ceiling (request_of f)
  pub line : (s : Registers) (l : List ℕ) (space : ℕ)
      → cost (answer_to D s l space).formed ≤ ceiling (request_of (bytes_of l))
