-- What the program owes for a line: what the turn says.
use Rattle.std.specs.Prelude.{◌≡◌, List, ℕ}
use Rattle.sha256.specs.Hash.{sha256}
use Rattle.turns.specs.declared.Desk.{Desk}
use Rattle.turns.specs.Turns.{turn_of}

-- by what memory was
pub record Due (d : Desk) (line text : List ℕ) : Type 0 where
  pub leaves : List ℕ
  pub nodes : List ℕ
  pub is : text ≡ (turn_of sha256 d line leaves nodes).text
