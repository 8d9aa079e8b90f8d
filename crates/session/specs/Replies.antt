-- What a session of lines is answered (§1.2.3): one reply line for each.
use Rattle.std.specs.Prelude.{List, [], ◌∷◌, ◌++◌, ℕ}
use Rattle.sha256.specs.Hash.{sha256}
use Rattle.paper.specs.declared.Registers.{Registers}
use Rattle.paper.specs.Refusals.{reply_room}
use Rattle.paper.specs.Module.{Told, answer_to, reply_line}

-- a line on registers s, where its reply has the room that every reply fits
abbrev pub told_of : Registers → List ℕ → Told
told_of s l = answer_to sha256 s l reply_room

-- §4.1.6: one reply line for each, in order, each line answered on the registers that the one before it left
abbrev pub replies_to : Registers → List (List ℕ) → List ℕ
replies_to s [] = []
replies_to s (l ∷ ls) = reply_line (told_of s l) ++ replies_to (told_of s l).after ls

-- the registers behind the last line
abbrev pub registers_behind : Registers → List (List ℕ) → Registers
registers_behind s [] = s
registers_behind s (l ∷ ls) = registers_behind (told_of s l).after ls
