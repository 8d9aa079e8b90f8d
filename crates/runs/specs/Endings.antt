-- How a run may end, only at something that can be shown: two different strings, formed for its lines, with one digest (§8.3.5); one
-- whose digest is 0 (§8.3.6); a memorandum in an accepted line that no earlier line issued (§8.3.7).
use Rattle.std.specs.Prelude.{◌≡◌, false, ℕ}
use mathlib.Core.List.{List, ◌∷◌, Memᴰ}
use Rattle.hexadecimal.specs.Hex.{bytes_of}
use Rattle.paper.specs.Strings.{Dig}
use Rattle.paper.specs.Requests.{request_of}
use Rattle.paper.specs.Refusals.{carried_memoranda}
use Rattle.paper.specs.Collisions.{Collision}
use Rattle.rings.specs.Endings.{ZeroDigest}
use Rattle.runs.specs.Run.{LineTurn, World, is_issued, told_at, after}

module _ (D : List ℕ → Dig) where
  -- an accepted line that carries a memorandum which no line before it issued
  pub record Forged (w : World) (t : LineTurn) : Type 0 where
    pub accepted : (told_at D w t).refusal ≡ 0
    pub memorandum : Dig
    pub carries : Memᴰ memorandum (carried_memoranda D w.registers (request_of (bytes_of t.line)))
    pub unissued : is_issued memorandum w.book ≡ false

  -- how a run may end; its turns are given the latest first
  pub data Ending (secret : Dig) : List LineTurn → Type 0 where
    by_collision : {ts : List LineTurn} → Collision D (after D secret ts).formed → Ending secret ts
    by_zero_digest : {ts : List LineTurn} → ZeroDigest D (after D secret ts).formed → Ending secret ts
    by_forgery : {ts : List LineTurn} (t : LineTurn) → Forged (after D secret ts) t → Ending secret (t ∷ ts)
    earlier : {ts : List LineTurn} (t : LineTurn) → Ending secret ts → Ending secret (t ∷ ts)
