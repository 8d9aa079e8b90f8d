-- What private functions promise one another.
use Rattle.std.specs.Prelude.{ℕ}
use Rattle.lines.specs.Reading.{Read, Frame, Refused}

-- the number of a refusal, 0 where there is none
unfoldable pub refusal_in : Read → ℕ
refusal_in (Frame k n) = 0
refusal_in (Refused n) = n
