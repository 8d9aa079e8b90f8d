-- The bytes of an input, fed one after the other to whatever takes them. How a line ends is said here and nowhere else: the
-- search for the next line, the lines of a whole input and the serving of a session are takers that are fed.
use Rattle.std.specs.Prelude.{Bool, List, [], ◌∷◌, ℕ, eqb}
use Rattle.seqs.specs.Choose.{pick}

-- A taker of bytes: what becomes of it where a line ends, and by a byte of a line; and whether it takes no more.
pub record Taker (S : Type 0) : Type 0 where
  pub line_end : S → S
  pub line_byte : S → ℕ → S
  pub stops : S → Bool

-- §4.1.2, §4.1.4: 0A ends a line, and is not of it
abbrev pub ends_line : ℕ → Bool
ends_line b = eqb b 0x0a

-- any other byte is one of the line's
abbrev pub feed_byte : {S : Type 0} → Taker S → S → ℕ → S
feed_byte k t b = pick (ends_line b) (k.line_end t) (k.line_byte t b)

-- bytes one after the other, as long as they are taken
abbrev pub feed_bytes : {S : Type 0} → Taker S → List ℕ → S → S
feed_bytes k [] t = t
feed_bytes k (b ∷ s) t = pick (k.stops t) t (feed_bytes k s (feed_byte k t b))
