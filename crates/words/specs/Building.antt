-- What the private functions of this crate promise one another: where a line's first word ends.
use Rattle.std.specs.Prelude.{◌≡◌, List, [], ◌∷◌, Option, ℕ, MatchOption}
use Rattle.std.specs.Borrow.{Bor}
use Rattle.words.specs.Reading.{words_of}

-- the word, and what stands behind the space after it
abbrev pub FirstWord : (line word : List ℕ) → Option (Bor (List ℕ)) → Type 0
FirstWord l w rest = MatchOption rest (words_of l ≡ w ∷ []) (λ r. words_of l ≡ w ∷ words_of r.now)
