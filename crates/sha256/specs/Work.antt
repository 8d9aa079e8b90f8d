-- What the private functions of this crate promise one another. A reader of `digest`'s promise
-- needs none of this: `proofs/` shows that it comes to what FIPS 180-4 says.
use Rattle.std.specs.Prelude.{◌≡◌, ℕ, ◌+◌, ◌-◌, ◌%◌, ◌<◌, ◌≤◌, List, length, slice_index}
use Rattle.sha256.specs.Hash.{schedule}

-- word k of block i's schedule
abbrev pub schedule_word : List ℕ → ℕ → ℕ → ℕ
schedule_word p i k = slice_index (schedule p i 64) k

-- the word of turn t in sixteen that roll over
unfoldable pub rolled : List ℕ → ℕ → ℕ
rolled ws t = slice_index ws (t % 16)

-- ws is the last sixteen words of block i's schedule before word t, or all of them where t is less, each at its place
pub record Rolling (p : List ℕ) (i t : ℕ) (ws : List ℕ) : Type 0 where
  pub size : length ws ≡ 16
  pub holds : (k : ℕ) → k < t → t ≤ k + 16 → rolled ws k ≡ schedule_word p i k

-- how many words are needed before turn t: the first sixteen at once, the further ones as the turns come to them
abbrev pub due : ℕ → ℕ
due t = 16 + (t - 16)
