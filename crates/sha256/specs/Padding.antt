-- FIPS 180-4, sections 5.1.1 and 5.2.1: a message padded to whole blocks, and its words.
-- The standard counts bits; a message here is a list of bytes, so its l is 8 times the length.
use Rattle.std.specs.Prelude.{◌≡◌, ℕ, ◌+◌, ◌-◌, ◌*◌, ◌/◌, ◌%◌, ◌<◌, ◌≤◌, List, ◌∷◌, ◌++◌, length, take, drop, replicate, slice_index, slice_index_or}
use Rattle.seqs.specs.Bytes.{be64}

-- 5.1.1: how many zero bytes go behind the byte 80 of a message of n bytes: the fewest that leave eight
-- bytes to the end of a block (`Padded`, `solves` and `least`)
unfoldable pub zeros : ℕ → ℕ
zeros n = (119 - n % 64) % 64

-- 5.1.1: the message, the bit 1 and k zero bits, the message's length in bits as 64 bits
unfoldable pub pad : List ℕ → List ℕ
pad m = m ++ (0x80 ∷ (replicate (zeros (length m)) 0 ++ be64 (8 * length m)))

-- §3.7.2: the blocks of a message of n bytes
abbrev pub blocks : ℕ → ℕ
blocks n = (n + 8) / 64 + 1

-- What 5.1.1 asks of a padded message, and that its blocks are as many as `blocks` counts: shown once for every length (§8.4.5),
-- over the message (`proofs/Padding`, `padded`). With l = 8 n bits, k is 7 + 8 times the zero bytes.
pub record Padded (m : List ℕ) : Type 0 where
  pub whole : length (pad m) ≡ blocks (length m) * 64
  pub message : take (length m) (pad m) ≡ m
  pub mark : slice_index_or (pad m) (length m) 0 ≡ 0x80
  pub zeros_behind : (i : ℕ) → length m < i → i + 8 < blocks (length m) * 64 → slice_index (pad m) i ≡ 0
  pub size : drop (blocks (length m) * 64 - 8) (pad m) ≡ be64 (8 * length m)
  pub solves : (8 * length m + 1 + (7 + 8 * zeros (length m))) % 512 ≡ 448
  pub least : (k : ℕ) → (8 * length m + 1 + k) % 512 ≡ 448 → 7 + 8 * zeros (length m) ≤ k

-- 3.1: a word of four bytes, the most significant first
abbrev pub word : ℕ → ℕ → ℕ → ℕ → ℕ
word a b c d = ((a * 256 + b) * 256 + c) * 256 + d

-- the word of p that begins at byte j
unfoldable pub word_at : List ℕ → ℕ → ℕ
word_at p j = word (slice_index p j) (slice_index p (j + 1)) (slice_index p (j + 2)) (slice_index p (j + 3))

-- 5.2.1: word t of block i of the padded message p, both counted from 0
abbrev pub M : List ℕ → ℕ → ℕ → ℕ
M p i t = word_at p (i * 64 + t * 4)
