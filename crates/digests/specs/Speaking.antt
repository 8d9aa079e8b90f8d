-- What a memorandum says as a value, its string without the secret; and the memorandum made of it.
use Rattle.std.specs.Prelude.{◌≡◌, List, ◌∷◌, ◌++◌, ℕ, ◌+◌, ◌*◌, length, take, drop, replicate}
use Rattle.seqs.specs.Choose.{Every}
use Rattle.sha256.specs.Hash.{sha256}
use Rattle.sha256.specs.Padding.{blocks}
use Rattle.paper.specs.Strings as S
use Rattle.paper.specs.Strings.{Dig, memo_tag, memo_digests, digs, spread}
use Rattle.digests.specs.declared.Digest.{Digest}
use Rattle.digests.specs.declared.Memo.{Memo}
use Rattle.digests.specs.declared.Says.{Says}

-- the paper's memorandum
abbrev pub memo_of : Memo → S.Memo
memo_of (Memo.U1 x y x' y') = S.u1 x y x' y'
memo_of (Memo.V1 x y) = S.v1 x y
memo_of (Memo.U2 x1 x2 y x1' x2' y') = S.u2 x1 x2 y x1' x2' y'
memo_of (Memo.Ei y y') = S.ei y y'

-- each of some digests has its 32 bytes
abbrev pub AllWhole : List Dig → Type 0
AllWhole = Every (λ d. length d ≡ 32)

-- a tag and digests stand over the front of the array, zeros behind them, and the length is theirs
pub record SaidAs (s : Says) (tag : ℕ) (parts : List Dig) : Type 0 where
  pub here : take s.length s.bytes ≡ tag ∷ spread (digs parts)
  pub rest : drop s.length s.bytes ≡ drop s.length (replicate 287 0)
  pub long : s.length ≡ 1 + 32 * length parts

-- these are what a memorandum says
pub record Spoken (s : Says) (t : S.Memo) : Type 0 where
  pub is : SaidAs s (memo_tag t) (memo_digests t)

-- the digest of what is said with the secret behind it, whatever is said; of what a memorandum says, the memorandum
-- (`proofs/Speaking`, `made_of_lem`)
unfoldable pub made_of : Says → (secret : Dig) → Digest
made_of s k = record { bytes = sha256 (take s.length s.bytes ++ k); blocks = blocks (s.length + 32) }

-- §8.4.2: two outcomes that the contract of `says` allows are equal
abbrev pub OneSaying : Type 0
OneSaying = (s s' : Says) (t : S.Memo) → Spoken s t → Spoken s' t → s ≡ s'
