-- Numbers behind a text.
use Rattle.std.proofs.Common.{◌≡◌, ap, ◌∙◌, ℕ, ◌+◌, ◌<◌, ◌≤◌, List, ◌++◌, length, drop, slice_index_or, replicate, drop-cons, add-one}
use Rattle.std.proofs.Math.ListN.{length-replicate}
use lib.Seq.{drop_at}
use Rattle.decimals.specs.Spelling.{numeral_of}
use Rattle.decimals.proofs.Spelling.{numeral_short}
use Rattle.words.specs.Telling.{with_number, numbered}

-- the digits behind the zeros
pub digits_there : (bytes : List ℕ) (from n : ℕ) → bytes ≡ replicate from 0 ++ numeral_of n → drop from bytes ≡ numeral_of n
digits_there bytes from n h = ap (drop from) h ∙ drop_at (replicate from 0) (numeral_of n) from (length-replicate from 0)

-- one number more
pub number_more : (told numbers : List ℕ) (k : ℕ) → k < length numbers
    → numbered told (drop k numbers) ≡ numbered (with_number told (slice_index_or numbers k 0)) (drop (k + 1) numbers)
number_more told numbers k h = rw (add-one, drop-cons numbers k 0)

pub few_digits : (n : ℕ) → length (numeral_of n) ≤ 20
few_digits n = numeral_short 20 n
