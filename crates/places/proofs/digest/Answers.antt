-- The bytes at the place.
use Rattle.seqs.specs.Bytes.{digest_at}
use Rattle.places.specs.Places.{bytes_at}
use borrow.Author.Rules.{rules}
use Rattle.places.proofs.digest.Goals as goal

pub returns : goal.returns
unfolding digest_at bytes_at
returns c = c.digest_at.ensures
