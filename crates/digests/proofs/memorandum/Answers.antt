-- What is said stands at the front of the array, the secret behind it.
use mathlib.Core.Path.{◌≡◌, ap, ◌∙◌}
use Prim.Native.Nat.{◌≤◌}
use lib.ListN.{length}
use Rattle.sha256.specs.Hash.{sha256}
use Rattle.digests.specs.Speaking.{made_of}
use Rattle.digests.proofs.Speaking.{made_bytes}
use borrow.Author.Rules.{rules}
use Rattle.digests.proofs.memorandum.Goals as goal

pub returns : goal.returns
unfolding made_of
returns c =
    let put = c in
    let start = put in
    let a = start.args in
    let size = start.well_formed.1.0.1.0.1 in
    let room : length a.s.bytes ≡ 287 = search rules in
    let few : a.s.length ≤ 255 = search rules in
    let bytes = c.digest.ensures
    ∙ ap sha256 (made_bytes a.s a.secret size room few put.put.ensures) in
    λ i. record { bytes = bytes i; blocks = c.blocks-2.ensures i }
