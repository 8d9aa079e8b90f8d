-- The leaves of the lines from line i on, put into what memory is at turn i, come to what all of them come to.
use mathlib.Core.Path.{◌≡◌}
use lib.ListN.{length, drop}
use Rattle.sha256.specs.Hash.{sha256}
use Rattle.store.specs.Texts.{text_read}
use Rattle.memory.specs.Memory.{leaves_put, digests_put}
use Rattle.memory.proofs.put_lines.Given as goal

abbrev pub invariant-loop-i : goal.invariant-loop-i
invariant-loop-i l = let rs = (text_read l.text).rows in
    (length l.leaves ≡ length l.initial.leaves) × (length l.nodes ≡ length l.initial.nodes)
    × (leaves_put rs 0 l.initial.leaves ≡ leaves_put (drop l.i rs) l.i l.leaves)
    × (digests_put sha256 rs 0 l.initial.nodes ≡ digests_put sha256 (drop l.i rs) l.i l.nodes)
