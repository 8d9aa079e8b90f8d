-- At each turn the whole search is the one in the rest of the piece, from the bytes held now.
use mathlib.Core.Path.{◌≡◌}
use mathlib.Core.Bool.{false}
use lib.ListN.{length, drop}
use Rattle.pieces.specs.Feeding.{feed_bytes}
use Rattle.pieces.specs.Cutting.{seeking, sought_in}
use Rattle.pieces.proofs.Laws.{at_place}
use Rattle.pieces.proofs.next_line.Given as goal

abbrev pub invariant-loop-i : goal.invariant-loop-i
invariant-loop-i l = (length l.line ≡ length l.fn.line)
    × (sought_in l.piece l.at l.fn.line l.fn.held ≡ feed_bytes seeking (drop l.i l.piece) (at_place l.i l.line l.n false))
