-- A text as it stands in the output.
use Rattle.std.proofs.Common.{◌≡◌, refl, ℕ, Bool, true, false, Some, None, List, length, zero-add}
use Rattle.std.specs.Bool.{then_some}
use lib.Dec.{leb}
use Rattle.seqs.specs.Choose.{pick}
use Rattle.seqs.specs.Over.{put_at, written}
use Rattle.asking.specs.Saying.{fitting_length}

pub put_front : (l out : List ℕ) → put_at out 0 l ≡ written l out
unfolding put_at written
put_front l out = rw (zero-add (length l)) refl

pub fits : (l : List ℕ) (room : ℕ) → then_some (leb (length l) room) (length l) ≡ fitting_length l room
unfolding fitting_length
fits l room = by_test (leb (length l) room)
  where
    by_test : (t : Bool) → then_some t (length l) ≡ pick t (Some (length l)) None
    by_test true = refl
    by_test false = refl
