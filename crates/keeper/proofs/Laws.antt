-- Bytes that stand over the front of a buffer, and the part of it that is written out.
use Rattle.std.proofs.Common.{◌≡◌, refl, ap, ◌∙◌, ℕ, ◌≤◌, Option, Some, None, Ok, List, length, take, arith, Bool, true, false}
use borrow.Author.Tests.{leb-true}
use Rattle.std.specs.Option.{ok_or}
use lib.Dec.{leb}
use lib.ListN.{drop}
use lib.Seq.{take_at}
use Rattle.seqs.specs.Choose.{pick}
use Rattle.seqs.specs.Over.{written, written_fits}
use Rattle.asking.specs.Saying.{fitting_length}

pub saved_front : (t d e : List ℕ) (n : ℕ) → length t ≡ n → n ≤ length d → e ≡ written t d → take n e ≡ t
saved_front t d e n long room is = ap (take n) (is ∙ written_fits t d n long room) ∙ take_at t (drop n d) n long

-- a line that fits: how long it is, and that it does
pub fitting : (s : List ℕ) (room n : ℕ) → fitting_length s room ≡ Some n → (length s ≡ n) × (n ≤ room)
unfolding fitting_length
fitting s room n e = by_test (leb (length s) room) refl e
  where
    by_test : (t : Bool) → leb (length s) room ≡ t → pick t (Some (length s)) None ≡ Some n → (length s ≡ n) × (n ≤ room)
    by_test true h e = let same : length s ≡ n = cc in (same, omega (arith, same, leb-true (length s) room h))
    by_test false h e = absurd (cc)

pub ok_some : {X : Type 0} (o : Option ℕ) (x : X) (n : ℕ) → ok_or o x ≡ Ok n → o ≡ Some n
ok_some (Some m) x n e = let same : m ≡ n = cc in ap Some same
ok_some None x n e = absurd (cc)
