-- After i turns the first i siblings stand in the array.
use Rattle.std.proofs.Common.{◌≡◌, ◌*◌, length, take}
use Rattle.paper.specs.Requests.{digests_in}
use Rattle.places.specs.Places.{bytes_at}
use Rattle.kernel.proofs.siblings.Given as goal

abbrev pub invariant-loop-i : goal.invariant-loop-i
invariant-loop-i l =
    record {
      long : length l.out ≡ 64;
      read : take l.i l.out ≡ digests_in l.i (bytes_at l.f 74 (32 * l.n));
    }
