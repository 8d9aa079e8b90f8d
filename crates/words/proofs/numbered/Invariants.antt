-- After some turns so many numbers are behind the text, and the others are to come.
use Rattle.std.proofs.Common.{◌≡◌, ◌+◌, ◌*◌, ◌≤◌, length, drop}
use Rattle.words.specs.Telling.{numbered}
use Rattle.words.proofs.numbered.Given as goal

abbrev pub invariant-loop-n : goal.invariant-loop-n
invariant-loop-n l = record {
  so_far : numbered l.text l.numbers ≡ numbered l.told (drop l.n-index l.numbers);
  short : length l.told ≤ length l.text + 21 * l.n-index;
}
