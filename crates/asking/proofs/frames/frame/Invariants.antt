-- So many numbers stand behind the kind; and then so many digests behind them all.
use Rattle.std.proofs.Common.{◌≡◌, ◌∷◌, ◌++◌, ◌+◌, ◌*◌, length, take}
use Rattle.paper.specs.Numbers.{kind_number}
use Rattle.paper.specs.Strings.{nums, digs, spread}
use Rattle.asking.proofs.frames.frame.Given as goal

abbrev pub invariant-loop-n : goal.invariant-loop-n
invariant-loop-n l = record {
  so_far : l.frame ≡ kind_number l.fn.kind ∷ spread (nums (take l.n-index l.numbers));
  long : length l.frame ≡ 1 + 8 * l.n-index;
}

abbrev pub invariant-loop-digest : goal.invariant-loop-digest
invariant-loop-digest l = record {
  so_far : l.frame ≡ (kind_number l.fn.kind ∷ spread (nums l.numbers)) ++ spread (digs (take l.digest-index l.digests));
  long : length l.frame ≡ 1 + 8 * length l.numbers + 32 * l.digest-index;
}
