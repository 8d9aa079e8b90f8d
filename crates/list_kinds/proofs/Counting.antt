-- What the two leaves of a change cost, and the memorandum behind them.
use Rattle.std.proofs.Common.{◌≡◌, ◌+◌, List, ◌++◌, arith}
use Rattle.paper.specs.Strings.{Str, cost}
use Rattle.paper.proofs.Ceilings.{cost_append}

pub cost_of_three : (l m n : List Str) → cost ((l ++ m) ++ n) ≡ cost l + cost m + cost n
cost_of_three l m n = omega (arith, cost_append (l ++ m) n, cost_append l m)
