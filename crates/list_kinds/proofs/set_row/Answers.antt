-- The two leaves cost what they cost, and the memorandum.
use Rattle.std.proofs.Common.{rules}
use Rattle.list_kinds.proofs.Counting.{cost_of_three}
use Rattle.list_kinds.proofs.set_row.Goals as goal

pub returns-in_err-fits : goal.returns-in_err-fits
returns-in_err-fits c = search (rules, cost_of_three)
