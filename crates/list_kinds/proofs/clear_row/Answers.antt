-- The two leaves cost what they cost, and the memorandum.
use Rattle.std.proofs.Common.{rules}
use Rattle.list_kinds.proofs.Counting.{cost_of_three}
use Rattle.list_kinds.proofs.clear_row.Goals as goal

pub returns-in_err-fits : goal.returns-in_err-fits
returns-in_err-fits c = search (rules, cost_of_three)

pub returns-in_err-is_root : goal.returns-in_err-is_root
returns-in_err-is_root c = search (rules, cost_of_three)
