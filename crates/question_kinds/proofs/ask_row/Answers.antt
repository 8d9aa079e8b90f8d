-- The leaf costs what it costs, and the memorandum.
use Rattle.std.proofs.Common.{rules}
use Rattle.paper.proofs.Ceilings.{cost_append}
use Rattle.question_kinds.proofs.ask_row.Goals as goal

pub returns-in_err-fits : goal.returns-in_err-fits
returns-in_err-fits c = search (rules, cost_append)

pub returns-in_err-is_root : goal.returns-in_err-is_root
returns-in_err-is_root c = search (rules, cost_append)
