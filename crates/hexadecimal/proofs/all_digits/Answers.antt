-- `all` tests every byte, and finds each one a digit just where the line is all digits.
use Rattle.std.proofs.Common.{◌∙◌, rules, tests}
use Rattle.std.proofs.lemmas.Iterator.{YieldsList-from_slice}
use Rattle.std.proofs.lemmas.Iterator.Search.{all_from_yields_List}
use Rattle.hexadecimal.specs.Hex.{is_digit}
use Rattle.hexadecimal.proofs.Laws.{all_same}
use Rattle.hexadecimal.proofs.all_digits.Goals as goal

pub returns : goal.returns
returns c =
    all_from_yields_List is_digit _ _ _ c.all.ensures.ran (YieldsList-from_slice c.args.line.now cc) (λ x b q k. search (rules, tests))
    ∙ all_same c.args.line.now
