-- `all` tests every byte, and finds each one 0 just where the list is all zeros.
use Rattle.std.proofs.Common.{ℕ, ◌∙◌, rules, tests}
use Rattle.std.proofs.lemmas.Iterator.{YieldsList-from_slice}
use Rattle.std.proofs.lemmas.Iterator.Search.{all_from_yields_List}
use lib.Dec.{eqb}
use Rattle.fields.proofs.Bytes.{all_zero_lem}
use Rattle.fields.proofs.is_zero.Goals as goal

pub returns : goal.returns
returns c =
    all_from_yields_List (λ (b : ℕ). eqb b 0) _ _ _ c.all.ensures.ran (YieldsList-from_slice c.args.a cc) (λ x b q k. search (rules, tests))
    ∙ all_zero_lem c.args.a
