-- What a turn says, as the function returns it and as the output holds it.
use Rattle.std.specs.Prelude.{◌≡◌, List, ℕ, length}
use Rattle.seqs.specs.Over.{written}
use Rattle.asking.specs.Saying.{fitting_length}
use Rattle.turns.specs.declared.Turn.{Turn}
use Rattle.turns.specs.Turns.{Said}

pub record SaidAs (s : Said) (r : Turn) (before after : List ℕ) : Type 0 where
  pub desk : r.desk ≡ s.desk
  pub changed : r.changed ≡ s.changed
  pub length : r.length ≡ fitting_length s.text (length before)
  pub text : after ≡ written s.text before
