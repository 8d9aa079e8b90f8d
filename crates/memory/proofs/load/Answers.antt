-- A ring's lines can all be read.
use mathlib.Core.Path.{sym, ◌∙◌}
use Rattle.store.proofs.Judging.{ring_text}
use Rattle.memory.proofs.load.Goals as goal

pub put_lines-requires : goal.put_lines-requires
put_lines-requires c =
    let k = ring_text c.args.text.now _ c.in_ok-n.n (sym c.judge.ensures ∙ c.in_ok-n.was) in
    record { text_value = k.whole; n_value = k.size }
