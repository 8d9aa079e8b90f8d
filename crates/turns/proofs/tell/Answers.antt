-- The text over the front of the output, where it fits.
use Rattle.std.proofs.Common.{refl, ap, ◌∙◌, List, ℕ, length}
use Rattle.seqs.specs.Over.{written}
use Rattle.asking.specs.Saying.{fitting_length}
use Rattle.turns.proofs.Laws.{put_front, fits}
use Rattle.turns.proofs.tell.Goals as goal

pub returns : goal.returns
returns c =
    let out = c.args.out.now in
    let is = c.as_slice-bytes.ensures ∙ c.tell-text.ensures.value in
    record {
      desk = refl;
      changed = refl;
      length = c.then_some-length.ensures ∙ fits c.as_slice-bytes.result.now (length out) ∙ ap (λ (l : List ℕ). fitting_length l (length out)) is;
      text = c.put.ensures ∙ put_front c.as_slice-bytes.result.now out ∙ ap (λ (l : List ℕ). written l out) is;
    }
