-- The digest is that of the bytes read.
use Rattle.std.proofs.Common.{sym, ap, ◌∙◌, refl}
use Rattle.seqs.specs.Over.{written}
use Rattle.hexadecimal.specs.Hex.{line_of}
use Rattle.probe.proofs.Replies.{message}
use Rattle.probe.proofs.answer.Goals as goal

pub returns : goal.returns
returns c =
    let h = c.in_ok-n.ensures in
    message _ c.in_ok-n.n c.args.line.now c.args.message.now c.read_bytes.new.space _ _ (sym h.value) h.space_after refl
    (c.write.ensures.space_after ∙ ap (λ x. written (line_of x) _) c.digest-digest.ensures)
