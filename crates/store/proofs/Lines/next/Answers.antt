-- Line i stands behind i lines of one length, and has the digits of what it leads to behind those of its item.
use mathlib.Core.Path.{◌≡◌, ◌∙◌}
use native.Mathlib.Omega.{arith}
use Rattle.rows.specs.Pairs.{row_of}
use Rattle.store.specs.Texts.{text_read}
use Rattle.store.proofs.Judging.{next_there}
use Rattle.store.proofs.Lines.next.Goals as goal

pub returns : goal.returns
returns c =
    let s = c.args.self.now in
    let t = s.text.now in
    let number : c.number.result ≡ (row_of (text_read t).rows c.args.i).next.0 =
    c.number.ensures ∙ next_there t s.whole c.args.i (omega (arith, s.counted, c.requires)) in
    (λ k. record { 0 = number k })
