-- By where the byte lies: in the message, at the mark, among the zeros or in the length.
use Rattle.std.proofs.Common.{◌≡◌, ℕ, ◌+◌, ◌-◌, ◌*◌, ◌^◌, List, length, get_or, sym, ap, ◌∙◌, arith}
use Rattle.seqs.specs.Bytes.{be64}
use Rattle.sha256.specs.Padding.{pad, blocks}
use Rattle.sha256.proofs.Padding.{spelled, in_message, at_mark, in_zeros, in_length}
use Rattle.sha256.proofs.message.padded.Goals as goal

pub returns-then-i-n : goal.returns-then-i-n
returns-then-i-n c =
    let inside = c in
    let a = inside.args in
    sym (in_message a.message.now a.i inside.if-i-n.true)

pub returns-then-i-n-2 : goal.returns-then-i-n-2
returns-then-i-n-2 c =
    let a = c.args in
    let m = a.message.now in
    sym (ap (λ (k : ℕ). get_or (pad m) k 0) c.if-i-n-2.true ∙ at_mark m)

pub returns-then-i-end : goal.returns-then-i-end
returns-then-i-end c =
    let past-mark = c in
    let a = past-mark.args in
    sym (in_zeros a.message.now a.i (omega arith) (omega arith))

pub returns : goal.returns
returns c =
    let a = c.args in
    let m = a.message.now in
    let bits : length m * 2 ^ 3 ≡ 8 * length m = omega arith in
    rw c.blocks-end.ensures
    (ap (λ (l : List ℕ). get_or l (a.i + 8 - blocks (length m) * 64) 0)
    (c.to_be_bytes.ensures ∙ spelled (length m * 2 ^ 3) ∙ ap be64 bits)
    ∙ sym (in_length m a.i (omega arith) (omega arith) (omega arith)))
