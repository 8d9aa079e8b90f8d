use Rattle.std.proofs.Common.{◌≡◌, suc, ◌+◌, ◌*◌, ◌≤◌, [], ◌∷◌, length, sym, ◌∙◌, arith}
use Rattle.seqs.specs.Over.{over_next, over_all}
use Rattle.hexadecimal.specs.Hex.{line_of}
use Rattle.hexadecimal.proofs.Laws.{digits_at, line_last, line_length}
use Rattle.hexadecimal.proofs.spell.Goals as goal

pub loop-i-preserved : goal.loop-i-preserved
unfolding line_of
loop-i-preserved c =
    let f = c.args.bytes.now in
    let d = c.args.space.now in
    let k = c.loop-i in
    let i = k.i in
    let inside : suc i ≤ length f = omega arith in
    let n = line_length f in
    let at = digits_at f (0x0a ∷ []) i inside in
    let e : 2 * (i + 1) ≡ 2 * i + 1 + 1 = omega arith in
    let high = over_next (2 * i) (line_of f) d k.space c.high_digit.result 0 k.invariant (c.high_digit.ensures ∙ sym at.0) (omega arith) (omega arith) in
    rw e (over_next (2 * i + 1) (line_of f) d _ c.low_digit.result 0 high (c.low_digit.ensures ∙ sym at.1) (omega arith) (omega arith))

pub returns : goal.returns
returns c =
    let f = c.args.bytes.now in
    let d = c.args.space.now in
    let k = c.loop-i in
    let e : k.i ≡ length f = omega arith in
    let n = line_length f in
    over_next (2 * length f) (line_of f) d k.space 0x0a 0 (k.invariant ∙ rw e) (sym (line_last f)) (omega arith) (omega arith)
    ∙ over_all (2 * length f + 1) (line_of f) d n
