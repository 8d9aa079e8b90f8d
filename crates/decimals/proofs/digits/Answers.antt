use Rattle.std.proofs.Common.{sym, ◌∙◌, arith, ◌≤◌, ◌^◌, ◌+◌, ◌*◌, ◌-◌, slice_index_or, true, ◌≡◌}
use Rattle.decimals.specs.Decimals.{is_decimal}
use Rattle.decimals.proofs.Decimals.{read_next, no_decimal, as_decimal, too_large, read_all}
use Rattle.decimals.proofs.digits.Goals as goal

pub returns-then-not-is_ascii_digit : goal.returns-then-not-is_ascii_digit
returns-then-not-is_ascii_digit c =
    let k = c.loop-c in
    sym (no_decimal c.args.s.now k.c-index k.n c.loop-c-test.true k.invariant.1 (as_decimal _ c.is_ascii_digit.ensures.value ∙ c.if-not-is_ascii_digit.true))

pub returns-in_err-checked_mul : goal.returns-in_err-checked_mul
returns-in_err-checked_mul c =
    let k = c.loop-c in
    let large : 2 ^ 64 ≤ 10 * k.n + (slice_index_or c.args.s.now k.c-index 0 - 48) = omega (arith, c.in_err-checked_mul.ensures) in
    c.from_residual.ensures ∙ sym (too_large c.args.s.now k.c-index k.n c.loop-c-test.true k.invariant.1 large)

pub returns-in_err-n : goal.returns-in_err-n
returns-in_err-n c =
    let k = c.loop-c in
    let large : 2 ^ 64 ≤ 10 * k.n + (slice_index_or c.args.s.now k.c-index 0 - 48) =
    omega (arith, c.in_ok-checked_mul.ensures, c.in_err-n.ensures) in
    c.from_residual-in_err-n.ensures ∙ sym (too_large c.args.s.now k.c-index k.n c.loop-c-test.true k.invariant.1 large)

pub loop-c-preserved : goal.loop-c-preserved
loop-c-preserved c =
    let k = c.loop-c in
    let digit : is_decimal (slice_index_or c.args.s.now k.c-index 0) ≡ true = as_decimal _ c.is_ascii_digit.ensures.value ∙ c.if-not-is_ascii_digit.false in
    (omega (arith, c.in_ok-n.ensures), read_next c.args.s.now k.c-index k.n c.loop-c-test.true k.invariant.1 digit (omega (arith, c.in_ok-checked_mul.ensures, c.in_ok-n.ensures)))

pub returns : goal.returns
returns c =
    let k = c.loop-c in
    sym (read_all c.args.s.now k.c-index k.n (omega (arith, c.loop-c-test.false)) k.invariant.0 k.invariant.1)
