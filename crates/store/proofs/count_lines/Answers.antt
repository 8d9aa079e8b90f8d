use mathlib.Core.Path.{◌≡◌, sym, ap, subst, ◌∙◌}
use Prim.Native.Nat.{ℕ, ◌+◌, ◌*◌, ◌/◌}
use native.Mathlib.Omega.{arith}
use lib.ListN.{length}
use Rattle.std.specs.Prelude.{Ok, Err}
use Rattle.store.proofs.Texts.{Passed, passed_none, front_short, front_from, passed_on, stopped_at, all_passed_lem}
use Rattle.store.proofs.count_lines.Goals as goal

pub returns-then-not-begins : goal.returns-then-not-begins
returns-then-not-begins c =
    let t = c.args.text.now in
    let at = 97 * c.loop-n.n in
    sym (stopped_at t at c.loop-n.n (omega arith) c.loop-n.invariant (sym (front_from t at) ∙ sym c.begins.ensures ∙ c.if-not-begins.true))

pub loop-n-preserved : goal.loop-n-preserved
loop-n-preserved c =
    let t = c.args.text.now in
    let n = c.loop-n.n in
    let next : 97 * n + 97 ≡ 97 * (n + 1) = omega arith in
    subst (λ (at : ℕ). Passed t at (n + 1)) next
    (passed_on t (97 * n) n c.loop-n.invariant (sym (front_from t (97 * n)) ∙ sym c.begins.ensures ∙ c.if-not-begins.false)).0

pub returns-then-text-eq0 : goal.returns-then-text-eq0
returns-then-text-eq0 c =
    let t = c.args.text.now in
    let n = c.loop-n.n in
    let all : length t / 97 ≡ n = omega arith in
    ap Ok all ∙ sym (all_passed_lem t (97 * n) n (omega arith) c.loop-n.invariant)

pub returns-else-text-eq0 : goal.returns-else-text-eq0
returns-else-text-eq0 c =
    let t = c.args.text.now in
    let n = c.loop-n.n in
    let all : length t / 97 ≡ n = omega arith in
    ap Err all ∙ sym (stopped_at t (97 * n) n (omega arith) c.loop-n.invariant (front_short t (97 * n) (omega arith)))

pub loop-n-init : goal.loop-n-init
loop-n-init c = passed_none c.args.text.now
