use Rattle.std.proofs.Common.{◌≡◌, sym, ap, ◌∙◌, ℕ, ◌-◌, replicate, append-nil, arith}
use Rattle.seqs.specs.Bytes.{digest_at, digest_at_length, digest_at_byte}
use Rattle.seqs.specs.Over.{over_next, over_all}
use Rattle.hexadecimal.specs.Hex.{bytes_of}
use Rattle.hexadecimal.proofs.Laws.{bytes_length}
use Rattle.hearing.proofs.memo_in.Goals as goal

pub loop-i-preserved : goal.loop-i-preserved
loop-i-preserved c =
    let s = bytes_of c.args.reply.now in
    let at = c.saturating_sub-at.result in
    let k = c.loop-i in
    let b = c.byte_at.ensures ∙ sym (digest_at_byte s at k.i (omega arith)) in
    let size = digest_at_length s at in
    over_next k.i (digest_at s at) (replicate 32 0) k.out c.byte_at.result 0 k.invariant b (omega arith) (omega arith)

pub returns : goal.returns
returns c =
    let s = bytes_of c.args.reply.now in
    let at = c.saturating_sub-at.result in
    let k = c.loop-i in
    let e : k.i ≡ 32 = omega arith in
    let at-is = c.saturating_sub-at.ensures ∙ ap (λ (n : ℕ). n - 32) (sym (bytes_length c.args.reply.now)) in
    k.invariant ∙ rw e (over_all 32 (digest_at s at) (replicate 32 0) (digest_at_length s at) ∙ append-nil (digest_at s at)) ∙ ap (digest_at s) at-is
