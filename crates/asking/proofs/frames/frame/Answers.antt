use Rattle.std.proofs.Common.{◌≡◌, ap, sym, ◌∙◌, ◌++◌, ◌∷◌, [], ℕ, List, length, slice_index_or, arith, length-append, append-nil}
use lib.Seq.{take_all}
use Rattle.paper.specs.Numbers.{kind_number}
use Rattle.paper.specs.Strings.{Dig, nums, digs, spread}
use Rattle.seqs.specs.Bytes.{be64_length}
use Rattle.asking.proofs.Lying.{one_number_more, one_digest_more, whole_there}
use Rattle.asking.proofs.frames.frame.Goals as goal

pub loop-n-preserved : goal.loop-n-preserved
loop-n-preserved c =
    let k = c.loop-n in
    let n = slice_index_or c.args.numbers.now k.n-index 0 in
    let size : length c.spelled.result ≡ 8 = ap length c.spelled.ensures ∙ be64_length n in
    let more : c.with-frame-in-loop-n.result ≡ k.frame ++ c.spelled.result =
    c.with-frame-in-loop-n.ensures.fits (omega (arith, size, k.invariant.long, c.requires.0, c.loop-n-test.true)) in
    record {
      so_far = more ∙ cc (k.invariant.so_far, c.spelled.ensures, one_number_more (kind_number c.args.kind) c.args.numbers.now k.n-index c.loop-n-test.true);
      long = omega (arith, ap length more, length-append k.frame c.spelled.result, size, k.invariant.long);
    }

pub loop-digest-init : goal.loop-digest-init
loop-digest-init c =
    let k = c.loop-n in
    let all : k.n-index ≡ length c.args.numbers.now = omega arith in
    record {
      so_far = k.invariant.so_far
          ∙ ap (λ (l : List ℕ). kind_number c.args.kind ∷ spread (nums l)) (take_all k.n-index c.args.numbers.now (omega arith))
          ∙ sym (append-nil _);
      long = omega (arith, k.invariant.long, all);
    }

pub loop-digest-preserved : goal.loop-digest-preserved
loop-digest-preserved c =
    let k = c.loop-digest in
    let d : Dig = slice_index_or c.args.digests.now k.digest-index [] in
    let size : length d ≡ 32 = whole_there c.args.digests.now k.digest-index c.requires.2 c.loop-digest-test.true in
    let more : c.with-frame-in-loop-digest.result ≡ k.frame ++ d =
    c.with-frame-in-loop-digest.ensures.fits (omega (arith, size, k.invariant.long, c.requires.0, c.requires.1, c.loop-digest-test.true)) in
    record {
      so_far = more ∙ cc (k.invariant.so_far, one_digest_more (kind_number c.args.kind ∷ spread (nums c.args.numbers.now)) c.args.digests.now k.digest-index c.loop-digest-test.true);
      long = omega (arith, ap length more, length-append k.frame d, size, k.invariant.long);
    }

pub returns : goal.returns
returns c =
    let k = c.loop-digest in
    k.invariant.so_far
    ∙ ap (λ (l : List Dig). (kind_number c.args.kind ∷ spread (nums c.args.numbers.now)) ++ spread (digs l)) (take_all k.digest-index c.args.digests.now (omega arith))
