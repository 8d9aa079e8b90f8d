use Rattle.std.proofs.Common.{◌≡◌, ap, sym, ◌∙◌, ◌+◌, ◌≤◌, ◌++◌, ◌∷◌, [], ℕ, List, length, drop, slice_index_or, arith, length-append}
use Rattle.decimals.specs.Spelling.{numeral_of}
use Rattle.words.specs.Telling.{with_number, numbered}
use Rattle.words.proofs.Texts.{digits_there, few_digits, number_more}
use Rattle.words.proofs.numbered.Goals as goal

pub loop-n-preserved : goal.loop-n-preserved
loop-n-preserved c =
    let k = c.loop-n in
    let n = slice_index_or c.args.numbers.now k.n-index 0 in
    let digits : c.as_slice.result.now ≡ numeral_of n =
    c.as_slice.ensures ∙ digits_there c.spell.result.bytes c.spell.result.from n c.spell.ensures in
    let short : length c.as_slice.result.now ≤ 20 = omega (arith, ap length digits, few_digits n) in
    let spaced : c.with.result ≡ k.told ++ (32 ∷ []) = c.with.ensures.fits (omega (arith, k.invariant.short, c.requires, c.loop-n-test.true)) in
    let long : length c.with.result ≡ length k.told + 1 = ap length spaced ∙ length-append k.told (32 ∷ []) in
    let told : c.with-told-in-loop-n.result ≡ with_number k.told n =
    c.with-told-in-loop-n.ensures.fits (omega (arith, k.invariant.short, c.requires, c.loop-n-test.true, short, long)) ∙ cc in
    record {
      so_far = k.invariant.so_far ∙ number_more k.told c.args.numbers.now k.n-index c.loop-n-test.true ∙ ap (λ (t : List ℕ). numbered t (drop (k.n-index + 1) c.args.numbers.now)) (sym told);
      short = omega (arith, ap length told, length-append (k.told ++ (32 ∷ [])) (numeral_of n), length-append k.told (32 ∷ []), few_digits n, k.invariant.short);
    }
