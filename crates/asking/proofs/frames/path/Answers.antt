-- Kind, both digests, n, sides and siblings stand one behind the other.
use Rattle.std.proofs.Common.{◌≡◌, refl, replicate, [], ◌∷◌, ◌++◌, ◌%◌, ◌^◌, ◌*◌, ap, sym, ◌∙◌, length, take, arith, rules}
use Rattle.seqs.specs.Bytes.{be64, be64_length}
use Rattle.runs.specs.Frames.{together}
use Rattle.slots.specs.Nodes.{siblings_up}
use Rattle.asking.proofs.Lying.{siblings_there, siblings_count, longer, path_joined}
use Rattle.asking.proofs.frames.path.Goals as goal

pub returns : goal.returns
returns c =
    let a = c.args in
    let was : length a.e.was ≡ 32 = search rules in
    let becomes : length a.e.becomes ≡ 32 = search rules in
    let spelled : c.spelled.result ≡ be64 (a.v % 2 ^ a.levels) = c.spelled.ensures ∙ ap be64 c.sides.ensures in
    let eight : length c.spelled.result ≡ 8 = ap length spelled ∙ be64_length (a.v % 2 ^ a.levels) in
    let none : length c.new.result ≡ 0 = ap length c.new.ensures in
    let one = c.with.ensures.fits (omega (arith, none)) in
    let long1 = longer _ _ _ _ _ one none refl in
    let two = c.with-2.ensures.fits (omega (arith, long1, was)) in
    let long2 = longer _ _ _ _ _ two long1 was in
    let three = c.with-3.ensures.fits (omega (arith, long2, becomes)) in
    let long3 = longer _ _ _ _ _ three long2 becomes in
    let four = c.with-4.ensures.fits (omega (arith, long3)) in
    let long4 = longer _ _ _ _ _ four long3 refl in
    let five = c.with-5.ensures.fits (omega (arith, long4, eight)) in
    let long5 = longer _ _ _ _ _ five long4 eight in
    let there = siblings_there a.nodes.now a.levels a.v (replicate 320 0) (omega (arith, c.requires)) in
    let t = together (siblings_up a.nodes.now a.levels a.v) in
    let behind : take (32 * a.levels) c.put_siblings.new.frame ≡ t = ap (take (32 * a.levels)) c.put_siblings.ensures ∙ there.0 in
    let six = c.with-6.ensures.fits (omega (arith, ap length behind, there.1, long5, c.requires)) in
    path_joined a.e.was a.e.becomes c.spelled.result (take (32 * a.levels) c.put_siblings.new.frame) a.levels c.new.ensures c.number.ensures one two three four five six
    ∙ (λ i. 1 ∷ (a.e.was ++ (a.e.becomes ++ ((sym (siblings_count a.nodes.now a.levels a.v) i ∷ (spelled i ++ behind i)) ++ []))))
