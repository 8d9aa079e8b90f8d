use Rattle.std.proofs.Common.{sym, ap, ◌∙◌, [], ◌∷◌, ◌++◌, ◌*◌, ℕ, take, set, length-set, add-one, arith}
use Rattle.std.proofs.Math.Seq.{take-suc-set}
use Rattle.paper.specs.Requests.{digests_in}
use Rattle.places.specs.Places.{bytes_at}
use Rattle.places.proofs.Places.{digest_inside, digests_next}
use Rattle.kernel.proofs.siblings.Goals as goal

pub loop-i-preserved : goal.loop-i-preserved
loop-i-preserved c =
    let a = c.args in
    let l = bytes_at a.f.now 74 (32 * a.n) in
    let k = c.loop-i in
    let d = c.digest_at.result in
    let read = c.digest_at.ensures ∙ digest_inside a.f.now 74 (32 * a.n) (32 * k.i) (omega arith) in
    record {
      long = simp length-set (omega arith);
      read =
          ap (λ (n : ℕ). take n (set k.out k.i d)) (add-one k.i) ∙ take-suc-set k.out k.i d (omega arith)
          ∙ (λ i. k.invariant.read i ++ (read i ∷ [])) ∙ sym (digests_next k.i l)
          ∙ ap (λ (n : ℕ). digests_in n l) (sym (add-one k.i));
    }
