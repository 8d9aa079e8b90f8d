use mathlib.Core.Path.{◌≡◌, refl, sym, ap, subst, ◌∙◌}
use mathlib.Core.List.{List, [], ◌∷◌}
use Prim.Native.Nat.{ℕ, suc, ◌+◌, ◌*◌}
use native.Mathlib.Omega.{arith}
use lib.ListN.{length, take, drop, replicate, get_or, length-append, length-drop}
use lib.Seq.{take_at, drop_at, take_all}
use Rattle.seqs.specs.Over.{Front, front_next}
use Rattle.paper.specs.Strings.{Dig, digs, spread}
use Rattle.digests.proofs.Speaking.{whole_at, one_more_lem}
use borrow.Author.Rules.{rules}
use Rattle.digests.proofs.said.Invariants.{Standing}
use Rattle.digests.proofs.said.Goals as goal
use Rattle.digests.proofs.said.Goals.{In-loop-i}

pub loop-i-init : goal.loop-i-init
loop-i-init c = (refl, record { here = refl; long = refl })

pub loop-i-preserved : goal.loop-i-preserved
loop-i-preserved c =
    let put = c in
    let turn = put in
    let start = turn in
    let parts = start.args.parts.now in
    let k = turn.loop-i in
    let size : length (get_or parts k.i []) ≡ 32 = whole_at parts start.requires.1 k.i (omega arith) in
    let next = front_next _ (get_or parts k.i []) 32 (1 + 32 * (k.i + 1)) k.invariant.1 put.put.ensures size (omega arith) (omega arith) in
    let grown = one_more_lem start.args.tag parts k.i (omega arith) in (
      ap length next.here ∙ simp (length-append, length-drop) (omega (arith, next.long)),
      subst (λ (l : List ℕ). Front (start.args.tag ∷ replicate 286 0) put.put.new.buffer l (1 + 32 * (k.i + 1))) grown next,
    )

-- the digest of this turn
whole : (c : In-loop-i)
    → length (get_or c.args.parts.now c.loop-i.i []) ≡ 32
whole c = let start = c in whole_at start.args.parts.now start.requires.1 c.loop-i.i (omega arith)

-- what stands behind the first element does not show the first
behind-first : (a b : ℕ) (l : List ℕ) (n : ℕ) → drop (1 + n) (a ∷ l) ≡ drop (1 + n) (b ∷ l)
behind-first a b l n =
    let e : 1 + n ≡ suc n = omega arith in
    ap (λ (m : ℕ). drop m (a ∷ l)) e ∙ sym (ap (λ (m : ℕ). drop m (b ∷ l)) e)

pub returns : goal.returns
returns c =
    let parts = c.args.parts.now in
    let tag = c.args.tag in
    let n : ℕ = length parts in
    let e : Standing tag parts c.loop-i.bytes n = subst (Standing tag parts c.loop-i.bytes) (omega arith) c.loop-i.invariant.1 in
    record {
      here =
          ap (take (1 + 32 * n)) e.here ∙ take_at _ _ (1 + 32 * n) e.long
          ∙ ap (λ (l : List Dig). tag ∷ spread (digs l)) (take_all n parts (omega arith));
      rest =
          ap (drop (1 + 32 * n)) e.here
          ∙ drop_at (tag ∷ spread (digs (take n parts))) (drop (1 + 32 * n) (tag ∷ replicate 286 0)) (1 + 32 * n) e.long
          ∙ behind-first tag 0 (replicate 286 0) (32 * n);
      long = refl;
    }

pub slice_bounds-put-end-in-loop-i : goal.slice_bounds-put-end-in-loop-i
slice_bounds-put-end-in-loop-i c = search (rules, whole (goal.at.slice_bounds-put-end-in-loop-i c).In-loop-i)
