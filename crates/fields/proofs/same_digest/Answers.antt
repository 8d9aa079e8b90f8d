use mathlib.Core.Bool.{Bool, true, false}
use mathlib.Core.List.{List}
use mathlib.Core.Path.{◌≡◌, refl, sym, ap, ap₂, ◌∙◌}
use Prim.Native.Nat.{ℕ, ◌+◌, ◌<◌}
use native.Mathlib.Omega.{arith}
use borrow.Author.Tests.{eqb-true, eqb-false, eq-eqb, ne_eqb}
use lib.Bits.{bit_or, bit_xor, or_add_and, xor_add_and, xor_self, and_le_l, and_le_r}
use lib.Dec.{eqb}
use lib.ListN.{length, get_or, drop}
use Rattle.seqs.specs.Bytes.{same, same_step, same_end}
use Rattle.seqs.specs.Choose.{both, both_right}
use Rattle.fields.proofs.same_digest.Goals as goal

-- no bit of either
or-none : (a b : ℕ) → bit_or a b ≡ 0 → (a ≡ 0) × (b ≡ 0)
or-none a b h =
    let sum = or_add_and a b in
    let left = and_le_l a b in
    let right = and_le_r a b in
    (omega arith, omega arith)

-- no bit that differs
xor-none : (a b : ℕ) → bit_xor a b ≡ 0 → a ≡ b
xor-none a b h = omega (arith, xor_add_and a b, and_le_l a b, and_le_r a b)

-- nothing is gathered with a byte's differences exactly where nothing was before it and it does not differ
gathered : (d x y : ℕ) (s t : Bool) → eqb d 0 ≡ s → eqb x y ≡ t → eqb (bit_or d (bit_xor x y)) 0 ≡ both s t
gathered d x y true true p q =
    eq-eqb _ _ (ap₂ bit_or (eqb-true d 0 p) (ap (bit_xor x) (sym (eqb-true x y q)) ∙ xor_self x))
gathered d x y true false p q = ne_eqb _ _ (λ h. eqb-false x y q (xor-none x y (or-none d (bit_xor x y) h).1))
gathered d x y false t p q = ne_eqb _ _ (λ h. eqb-false d 0 p (or-none d (bit_xor x y) h).0)

both-assoc : (p q r : Bool) → both p (both q r) ≡ both (both p q) r
both-assoc true q r = refl
both-assoc false q r = refl

-- one byte more
turn : (l m : List ℕ) (d i : ℕ) → i < length l → i < length m
    → both (eqb d 0) (same (drop i l) (drop i m))
    ≡ both (eqb (bit_or d (bit_xor (get_or l i 0) (get_or m i 0))) 0) (same (drop (i + 1) l) (drop (i + 1) m))
turn l m d i h k =
    rw (same_step l m i (eqb (get_or l i 0) (get_or m i 0)) h k refl, gathered d (get_or l i 0) (get_or m i 0) _ _ refl refl)
    (both-assoc (eqb d 0) (eqb (get_or l i 0) (get_or m i 0)) (same (drop (i + 1) l) (drop (i + 1) m)))

pub loop-at-preserved : goal.loop-at-preserved
loop-at-preserved c =
    let n : length c.args.a ≡ 32 = c.well_formed.0.1.0.1 in
    let m : length c.args.b ≡ 32 = c.well_formed.1.0.1.0.1 in
    let k = c.loop-at in
    k.invariant ∙ turn c.args.a c.args.b k.differ k.at (omega arith) (omega arith)

pub returns : goal.returns
returns c =
    let n : length c.args.a ≡ 32 = c.well_formed.0.1.0.1 in
    let m : length c.args.b ≡ 32 = c.well_formed.1.0.1.0.1 in
    let k = c.loop-at in
    sym (k.invariant
    ∙ ap (both (eqb k.differ 0)) (same_end c.args.a c.args.b k.at (omega arith) (omega arith))
    ∙ both_right (eqb k.differ 0))
