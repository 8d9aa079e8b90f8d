-- The theory's parent, hashes and records are paper's: for D any digest of bytes with 32 bytes, the theory is taken with
-- `digest_of D`. The theory's parent looks whether a digest is 0 and paper's whether its bytes are all 0, which for 32 bytes is
-- the same.
use mathlib.Core.Bool.{Bool, true, false, true≢false}
use mathlib.Core.Path.{◌≡◌, refl, sym, ap, ◌∙◌}
use mathlib.Core.List.Memᴰ
use mathlib.Core.List.{List, [], ◌∷◌}
use mathlib.Core.Logic.{◌≢◌}
use Prim.Native.Nat.{ℕ, zero, suc}
use native.Mathlib.Omega.{arith}
use borrow.Author.Tests.{eqb-true, eqb-false, ne_eqb}
use lib.Dec.{eqb}
use lib.ListN.{length, replicate}
use Rattle.seqs.specs.Choose.{pick, both, opposite, both_true}
use Rattle.seqs.specs.Bytes.{all_zero}
use Rattle.paper.specs.declared.Record.{Record}
use Rattle.paper.specs.Strings.{Dig, nought, empty_record, Str, entry, node, enc, numbers, blank, malformed, record_forms, parent_forms, digest_of, record_hash, H}
use Rattle.rings.specs.Trees.{points, Tree, empty, tip, branch, hash_of}
use Rattle.rings.specs.Meanings.{Within, above, NodeIn, hash_of_tree, RecordKnown, known_empty, known_recorded}
use Rattle.rings.proofs.Nodes.{Dig-discrete, above_right_0, above_left_0, above_node}

-- ── a digest that is 0 ──

zeros : (n : ℕ) (l : List ℕ) → length l ≡ n → all_zero l ≡ true → l ≡ replicate n 0
zeros zero [] e h = refl
zeros zero (a ∷ l) e h = absurd (omega arith)
zeros (suc n) [] e h = absurd (omega arith)
zeros (suc n) (a ∷ l) e h =
    let p = both_true (eqb a 0) (all_zero l) h in
    let q : a ≡ 0 = eqb-true a 0 p.0 in
    let t = zeros n l (omega arith) p.1 in
    cc

pub zero_is_nought : (a : Dig) → length a ≡ 32 → all_zero a ≡ true → a ≡ nought
zero_is_nought a e h = zeros 32 a e h

nought_is_zero : (a : Dig) → a ≡ nought → all_zero a ≡ true
nought_is_zero a e = ap all_zero e

other_than_nought : (a : Dig) → length a ≡ 32 → a ≢ nought → all_zero a ≡ false
other_than_nought a e n = go (all_zero a) refl
  where
    go : (b : Bool) → all_zero a ≡ b → all_zero a ≡ false
    go true h = absurd (n (zero_is_nought a e h))
    go false h = h

-- ── records ──

-- all four numbers are 0
all_0 : (r : Record) → all_zero (numbers r) ≡ true → r ≡ empty_record
all_0 r h =
    let p = both_true (eqb r.revision.0 0) _ h in
    let q = both_true (eqb r.mass.0 0) _ p.1 in
    let s = both_true (eqb r.offset.0 0) _ q.1 in
    let t = both_true (eqb r.rigging.0 0) _ s.1 in
    let e₁ = eqb-true _ _ p.0 in
    let e₂ = eqb-true _ _ q.0 in
    let e₃ = eqb-true _ _ s.0 in
    let e₄ = eqb-true _ _ t.0 in
    λ i.
    record {
      revision = record { 0 = e₁ i };
      mass = record { 0 = e₂ i };
      offset = record { 0 = e₃ i };
      rigging = record { 0 = e₄ i };
    }

-- a record that check 5 passes is known where its string is formed
pub known_by : (D : Str → Dig) (F : List Str) (r : Record) → malformed r ≡ false → Within (record_forms r) F → RecordKnown D F r
unfolding malformed record_forms
known_by D F r = go (blank r) (all_zero (numbers r)) refl refl
  where
    go : (b z : Bool) → blank r ≡ b → all_zero (numbers r) ≡ z → both b (opposite z) ≡ false
        → Within (pick b [] (entry r ∷ [])) F → RecordKnown D F r
    go true true e f h s = known_empty (all_0 r f)
    go true false e f h s = absurd (true≢false h)
    go false z e f h s = known_recorded (eqb-false r.revision.0 0 e) (s (entry r) (Memᴰ.head refl))

-- and a known record passes it
pub known_passes : (D : Str → Dig) (F : List Str) (r : Record) → RecordKnown D F r → malformed r ≡ false
unfolding malformed
known_passes D F r (known_empty e) = ap malformed e
known_passes D F r (known_recorded n m) = rw (ne_eqb r.revision.0 0 n) refl

-- ── the parent's string ──

pub node_in : (D : Str → Dig) (F : List Str) (u v : Dig) → length u ≡ 32 → length v ≡ 32 → Within (parent_forms u v) F
    → NodeIn D F u v
unfolding parent_forms
node_in D F u v eu ev s n m =
    let zu = other_than_nought u eu n in
    let zv = other_than_nought v ev m in
    s (node u v) (rw (zv, zu) (Memᴰ.head refl))

module _ (D : List ℕ → Dig) where
  pub parent_is : (u v : Dig) → length u ≡ 32 → length v ≡ 32 → H D u v ≡ above (digest_of D) u v
  unfolding H
  parent_is u v eu ev = go (Dig-discrete v nought) (Dig-discrete u nought)
    where
      go : Dec (v ≡ nought) → Dec (u ≡ nought)
          → pick (all_zero v) u (pick (all_zero u) v (digest_of D (node u v))) ≡ above (digest_of D) u v
      go (yes q) d = rw (nought_is_zero v q) (sym (above_right_0 (digest_of D) u v q))
      go (no n) (yes p) =
          rw (other_than_nought v ev n, nought_is_zero u p) (sym (above_left_0 (digest_of D) u v p))
      go (no n) (no m) =
          rw (other_than_nought v ev n, other_than_nought u eu m) (sym (above_node (digest_of D) u v m n))

  -- ── widths, where every digest has 32 bytes ──

  module _ (D32 : (l : List ℕ) → length (D l) ≡ 32) where
    pick_32 : (b : Bool) (u v : Dig) → length u ≡ 32 → length v ≡ 32 → length (pick b u v) ≡ 32
    pick_32 true u v h k = h
    pick_32 false u v h k = k

    pub record_32 : (r : Record) → length (record_hash D r) ≡ 32
    unfolding record_hash
    record_32 r = pick_32 (blank r) nought (digest_of D (entry r)) refl (D32 (enc (entry r)))

    pub parent_32 : (u v : Dig) → length u ≡ 32 → length v ≡ 32 → length (H D u v) ≡ 32
    unfolding H
    parent_32 u v h k =
        pick_32 (all_zero v) u (pick (all_zero u) v (digest_of D (node u v))) h
        (pick_32 (all_zero u) v (digest_of D (node u v)) k (D32 (enc (node u v))))

    hash_32 : (T : Tree) → length (hash_of D T) ≡ 32
    hash_32 empty = refl
    hash_32 (tip (points a b w)) = D32 _
    hash_32 (branch l r) = parent_32 (hash_of D l) (hash_of D r) (hash_32 l) (hash_32 r)

    -- the hash of a tree
    pub hash_is : (T : Tree) → hash_of D T ≡ hash_of_tree (digest_of D) T
    hash_is empty = refl
    hash_is (tip (points a b w)) = refl
    hash_is (branch l r) =
        parent_is (hash_of D l) (hash_of D r) (hash_32 l) (hash_32 r) ∙ (λ i. above (digest_of D) (hash_is l i) (hash_is r i))
