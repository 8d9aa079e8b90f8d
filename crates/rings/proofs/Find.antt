-- Finding leaves in the ring: the leaf of a listed item, the leaf in whose gap an unlisted number lies, and the two leaves at
-- a listed item that is not alone.
use mathlib.Core.Path.{◌≡◌, refl}
use mathlib.Core.List.Memᴰ
use mathlib.Core.List.{List, [], ◌∷◌}
use mathlib.Core.Logic.{◌⊎◌, inl, inr}
use Prim.Native.Nat.{ℕ, ◌≤◌, ◌<◌}
use native.Mathlib.Decide.{dec_lt}
use native.Mathlib.Omega.{arith}
use Rattle.paper.specs.Strings.{Dig}
use Rattle.rings.specs.Trees.{TreeLeaf, points, count}
use Rattle.rings.specs.Lists.{ListItem, item_with, AscendingFrom, OnList, Unlisted, chain_of, ring}
use Rattle.rings.proofs.Counting.{count_head, count_tail}
use Rattle.rings.proofs.Gaps.{Gap, between, beyond, before}

-- a leaf of L in whose gap q lies
pub record Spot (q : ℕ) (L : List TreeLeaf) : Type 0 where
  pub a : ℕ
  pub b : ℕ
  pub w : Dig
  pub gap : Gap a b q
  pub on : 0 < count (points a b w) L

-- the leaf of item q, whose hash is v, and the leaf that leads to it
pub record Near (q : ℕ) (v : Dig) (L : List TreeLeaf) : Type 0 where
  pub a : ℕ
  pub b : ℕ
  pub w : Dig
  pub gap : Gap a b q
  pub on : 0 < count (points a q w) L
  pub next : 0 < count (points q b v) L

spot_behind : {q : ℕ} {L : List TreeLeaf} (x : TreeLeaf) → Spot q L → Spot q (x ∷ L)
spot_behind x t =
    record {
      a = t.a;
      b = t.b;
      w = t.w;
      gap = t.gap;
      on = count_tail _ _ _ t.on;
    }

near_behind : {q : ℕ} {v : Dig} {L : List TreeLeaf} (x : TreeLeaf) → Near q v L → Near q v (x ∷ L)
near_behind x t =
    record {
      a = t.a;
      b = t.b;
      w = t.w;
      gap = t.gap;
      on = count_tail _ _ _ t.on;
      next = count_tail _ _ _ t.next;
    }

module _ {R : Type 0} (h : R → Dig) where
  -- ── the leaf of a listed item ──

  item_chain : (q : ℕ) (s : R) (a : ℕ) (r : R) (l : List (ListItem R)) (z : ℕ) → OnList q s (item_with a r ∷ l)
      → (c : ℕ) × (0 < count (points q c (h s)) (chain_of h a r l z))
  item_chain q s a r [] z m =
      elim (Memᴰ.cases_cons m) [ inl e ↦ (z, count_head _ _ _ (cc)) | inr k ↦ elim k [ ] ]
  item_chain q s a r (item_with b t ∷ l) z m =
      elim (Memᴰ.cases_cons m) [
        | inl e ↦ (b, count_head _ _ _ (cc))
        | inr k ↦ (let u = item_chain q s b t l z k in (u.0, count_tail _ _ _ u.1))
      ]

  pub item_leaf : (q : ℕ) (s : R) (ls : List (ListItem R)) → OnList q s ls
      → (c : ℕ) × (0 < count (points q c (h s)) (ring h ls))
  item_leaf q s [] m = elim m [ ]
  item_leaf q s (item_with a r ∷ l) m = item_chain q s a r l a m

  -- the last leaf of a chain
  last_leaf_lem : (a : ℕ) (r : R) (l : List (ListItem R)) (z : ℕ) → AscendingFrom a l
      → (p : ℕ) × (w : Dig) × (a ≤ p) × (0 < count (points p z w) (chain_of h a r l z))
  last_leaf_lem a r [] z g = (a, h r, omega arith, count_head _ _ _ refl)
  last_leaf_lem a r (item_with b s ∷ l) z g =
      let t = last_leaf_lem b s l z g.1 in
      (t.0, t.1, omega (arith, g.0, t.2), count_tail _ _ _ t.3)

  -- ── the leaf in whose gap an unlisted number lies ──

  spot_chain : (q a : ℕ) (r : R) (l : List (ListItem R)) (z : ℕ) → z ≤ a → AscendingFrom a l → a < q → Unlisted q l
      → Spot q (chain_of h a r l z)
  spot_chain q a r [] z hz g k f =
      record {
        a = a;
        b = z;
        w = h r;
        gap = beyond hz k;
        on = count_head _ _ _ refl;
      }
  spot_chain q a r (item_with b s ∷ l) z hz g k f =
      elim (dec_lt q b) [
        | yes j ↦ record {
          a = a;
          b = b;
          w = h r;
          gap = between k j;
          on = count_head _ _ _ refl;
        }
        | no n ↦ spot_behind _ (spot_chain q b s l z (omega (arith, g.0)) g.1 (omega (arith, f.0)) f.1)
      ]

  pub spot : (q a : ℕ) (r : R) (l : List (ListItem R)) → 0 < q → AscendingFrom 0 (item_with a r ∷ l) → Unlisted q (item_with a r ∷ l)
      → Spot q (ring h (item_with a r ∷ l))
  spot q a r l hq g f = go (dec_lt q a)
    where
      go : Dec (q < a) → Spot q (chain_of h a r l a)
      go (yes j) =
          let t = last_leaf_lem a r l a g.1 in
          record {
            a = t.0;
            b = a;
            w = t.1;
            gap = before t.2 hq j;
            on = t.3;
          }
      go (no n) = spot_chain q a r l a (omega arith) g.1 (omega (arith, f.0)) f.1

  -- ── a listed item with its two leaves, where another item is listed too ──

  near_chain : (q : ℕ) (s : R) (a : ℕ) (r : R) (l : List (ListItem R)) (z : ℕ) → z ≤ a → AscendingFrom a l → OnList q s l
      → Near q (h s) (chain_of h a r l z)
  near_chain q s a r [] z hz g m = elim m [ ]
  near_chain q s a r (item_with b t ∷ l) z hz g m =
      elim (Memᴰ.cases_cons m) [
        | inl e ↦ here l g.1 e
        | inr k ↦ near_behind _ (near_chain q s b t l z (omega (arith, g.0)) g.1 k)
      ]
    where
      here : (l : List (ListItem R)) → AscendingFrom b l → item_with q s ≡ item_with b t
          → Near q (h s) (points a b (h r) ∷ chain_of h b t l z)
      here [] k e =
          let p : q ≡ b = cc in
          record {
            a = a;
            b = z;
            w = h r;
            gap = beyond hz (omega (arith, g.0));
            on = count_head _ _ _ (cc);
            next = count_tail _ _ _ (count_head _ _ _ (cc));
          }
      here (item_with c t' ∷ l') k e =
          let p : q ≡ b = cc in
          record {
            a = a;
            b = c;
            w = h r;
            gap = between (omega (arith, g.0)) (omega (arith, k.0));
            on = count_head _ _ _ (cc);
            next = count_tail _ _ _ (count_head _ _ _ (cc));
          }

  pub near : (q : ℕ) (s : R) (a : ℕ) (r : R) (b : ℕ) (t : R) (l : List (ListItem R)) → AscendingFrom 0 (item_with a r ∷ item_with b t ∷ l)
      → OnList q s (item_with a r ∷ item_with b t ∷ l) → Near q (h s) (ring h (item_with a r ∷ item_with b t ∷ l))
  near q s a r b t l g m = go (Memᴰ.cases_cons m)
    where
      go : (item_with q s ≡ item_with a r) ⊎ OnList q s (item_with b t ∷ l) → Near q (h s) (ring h (item_with a r ∷ item_with b t ∷ l))
      go (inl e) =
          let p : q ≡ a = cc in
          let u = last_leaf_lem b t l a g.1.1 in
          let m' : 0 < count (points u.0 q u.1) (chain_of h b t l a) = rw p u.3 in
          record {
            a = u.0;
            b = b;
            w = u.1;
            gap = before u.2 (omega (arith, g.0)) (omega (arith, g.1.0));
            on = count_tail _ _ _ m';
            next = count_head _ _ _ (cc);
          }
      go (inr k) = near_chain q s a r (item_with b t ∷ l) a (omega arith) g.1 k
