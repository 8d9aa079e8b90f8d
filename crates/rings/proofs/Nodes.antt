-- What can be said of a tree by its hash alone, or else shown: two different strings of F with one digest, or one whose digest
-- is 0. F is any list of strings that holds those of the trees.
use mathlib.Core.Path.{◌≡◌, refl, sym, ap, ◌∙◌}
use mathlib.Core.Bool.{Bool, true, false}
use mathlib.Core.List.{List, [], ◌∷◌, List-discrete}
use mathlib.Core.Logic.{◌⊎◌, inl, inr, ◌≢◌}
use Prim.Native.Nat.{ℕ}
use native.Mathlib.Decide.{ℕ_discrete}
use native.Mathlib.Omega.{arith}
use Rattle.seqs.specs.Choose.{pick}
use Rattle.seqs.specs.Bytes.{same, same_true}
use Rattle.paper.specs.Strings.{Dig, nought, Str, leaf, node}
use Rattle.paper.proofs.Encoding.{Str-discrete}
use Rattle.rings.specs.Trees.{points, Tree, empty, tip, branch, leaves}
use Rattle.rings.specs.Meanings.{◌∈◌, Within, above, hash_of_tree, TreeIn, Fault, collides, vanishes}

pub Dig-discrete : Discrete Dig
Dig-discrete = List-discrete ℕ_discrete

-- an ending, or on with what was found
infixl 1 ◌>>=◌
pub ◌>>=◌ : {E A B : Type 0} → E ⊎ A → (A → E ⊎ B) → E ⊎ B
(inl e) >>= f = inl e
(inr a) >>= f = f a

-- an ending said otherwise
pub instead : {E E' A : Type 0} → (E → E') → E ⊎ A → E' ⊎ A
instead f (inl e) = inl (f e)
instead f (inr a) = inr a

module _ (D : Str → Dig) where
  -- ── the parent ──

  pub above_right_0 : (a b : Dig) → b ≡ nought → above D a b ≡ a
  unfolding above
  above_right_0 a b e = rw (ap (λ (x : Dig). same x nought) e) refl

  not_same : (a : Dig) → a ≢ nought → same a nought ≡ false
  not_same a n = go (same a nought) refl
    where
      go : (t : Bool) → same a nought ≡ t → t ≡ false
      go true e = absurd (n (same_true a nought e))
      go false e = refl

  pub above_left_0 : (a b : Dig) → a ≡ nought → above D a b ≡ b
  unfolding above
  above_left_0 a b e = go (same b nought) refl
    where
      go : (t : Bool) → same b nought ≡ t → pick t a (pick (same a nought) b (D (node a b))) ≡ b
      go true f = e ∙ sym (same_true b nought f)
      go false f = rw (ap (λ (x : Dig). same x nought) e) refl

  pub above_node : (a b : Dig) → a ≢ nought → b ≢ nought → above D a b ≡ D (node a b)
  unfolding above
  above_node a b na nb = rw (not_same b nb, not_same a na) refl

  -- ── a tree ──

  pub tree_more : {F G : List Str} (T : Tree) → Within F G → TreeIn D F T → TreeIn D G T
  tree_more empty s i = tt
  tree_more (tip (points a b w)) s i = s (leaf a b w) i
  tree_more (branch l r) s i =
      (tree_more l s i.0, tree_more r s i.1, λ n m. s (node (hash_of_tree D l) (hash_of_tree D r)) (i.2 n m))

  pub same_string : {F : List Str} {s t : Str} → s ∈ F → t ∈ F → D s ≡ D t → Fault D F ⊎ (s ≡ t)
  same_string {F} {s} {t} i j e = elim (Str-discrete s t) [ yes p ↦ inr p | no n ↦ inl (collides s t i j n e) ]

  -- a tree that hashes to 0 has no leaves
  pub no_leaf : {F : List Str} (T : Tree) → hash_of_tree D T ≡ nought → TreeIn D F T → Fault D F ⊎ (leaves T ≡ [])
  no_leaf empty e i = inr refl
  no_leaf (tip (points a b w)) e i = inl (vanishes (leaf a b w) i e)
  no_leaf (branch l r) e i =
      elim (Dig-discrete (hash_of_tree D l) nought) [
        | yes p ↦ (do
          u ← no_leaf l p i.0
          v ← no_leaf r (sym (above_left_0 (hash_of_tree D l) (hash_of_tree D r) p) ∙ e) i.1
          inr (rw (u, v)))
        | no n ↦ elim (Dig-discrete (hash_of_tree D r) nought) [
          | yes q ↦ absurd (n (sym (above_right_0 (hash_of_tree D l) (hash_of_tree D r) q) ∙ e))
          | no m ↦
              inl (vanishes (node (hash_of_tree D l) (hash_of_tree D r)) (i.2 n m)
              (sym (above_node (hash_of_tree D l) (hash_of_tree D r) n m) ∙ e))
        ]
      ]

  -- a tree that hashes to a leaf's digest holds that leaf alone
  pub only_leaf : {F : List Str} (T : Tree) (a b : ℕ) (w : Dig) → leaf a b w ∈ F → hash_of_tree D T ≡ D (leaf a b w) → TreeIn D F T
      → Fault D F ⊎ (leaves T ≡ points a b w ∷ [])
  only_leaf empty a b w m e i = inl (vanishes (leaf a b w) m (sym e))
  only_leaf {F} (tip (points a' b' w')) a b w m e i = do
    p ← same_string i m e
    inr (cc)
  only_leaf (branch l r) a b w m e i =
      elim (Dig-discrete (hash_of_tree D l) nought) [
        | yes p ↦ (do
          u ← no_leaf l p i.0
          v ← only_leaf r a b w m (sym (above_left_0 (hash_of_tree D l) (hash_of_tree D r) p) ∙ e) i.1
          inr (rw (u, v)))
        | no n ↦ elim (Dig-discrete (hash_of_tree D r) nought) [
          | yes q ↦ (do
            u ← no_leaf r q i.1
            v ← only_leaf l a b w m (sym (above_right_0 (hash_of_tree D l) (hash_of_tree D r) q) ∙ e) i.0
            inr (rw (u, v)))
          | no k ↦ (do
            p ← same_string (i.2 n k) m (sym (above_node (hash_of_tree D l) (hash_of_tree D r) n k) ∙ e)
            let z : ◌≡◌ {A = ℕ} 0 1 = cc
            absurd (omega arith))
        ]
      ]
