-- Alignment. Where a path folds the digest x to a tree's hash, the tree is that path with a part of hash x at its end, up to
-- empty parts, and another part may be put in its place; or a fault can be shown. The same for two places under one node.
-- This is why a memorandum, which knows digests only, says something of every tree that has them.
use mathlib.Core.Path.{◌≡◌, refl, sym, ap, ◌∙◌}
use mathlib.Core.List.{List, [], ◌∷◌, ◌++◌, append-nil}
use mathlib.Core.Logic.{◌⊎◌, inl, inr}
use Prim.Native.Nat.{ℕ, ◌+◌}
use native.Mathlib.Omega.{arith}
use Rattle.paper.specs.Strings.{Dig, nought, Str, node}
use Rattle.rings.specs.Trees.{TreeLeaf, points, Tree, empty, tip, branch, leaves, count}
use Rattle.rings.specs.Meanings.{◌∈◌, Within, Sibling, left_sibling, right_sibling, above, NodeIn, fold, PathIn, fold_two, PathsIn, hash_of_tree, TreeIn, Fault, vanishes}
use Rattle.rings.proofs.Counting.{count_nil, count_append}
use Rattle.rings.proofs.Nodes.{Dig-discrete, above_right_0, above_left_0, above_node, ◌>>=◌, same_string, no_leaf}

module _ (D : Str → Dig) where
  -- ── one node ──

  -- the leaves L are those of halves l and r of hashes a and b
  pub record Split (F : List Str) (a b : Dig) (L : List TreeLeaf) : Type 0 where
    pub l : Tree
    pub r : Tree
    pub hash_l : hash_of_tree D l ≡ a
    pub hash_r : hash_of_tree D r ≡ b
    pub in_l : TreeIn D F l
    pub in_r : TreeIn D F r
    pub cut : (x : TreeLeaf) → count x L ≡ count x (leaves l) + count x (leaves r)

  -- a tree is, up to empty parts, such a node; where one half is empty, the other splits
  split_node : {F : List Str} (T : Tree) (a b : Dig) → node a b ∈ F → D (node a b) ≡ hash_of_tree D T → TreeIn D F T
      → Fault D F ⊎ Split F a b (leaves T)
  split_node empty a b m e i = inl (vanishes (node a b) m e)
  split_node (tip (points a' b' w')) a b m e i = do
    p ← same_string D m i e
    let z : ◌≡◌ {A = ℕ} 0 1 = cc
    absurd (omega arith)
  split_node (branch l r) a b m e i =
      elim (Dig-discrete (hash_of_tree D l) nought) [
        | yes p ↦ (do
          u ← no_leaf D l p i.0
          s ← split_node r a b m (e ∙ above_left_0 D (hash_of_tree D l) (hash_of_tree D r) p) i.1
          inr (rw u s))
        | no n ↦ elim (Dig-discrete (hash_of_tree D r) nought) [
          | yes q ↦ (do
            u ← no_leaf D r q i.1
            s ← split_node l a b m (e ∙ above_right_0 D (hash_of_tree D l) (hash_of_tree D r) q) i.0
            inr (rw (u, append-nil) s))
          | no k ↦ (do
            p ← same_string D m (i.2 n k) (e ∙ above_node D (hash_of_tree D l) (hash_of_tree D r) n k)
            inr (record {
              l = l;
              r = r;
              hash_l = cc;
              hash_r = cc;
              in_l = i.0;
              in_r = i.1;
              cut = λ x. count_append x (leaves l) (leaves r);
            }))
        ]
      ]

  pub split : {F : List Str} (T : Tree) (a b : Dig) → NodeIn D F a b → above D a b ≡ hash_of_tree D T → TreeIn D F T
      → Fault D F ⊎ Split F a b (leaves T)
  split T a b m e i =
      elim (Dig-discrete b nought) [
        | yes q ↦ inr (record {
          l = T;
          r = empty;
          hash_l = sym e ∙ above_right_0 D a b q;
          hash_r = sym q;
          in_l = i;
          in_r = tt;
          cut = λ x. rw count_nil (omega arith);
        })
        | no n ↦ elim (Dig-discrete a nought) [
          | yes p ↦ inr (record {
            l = empty;
            r = T;
            hash_l = sym p;
            hash_r = sym e ∙ above_left_0 D a b p;
            in_l = tt;
            in_r = i;
            cut = λ x. rw count_nil (omega arith);
          })
          | no k ↦ split_node T a b (m k n) (sym (above_node D a b k n) ∙ e) i
        ]
      ]

  -- ── a path, the topmost sibling first ──

  pub path_more : {F G : List Str} (p : List Sibling) (x : Dig) → Within F G → PathIn D F p x → PathIn D G p x
  path_more [] x s i = tt
  path_more (left_sibling a ∷ p) x s i = (path_more p x s i.0, λ n m. s (node a (fold D p x)) (i.1 n m))
  path_more (right_sibling a ∷ p) x s i = (path_more p x s i.0, λ n m. s (node (fold D p x) a) (i.1 n m))

  pub fold_append : (q p : List Sibling) (x : Dig) → fold D (q ++ p) x ≡ fold D q (fold D p x)
  fold_append [] p x = refl
  fold_append (left_sibling s ∷ q) p x = ap (above D s) (fold_append q p x)
  fold_append (right_sibling s ∷ q) p x = ap (λ (y : Dig). above D y s) (fold_append q p x)

  pub path_append : (F : List Str) (q p : List Sibling) (x : Dig) → PathIn D F q (fold D p x) → PathIn D F p x → PathIn D F (q ++ p) x
  path_append F [] p x i j = j
  path_append F (left_sibling s ∷ q) p x i j = (path_append F q p x i.0 j, rw (fold_append q p x) i.1)
  path_append F (right_sibling s ∷ q) p x i j = (path_append F q p x i.0 j, rw (fold_append q p x) i.1)

  -- a tree of hash y with given leaves
  pub record Made (F : List Str) (y : Dig) (has : TreeLeaf → ℕ) : Type 0 where
    pub tree : Tree
    pub tree_hash : hash_of_tree D tree ≡ y
    pub tree_in : TreeIn D F tree
    pub holds : (z : TreeLeaf) → count z (leaves tree) ≡ has z

  -- T is a part of hash x under the path p, with the leaves `rest` beside it; another part may be put there
  pub record Hole (F : List Str) (p : List Sibling) (x : Dig) (T : Tree) : Type 0 where
    pub part : Tree
    pub part_hash : hash_of_tree D part ≡ x
    pub part_in : TreeIn D F part
    pub rest : List TreeLeaf
    pub cut : (z : TreeLeaf) → count z (leaves T) ≡ count z (leaves part) + count z rest
    pub fill : (Y : Tree) (y : Dig) → hash_of_tree D Y ≡ y → TreeIn D F Y → PathIn D F p y
        → Made F (fold D p y) (λ z. count z (leaves Y) + count z rest)

  pub align : {F : List Str} (p : List Sibling) (x : Dig) (T : Tree) → fold D p x ≡ hash_of_tree D T → TreeIn D F T → PathIn D F p x
      → Fault D F ⊎ Hole F p x T
  align [] x T e i j =
      inr (record {
        part = T;
        part_hash = sym e;
        part_in = i;
        rest = [];
        cut = λ z. rw count_nil (omega arith);
        fill = λ Y y eY iY jY.
            record { tree = Y; tree_hash = eY; tree_in = iY; holds = λ z. rw count_nil (omega arith) };
      })
  align (left_sibling s ∷ p) x T e i j = do
    c ← split T s (fold D p x) j.1 e i
    d ← align p x c.r (sym c.hash_r) c.in_r j.0
    inr (record {
      part = d.part;
      part_hash = d.part_hash;
      part_in = d.part_in;
      rest = leaves c.l ++ d.rest;
      cut = λ z. rw count_append (omega (arith, c.cut z, d.cut z));
      fill = λ Y y eY iY jY.
          let u = d.fill Y y eY iY jY.0 in
          record {
            tree = branch c.l u.tree;
            tree_hash = cc (c.hash_l, u.tree_hash);
            tree_in = (c.in_l, u.tree_in, rw (c.hash_l, u.tree_hash) jY.1);
            holds = λ z. simp count_append (omega (arith, u.holds z));
          };
    })
  align (right_sibling s ∷ p) x T e i j = do
    c ← split T (fold D p x) s j.1 e i
    d ← align p x c.l (sym c.hash_l) c.in_l j.0
    inr (record {
      part = d.part;
      part_hash = d.part_hash;
      part_in = d.part_in;
      rest = leaves c.r ++ d.rest;
      cut = λ z. rw count_append (omega (arith, c.cut z, d.cut z));
      fill = λ Y y eY iY jY.
          let u = d.fill Y y eY iY jY.0 in
          record {
            tree = branch u.tree c.r;
            tree_hash = cc (c.hash_r, u.tree_hash);
            tree_in = (u.tree_in, c.in_r, rw (c.hash_r, u.tree_hash) jY.1);
            holds = λ z. simp count_append (omega (arith, u.holds z));
          };
    })

  -- ── two paths that meet under one node, and the path above it ──

  pub paths_more : {F G : List Str} (p₁ p₂ q : List Sibling) (x₁ x₂ : Dig) → Within F G → PathsIn D F p₁ p₂ q x₁ x₂
      → PathsIn D G p₁ p₂ q x₁ x₂
  paths_more p₁ p₂ q x₁ x₂ s i = (
    path_more p₁ x₁ s i.0,
    path_more p₂ x₂ s i.1,
    λ n m. s (node (fold D p₁ x₁) (fold D p₂ x₂)) (i.2 n m),
    path_more q (above D (fold D p₁ x₁) (fold D p₂ x₂)) s i.3,
  )

  -- T holds a part of hash x₁ and beside it one of hash x₂; parts of hashes x₁' and x₂' put there make a tree of hash y'
  pub record Two (F : List Str) (x₁ x₂ x₁' x₂' y' : Dig) (T : Tree) : Type 0 where
    pub part₁ : Tree
    pub part₂ : Tree
    pub hash₁ : hash_of_tree D part₁ ≡ x₁
    pub hash₂ : hash_of_tree D part₂ ≡ x₂
    pub in₁ : TreeIn D F part₁
    pub in₂ : TreeIn D F part₂
    pub rest : List TreeLeaf
    pub cut : (z : TreeLeaf) → count z (leaves T) ≡ count z (leaves part₁) + count z (leaves part₂) + count z rest
    pub fill : (Y₁ Y₂ : Tree) → hash_of_tree D Y₁ ≡ x₁' → hash_of_tree D Y₂ ≡ x₂' → TreeIn D F Y₁ → TreeIn D F Y₂
        → Made F y' (λ z. count z (leaves Y₁) + count z (leaves Y₂) + count z rest)

  pub align_two : {F : List Str} (p₁ p₂ q : List Sibling) (x₁ x₂ x₁' x₂' : Dig) (T : Tree) → fold_two D p₁ p₂ q x₁ x₂ ≡ hash_of_tree D T
      → TreeIn D F T → PathsIn D F p₁ p₂ q x₁ x₂ → PathsIn D F p₁ p₂ q x₁' x₂'
      → Fault D F ⊎ Two F x₁ x₂ x₁' x₂' (fold_two D p₁ p₂ q x₁' x₂') T
  align_two p₁ p₂ q x₁ x₂ x₁' x₂' T e i j k = do
    a ← align q (above D (fold D p₁ x₁) (fold D p₂ x₂)) T e i j.3
    c ← split a.part (fold D p₁ x₁) (fold D p₂ x₂) j.2 (sym a.part_hash) a.part_in
    d ← align p₁ x₁ c.l (sym c.hash_l) c.in_l j.0
    f ← align p₂ x₂ c.r (sym c.hash_r) c.in_r j.1
    inr (record {
      part₁ = d.part;
      part₂ = f.part;
      hash₁ = d.part_hash;
      hash₂ = f.part_hash;
      in₁ = d.part_in;
      in₂ = f.part_in;
      rest = d.rest ++ (f.rest ++ a.rest);
      cut = λ z. simp count_append (omega (arith, a.cut z, c.cut z, d.cut z, f.cut z));
      fill = λ Y₁ Y₂ e₁ e₂ i₁ i₂.
          let u = d.fill Y₁ x₁' e₁ i₁ k.0 in
          let v = f.fill Y₂ x₂' e₂ i₂ k.1 in
          let w = a.fill (branch u.tree v.tree) (above D (fold D p₁ x₁') (fold D p₂ x₂')) (cc (u.tree_hash, v.tree_hash))
          (u.tree_in, v.tree_in, rw (u.tree_hash, v.tree_hash) k.2) k.3 in
          record {
            tree = w.tree;
            tree_hash = w.tree_hash;
            tree_in = w.tree_in;
            holds = λ z.
                simp count_append
                (omega (arith, w.holds z, u.holds z, v.holds z, count_append z (leaves u.tree) (leaves v.tree)));
          };
    })
