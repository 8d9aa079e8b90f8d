-- Leaves and their places: a leaf that occurs is found by a test, the tree is that leaf under its way, or two leaves under
-- their fork, and replacing one or both changes nothing else.
use mathlib.Core.Path.{◌≡◌, refl, sym, ap, ap₂, subst, ◌∙◌}
use mathlib.Core.Bool.{Bool, true, false, true≢false}
use mathlib.Core.List.{List, [], ◌∷◌, ◌++◌}
use mathlib.Core.Logic.{◌≢◌}
use Prim.Native.Nat.{ℕ, ◌+◌, ◌≤◌, ◌<◌}
use native.Mathlib.Decide.{dec_lt}
use native.Mathlib.Omega.{arith}
use Rattle.seqs.specs.Choose.{pick, either, either_yes}
use Rattle.paper.specs.Strings.{Dig, H}
use Rattle.rings.specs.Trees.{TreeLeaf, TreeLeaf-discrete, Tree, empty, tip, branch, leaves, hash_of, count}
use Rattle.rings.proofs.Counting.{count_nil, count_append, count_single, count_head}
use Rattle.runs.specs.Ways.{Level, on_left, on_right, Way, has, found, way_to, rise, Fork, under, fork_of, left_one, right_one, regrown, if_yes, replacing, replacing_two}

-- ── a tree under a way ──

abbrev beside : Level → Tree → Tree
beside (on_left S) X = branch S X
beside (on_right S) X = branch X S

abbrev pub plug : Way → Tree → Tree
plug [] X = X
plug (v ∷ p) X = plug p (beside v X)

plug_last : (p : Way) (v : Level) (X : Tree) → plug (p ++ (v ∷ [])) X ≡ beside v (plug p X)
plug_last [] v X = refl
plug_last (u ∷ p) v X = plug_last p v (beside u X)

pub rise_plug : (D : List ℕ → Dig) (p : Way) (X : Tree) → rise D p (hash_of D X) ≡ hash_of D (plug p X)
rise_plug D [] X = refl
rise_plug D (on_left S ∷ p) X = rise_plug D p (branch S X)
rise_plug D (on_right S ∷ p) X = rise_plug D p (branch X S)

-- two trees under a fork
abbrev pub plug_two : Fork → (X Y : Tree) → Tree
plug_two f X Y = plug f.above (branch (plug f.left X) (plug f.right Y))

pub rise_two : (D : List ℕ → Dig) (f : Fork) (X Y : Tree)
    → rise D f.above (H D (rise D f.left (hash_of D X)) (rise D f.right (hash_of D Y))) ≡ hash_of D (plug_two f X Y)
rise_two D f X Y =
    ap₂ (λ (x y : Dig). rise D f.above (H D x y)) (rise_plug D f.left X) (rise_plug D f.right Y)
    ∙ rise_plug D f.above (branch (plug f.left X) (plug f.right Y))

-- ── found by a test ──

module _ (p : TreeLeaf → Bool) where
  -- a leaf that occurs and passes
  pub has_it : (x : TreeLeaf) (T : Tree) → p x ≡ true → 0 < count x (leaves T) → has p T ≡ true
  has_it x empty e h = absurd (omega (arith, count_nil x))
  has_it x (tip y) e h = let q = count_single x y h in ap p (sym q) ∙ e
  has_it x (branch l r) e h =
      elim (dec_lt 0 (count x (leaves l))) [
        | yes k ↦ rw (has_it x l e k) refl
        | no n ↦ rw (has_it x r e (omega (arith, count_append x (leaves l) (leaves r))), either_yes) refl
      ]

  -- the leaf found passes and occurs, and the tree is that leaf under its way
  pub record Located (T : Tree) : Type 0 where
    pub passes : p (found p T) ≡ true
    pub occurs : 0 < count (found p T) (leaves T)
    pub under_way : plug (way_to p T) (tip (found p T)) ≡ T

  pub located : (T : Tree) → has p T ≡ true → Located T
  located empty h = absurd (true≢false (sym h))
  located (tip x) h = record { passes = h; occurs = count_head x x [] refl; under_way = refl }
  located (branch l r) h = by_side (has p l) refl h (located l) (located r)
    where
      by_side : (b : Bool) → has p l ≡ b → either b (has p r) ≡ true → (has p l ≡ true → Located l)
          → (has p r ≡ true → Located r) → Located (branch l r)
      by_side true e k f g =
          let a = f e in
          record {
            passes = rw e a.passes;
            occurs = rw e (omega (arith, a.occurs, count_append (found p l) (leaves l) (leaves r)));
            under_way = rw e (plug_last (way_to p l) (on_right r) _ ∙ ap (λ (t : Tree). branch t r) a.under_way);
          }
      by_side false e k f g =
          let a = g k in
          record {
            passes = rw e a.passes;
            occurs = rw e (omega (arith, a.occurs, count_append (found p r) (leaves l) (leaves r)));
            under_way = rw e (plug_last (way_to p r) (on_left l) _ ∙ ap (λ (t : Tree). branch l t) a.under_way);
          }

-- ── two leaves under their fork ──

abbrev pub Forks : Fork → (x y : TreeLeaf) → Tree → Type 0
Forks f x y T = plug_two f (left_one f (tip x) (tip y)) (right_one f (tip x) (tip y)) ≡ T

module _ (p q : TreeLeaf → Bool) where
  pub forked : (T : Tree) → has p T ≡ true → has q T ≡ true → found p T ≢ found q T
      → Forks (fork_of p q T) (found p T) (found q T) T
  forked empty h k n = absurd (true≢false (sym h))
  forked (tip x) h k n = absurd (n refl)
  forked (branch l r) h k n = by_sides (has p l) (has q l) refl refl h k n (forked l) (forked r)
    where
      by_sides : (a b : Bool) → has p l ≡ a → has q l ≡ b → either a (has p r) ≡ true → either b (has q r) ≡ true
          → pick a (found p l) (found p r) ≢ pick b (found q l) (found q r)
          → (has p l ≡ true → has q l ≡ true → found p l ≢ found q l → Forks (fork_of p q l) (found p l) (found q l) l)
          → (has p r ≡ true → has q r ≡ true → found p r ≢ found q r → Forks (fork_of p q r) (found p r) (found q r) r)
          → Forks
          (pick a
          (pick b (under (on_right r) (fork_of p q l))
          (record { left = way_to p l; right = way_to q r; above = []; crossed = false }))
          (pick b (record { left = way_to q l; right = way_to p r; above = []; crossed = true }) (under (on_left l) (fork_of p q r))))
          (pick a (found p l) (found p r)) (pick b (found q l) (found q r)) (branch l r)
      by_sides true true e e' h k n f g =
          plug_last (fork_of p q l).above (on_right r) _ ∙ ap (λ (t : Tree). branch t r) (f e e' n)
      by_sides true false e e' h k n f g = ap₂ (λ (t u : Tree). branch t u) (located p l e).under_way (located q r k).under_way
      by_sides false true e e' h k n f g = ap₂ (λ (t u : Tree). branch t u) (located q l e').under_way (located p r h).under_way
      by_sides false false e e' h k n f g =
          plug_last (fork_of p q r).above (on_left l) _ ∙ ap (λ (t : Tree). branch l t) (g h k n)

-- ── how often a leaf occurs ──

-- beside a way
abbrev pub around : TreeLeaf → Way → ℕ
around z [] = 0
around z (on_left S ∷ p) = count z (leaves S) + around z p
around z (on_right S ∷ p) = count z (leaves S) + around z p

pub count_plug : (z : TreeLeaf) (p : Way) (X : Tree) → count z (leaves (plug p X)) ≡ count z (leaves X) + around z p
count_plug z [] X = omega arith
count_plug z (on_left S ∷ p) X = omega (arith, count_plug z p (branch S X), count_append z (leaves S) (leaves X))
count_plug z (on_right S ∷ p) X = omega (arith, count_plug z p (branch X S), count_append z (leaves X) (leaves S))

-- beside a fork
abbrev around_two : TreeLeaf → Fork → ℕ
around_two z f = around z f.left + around z f.right + around z f.above

pub count_two : (z : TreeLeaf) (f : Fork) (X Y : Tree)
    → count z (leaves (plug_two f X Y)) ≡ count z (leaves X) + count z (leaves Y) + around_two z f
count_two z f X Y =
    omega (
      arith,
      count_plug z f.above (branch (plug f.left X) (plug f.right Y)),
      count_append z (leaves (plug f.left X)) (leaves (plug f.right Y)),
      count_plug z f.left X,
      count_plug z f.right Y,
    )

-- ── leaves replaced ──

module _ (g : TreeLeaf → Tree) where
  -- a tree stays where no leaf of it is replaced
  stays : (T : Tree) → ((v : TreeLeaf) → 0 < count v (leaves T) → g v ≡ tip v) → regrown g T ≡ T
  stays empty k = refl
  stays (tip z) k = k z (count_head z z [] refl)
  stays (branch l r) k =
      ap₂ (λ (t u : Tree). branch t u) (stays l (λ v h. k v (omega (arith, h, count_append v (leaves l) (leaves r)))))
      (stays r (λ v h. k v (omega (arith, h, count_append v (leaves l) (leaves r)))))

  regrown_plug : (p : Way) (X : Tree) → ((v : TreeLeaf) → 0 < around v p → g v ≡ tip v) → regrown g (plug p X) ≡ plug p (regrown g X)
  regrown_plug [] X k = refl
  regrown_plug (on_left S ∷ p) X k =
      regrown_plug p (branch S X) (λ v h. k v (omega (arith, h)))
      ∙ ap (λ (t : Tree). plug p (branch t (regrown g X))) (stays S (λ v h. k v (omega (arith, h))))
  regrown_plug (on_right S ∷ p) X k =
      regrown_plug p (branch X S) (λ v h. k v (omega (arith, h)))
      ∙ ap (λ (t : Tree). plug p (branch (regrown g X) t)) (stays S (λ v h. k v (omega (arith, h))))

  regrown_fork : (f : Fork) (a b : TreeLeaf) → ((v : TreeLeaf) → 0 < around_two v f → g v ≡ tip v)
      → regrown g (plug_two f (tip a) (tip b)) ≡ plug_two f (g a) (g b)
  regrown_fork f a b k =
      regrown_plug f.above (branch (plug f.left (tip a)) (plug f.right (tip b))) (λ v h. k v (omega (arith, h)))
      ∙ ap₂ (λ (t u : Tree). plug f.above (branch t u)) (regrown_plug f.left (tip a) (λ v h. k v (omega (arith, h))))
      (regrown_plug f.right (tip b) (λ v h. k v (omega (arith, h))))

-- by a test that is known
if_yes_lem : {P : Type 0} (d : Dec P) (X Y : Tree) → P → if_yes d X Y ≡ X
if_yes_lem (yes e) X Y h = refl
if_yes_lem (no n) X Y h = absurd (n h)

if_no : {P : Type 0} (d : Dec P) (X Y : Tree) → (P → ⊥) → if_yes d X Y ≡ Y
if_no (yes e) X Y n = absurd (n e)
if_no (no k) X Y n = refl

-- one leaf that occurs once
module _ (x : TreeLeaf) (X : Tree) where
  pub regrown_one : (p : Way) (T : Tree) → plug p (tip x) ≡ T → count x (leaves T) ≤ 1 → regrown (replacing x X) T ≡ plug p X
  regrown_one p T e once =
      ap (regrown (replacing x X)) (sym e) ∙ regrown_plug (replacing x X) p (tip x)
      (λ v h. if_no (TreeLeaf-discrete v x) X (tip v) (λ q. twice (subst (λ (u : TreeLeaf). 0 < around u p) q h)))
      ∙ ap (plug p) (if_yes_lem (TreeLeaf-discrete x x) X (tip x) refl)
    where
      twice : 0 < around x p → ⊥
      twice h =
          let c : count x (leaves (plug p (tip x))) ≤ 1 = rw e once in
          omega (arith, h, count_plug x p (tip x), count_head x x [] refl)

-- two leaves that occur once each
module _ (x : TreeLeaf) (X : Tree) (y : TreeLeaf) (Y : Tree) (apart : x ≢ y) where
  first_replaced : replacing_two x X y Y x ≡ X
  first_replaced = if_yes_lem (TreeLeaf-discrete x x) X _ refl

  second_replaced : replacing_two x X y Y y ≡ Y
  second_replaced = if_no (TreeLeaf-discrete y x) X _ (λ e. apart (sym e)) ∙ if_yes_lem (TreeLeaf-discrete y y) Y (tip y) refl

  both_kept : (v : TreeLeaf) → v ≢ x → v ≢ y → replacing_two x X y Y v ≡ tip v
  both_kept v n m = if_no (TreeLeaf-discrete v x) X _ n ∙ if_no (TreeLeaf-discrete v y) Y (tip v) m

  pub regrown_two : (f : Fork) (T : Tree) → Forks f x y T → count x (leaves T) ≤ 1 → count y (leaves T) ≤ 1
      → regrown (replacing_two x X y Y) T ≡ plug_two f (left_one f X Y) (right_one f X Y)
  regrown_two f T e ox oy = by_side f.crossed e
    where
      -- neither stands beside the fork
      beside_not : (v a b : TreeLeaf) → plug_two f (tip a) (tip b) ≡ T → count v (leaves T) ≤ 1
          → 0 < count v (a ∷ []) + count v (b ∷ [])
          → 0 < around_two v f → ⊥
      beside_not v a b q once there h =
          let c : count v (leaves (plug_two f (tip a) (tip b))) ≤ 1 = rw q once in
          omega (arith, h, there, count_two v f (tip a) (tip b))

      at_feet : (a b : TreeLeaf) → plug_two f (tip a) (tip b) ≡ T → 0 < count x (a ∷ []) + count x (b ∷ [])
          → 0 < count y (a ∷ []) + count y (b ∷ []) → regrown (replacing_two x X y Y) T
          ≡ plug_two f (replacing_two x X y Y a) (replacing_two x X y Y b)
      at_feet a b q hx hy =
          ap (regrown (replacing_two x X y Y)) (sym q)
          ∙ regrown_fork (replacing_two x X y Y) f a b
          (λ v h.
          both_kept v (λ r. beside_not x a b q ox hx (subst (λ (u : TreeLeaf). 0 < around_two u f) r h))
          (λ r. beside_not y a b q oy hy (subst (λ (u : TreeLeaf). 0 < around_two u f) r h)))

      here_x : 0 < count x (x ∷ [])
      here_x = count_head x x [] refl

      here_y : 0 < count y (y ∷ [])
      here_y = count_head y y [] refl

      by_side : (c : Bool) → plug_two f (pick c (tip y) (tip x)) (pick c (tip x) (tip y)) ≡ T
          → regrown (replacing_two x X y Y) T ≡ plug_two f (pick c Y X) (pick c X Y)
      by_side true q =
          at_feet y x q (omega (arith, here_x)) (omega (arith, here_y))
          ∙ ap₂ (λ (t u : Tree). plug_two f t u) second_replaced first_replaced
      by_side false q =
          at_feet x y q (omega (arith, here_x)) (omega (arith, here_y))
          ∙ ap₂ (λ (t u : Tree). plug_two f t u) first_replaced second_replaced
