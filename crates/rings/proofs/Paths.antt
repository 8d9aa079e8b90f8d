-- A path as a line carries it, siblings lowest first and their sides as bits, against the theory's path, topmost sibling
-- first; and the law of kind 01: what the answer to a path folds and forms is what its U1 means.
use mathlib.Core.Bool.{Bool, true, false}
use mathlib.Core.Path.{◌≡◌, refl, sym, ap, subst, ◌∙◌}
use mathlib.Core.List.Memᴰ
use mathlib.Core.List.{List, [], ◌∷◌, ◌++◌}
use Prim.Native.Nat.{ℕ, ◌/◌, ◌%◌}
use lib.Dec.{eqb}
use lib.ListN.{length}
use Rattle.seqs.specs.Choose.{pick, Every}
use Rattle.paper.specs.Strings.{Dig, Str, parent_forms, digest_of, H, up, up_forms, fold_up, fold_forms}
use Rattle.rings.specs.Meanings.{Within, Sibling, left_sibling, right_sibling, fold, PathIn, MeansU1}
use Rattle.rings.proofs.Align.{fold_append, path_append}
use Rattle.rings.proofs.Bridge.{node_in, parent_is, parent_32}

-- ── siblings and their sides ──

-- the side of a sibling by its bit (§5.2.2)
abbrev sibling : (bit : ℕ) → Dig → Sibling
sibling bit s = pick (eqb bit 1) (left_sibling s) (right_sibling s)

abbrev lowest_first : (sides : ℕ) → List Dig → List Sibling
lowest_first sides [] = []
lowest_first sides (s ∷ l) = sibling (sides % 2) s ∷ lowest_first (sides / 2) l

abbrev top_first : List Sibling → List Sibling
top_first [] = []
top_first (s ∷ p) = top_first p ++ (s ∷ [])

-- every sibling has 32 bytes
abbrev pub AllWide : List Dig → Type 0
AllWide = Every (λ s. length s ≡ 32)

-- ── up a path, the lowest sibling first ──

module _ (D : Str → Dig) where
  abbrev over : Sibling → Dig → Dig
  over s x = fold D (s ∷ []) x

  abbrev rise : List Sibling → Dig → Dig
  rise [] x = x
  rise (s ∷ p) x = rise p (over s x)

  rise_fold : (p : List Sibling) (x : Dig) → fold D (top_first p) x ≡ rise p x
  rise_fold [] x = refl
  rise_fold (s ∷ p) x = fold_append D (top_first p) (s ∷ []) x ∙ rise_fold p (over s x)

-- ── paper's fold and its strings ──

module _ (D : List ℕ → Dig) (D32 : (l : List ℕ) → length (D l) ≡ 32) where
  -- one level
  level_is : (b : Bool) (s x : Dig) → length s ≡ 32 → length x ≡ 32
      → pick b (H D s x) (H D x s) ≡ over (digest_of D) (pick b (left_sibling s) (right_sibling s)) x
  level_is true s x hs hx = parent_is D s x hs hx
  level_is false s x hs hx = parent_is D x s hx hs

  level_32 : (b : Bool) (s x : Dig) → length s ≡ 32 → length x ≡ 32 → length (pick b (H D s x) (H D x s)) ≡ 32
  level_32 true s x hs hx = parent_32 D D32 s x hs hx
  level_32 false s x hs hx = parent_32 D D32 x s hx hs

  level_in : (F : List Str) (b : Bool) (s x : Dig) → length s ≡ 32 → length x ≡ 32
      → Within (pick b (parent_forms s x) (parent_forms x s)) F → PathIn (digest_of D) F (pick b (left_sibling s) (right_sibling s) ∷ []) x
  level_in F true s x hs hx i = (tt, node_in (digest_of D) F s x hs hx i)
  level_in F false s x hs hx i = (tt, node_in (digest_of D) F x s hx hs i)

  pub fold_up_32 : (x : Dig) (sides : ℕ) (l : List Dig) → length x ≡ 32 → AllWide l → length (fold_up D x sides l) ≡ 32
  fold_up_32 x sides [] hx hl = hx
  fold_up_32 x sides (s ∷ l) hx hl =
      fold_up_32 (up D x s (sides % 2)) (sides / 2) l (level_32 (eqb (sides % 2) 1) s x hl.0 hx) hl.1

  fold_up_is : (x : Dig) (sides : ℕ) (l : List Dig) → length x ≡ 32 → AllWide l
      → fold_up D x sides l ≡ rise (digest_of D) (lowest_first sides l) x
  fold_up_is x sides [] hx hl = refl
  fold_up_is x sides (s ∷ l) hx hl =
      let b = eqb (sides % 2) 1 in
      fold_up_is (up D x s (sides % 2)) (sides / 2) l (level_32 b s x hl.0 hx) hl.1
      ∙ ap (rise (digest_of D) (lowest_first (sides / 2) l)) (level_is b s x hl.0 hx)

  fold_forms_in : (F : List Str) (x : Dig) (sides : ℕ) (l : List Dig) → length x ≡ 32 → AllWide l
      → Within (fold_forms D x sides l) F → PathIn (digest_of D) F (top_first (lowest_first sides l)) x
  fold_forms_in F x sides [] hx hl i = tt
  fold_forms_in F x sides (s ∷ l) hx hl i =
      let b = eqb (sides % 2) 1 in
      let forms = up_forms D x s (sides % 2) in
      let p = top_first (lowest_first (sides / 2) l) in
      let rest = fold_forms_in F (up D x s (sides % 2)) (sides / 2) l (level_32 b s x hl.0 hx) hl.1
      (λ t m. i t (Memᴰ.append_right forms m)) in
      path_append (digest_of D) F p (sibling (sides % 2) s ∷ []) x
      (subst (PathIn (digest_of D) F p) (level_is b s x hl.0 hx) rest)
      (level_in F b s x hl.0 hx (λ t m. i t (Memᴰ.append_left _ m)))

  -- ── 01 path ──

  pub path : (F : List Str) (x x' : Dig) (sides : ℕ) (l : List Dig) → length x ≡ 32 → length x' ≡ 32 → AllWide l
      → Within (fold_forms D x sides l) F → Within (fold_forms D x' sides l) F
      → MeansU1 (digest_of D) F x (fold_up D x sides l) x' (fold_up D x' sides l)
  path F x x' sides l hx hx' hl i i' =
      let p = lowest_first sides l in
      record {
        path = top_first p;
        up = rise_fold (digest_of D) p x ∙ sym (fold_up_is x sides l hx hl);
        up' = rise_fold (digest_of D) p x' ∙ sym (fold_up_is x' sides l hx' hl);
        on = fold_forms_in F x sides l hx hl i;
        on' = fold_forms_in F x' sides l hx' hl i';
      }
