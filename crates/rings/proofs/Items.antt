-- Laws of the list: inserting, removing and putting a record keep it ascending and keep what holds of every record; a
-- number is listed or it is not; ascending lists with the same items are the same.
use mathlib.Core.Bool.{Bool, true, false}
use mathlib.Core.Path.{◌≡◌, refl, sym, subst}
use mathlib.Core.List.Memᴰ
use mathlib.Core.List.{List, [], ◌∷◌}
use mathlib.Core.Logic.{◌⊎◌, inl, inr}
use Prim.Native.Nat.{ℕ, ◌≤◌, ◌<◌}
use native.Mathlib.Decide.{ℕ_discrete}
use native.Mathlib.Omega.{arith}
use borrow.Author.Tests.{ltb-true, ltb-false, eq-eqb}
use lib.Dec.{eqb, ltb}
use Rattle.seqs.specs.Choose.{pick}
use Rattle.rings.specs.Lists.{ListItem, item_with, AscendingFrom, OnList, Unlisted, insert, remove, put_record}
use Rattle.rings.specs.Meanings.{AllRecords}

module _ {R : Type 0} where
  pub record_at : (P : R → Type 0) (l : List (ListItem R)) (a : ℕ) (r : R) → AllRecords P l → OnList a r l → P r
  record_at P (item_with b s ∷ l) a r g (Memᴰ.head e) = let p : s ≡ r = cc in subst P p g.0
  record_at P (item_with b s ∷ l) a r g (Memᴰ.tail m) = record_at P l a r g.1 m
  record_at P [] a r g x'' = elim x'' [ ]

  pub all_more : (P Q : R → Type 0) (l : List (ListItem R)) → ((r : R) → P r → Q r) → AllRecords P l → AllRecords Q l
  all_more P Q [] f g = tt
  all_more P Q (item_with a r ∷ l) f g = (f r g.0, all_more P Q l f g.1)

  -- ── above a number ──

  ascending_from : {b c : ℕ} (l : List (ListItem R)) → c ≤ b → AscendingFrom b l → AscendingFrom c l
  ascending_from [] h g = tt
  ascending_from (item_with a r ∷ l) h g = (omega arith, g.1)

  pub unlisted_below : (b q : ℕ) (l : List (ListItem R)) → q ≤ b → AscendingFrom b l → Unlisted q l
  unlisted_below b q [] h g = tt
  unlisted_below b q (item_with a r ∷ l) h g = (omega arith, unlisted_below a q l (omega arith) g.1)

  pub listed_above : (b q : ℕ) (r : R) (l : List (ListItem R)) → AscendingFrom b l → OnList q r l → b < q
  listed_above b q r [] g m = elim m [ ]
  listed_above b q r (item_with a s ∷ l) g m =
      elim (Memᴰ.cases_cons m) [
        | inl e ↦ (let p : q ≡ a = cc in omega (arith, g.0))
        | inr k ↦ omega (arith, g.0, listed_above a q r l g.1 k)
      ]

  -- a number is listed or it is not
  pub listed? : (q : ℕ) (l : List (ListItem R)) → Unlisted q l ⊎ ((r : R) × OnList q r l)
  listed? q [] = inl tt
  listed? q (item_with a r ∷ l) =
      elim (ℕ_discrete q a) [
        | yes e ↦ inr (r, Memᴰ.head {x = item_with a r} (cc))
        | no n ↦ elim (listed? q l) [ inl f ↦ inl (n, f) | inr t ↦ inr (t.0, Memᴰ.tail t.1) ]
      ]

  -- ── insert ──

  pub insert_ascending : (b q : ℕ) (r : R) (l : List (ListItem R)) → b < q → Unlisted q l → AscendingFrom b l
      → AscendingFrom b (insert q r l)
  unfolding insert
  insert_ascending b q r [] h f g = (h, tt)
  insert_ascending b q r (item_with a s ∷ l) h f g = go (ltb q a) refl (λ k. insert_ascending a q r l k f.1 g.1)
    where
      go : (t : Bool) → ltb q a ≡ t → (a < q → AscendingFrom a (insert q r l))
          → AscendingFrom b (pick t (item_with q r ∷ item_with a s ∷ l) (item_with a s ∷ insert q r l))
      go true e u = (h, (ltb-true q a e, g.1))
      go false e u = (g.0, u (omega (arith, ltb-false q a e, f.0)))

  pub insert_all : (P : R → Type 0) (q : ℕ) (r : R) (l : List (ListItem R)) → P r → AllRecords P l → AllRecords P (insert q r l)
  unfolding insert
  insert_all P q r [] p g = (p, tt)
  insert_all P q r (item_with a s ∷ l) p g = go (ltb q a) (insert_all P q r l p g.1)
    where
      go : (t : Bool) → AllRecords P (insert q r l) → AllRecords P (pick t (item_with q r ∷ item_with a s ∷ l) (item_with a s ∷ insert q r l))
      go true u = (p, (g.0, g.1))
      go false u = (g.0, u)

  -- ── remove ──

  pub remove_head : (a : ℕ) (r : R) (l : List (ListItem R)) → remove a (item_with a r ∷ l) ≡ l
  unfolding remove
  remove_head a r l = rw (eq-eqb a a refl) refl

  pub remove_ascending : (b q : ℕ) (l : List (ListItem R)) → AscendingFrom b l → AscendingFrom b (remove q l)
  unfolding remove
  remove_ascending b q [] g = tt
  remove_ascending b q (item_with a s ∷ l) g = go (eqb q a) (remove_ascending a q l g.1)
    where
      go : (t : Bool) → AscendingFrom a (remove q l) → AscendingFrom b (pick t l (item_with a s ∷ remove q l))
      go true u = ascending_from l (omega (arith, g.0)) g.1
      go false u = (g.0, u)

  pub remove_all : (P : R → Type 0) (q : ℕ) (l : List (ListItem R)) → AllRecords P l → AllRecords P (remove q l)
  unfolding remove
  remove_all P q [] g = tt
  remove_all P q (item_with a s ∷ l) g = go (eqb q a) (remove_all P q l g.1)
    where
      go : (t : Bool) → AllRecords P (remove q l) → AllRecords P (pick t l (item_with a s ∷ remove q l))
      go true u = g.1
      go false u = (g.0, u)

  -- ── put a record ──

  pub put_ascending : (b q : ℕ) (r : R) (l : List (ListItem R)) → AscendingFrom b l → AscendingFrom b (put_record q r l)
  unfolding put_record
  put_ascending b q r [] g = tt
  put_ascending b q r (item_with a s ∷ l) g = go (eqb q a) (put_ascending a q r l g.1)
    where
      go : (t : Bool) → AscendingFrom a (put_record q r l) → AscendingFrom b (pick t (item_with a r ∷ l) (item_with a s ∷ put_record q r l))
      go true u = (g.0, g.1)
      go false u = (g.0, u)

  pub put_all : (P : R → Type 0) (q : ℕ) (r : R) (l : List (ListItem R)) → P r → AllRecords P l → AllRecords P (put_record q r l)
  unfolding put_record
  put_all P q r [] p g = tt
  put_all P q r (item_with a s ∷ l) p g = go (eqb q a) (put_all P q r l p g.1)
    where
      go : (t : Bool) → AllRecords P (put_record q r l) → AllRecords P (pick t (item_with a r ∷ l) (item_with a s ∷ put_record q r l))
      go true u = (p, g.1)
      go false u = (g.0, u)

  -- ── ascending lists with the same items are the same ──

  abbrev pub Into : List (ListItem R) → List (ListItem R) → Type 0
  Into l m = (a : ℕ) (r : R) → OnList a r l → OnList a r m

  -- an item above d is not the one of number d
  past_head : (d : ℕ) (z : R) (m : List (ListItem R)) (q : ℕ) (t : R) → d < q → OnList q t (item_with d z ∷ m) → OnList q t m
  past_head d z m q t h i =
      elim (Memᴰ.cases_cons i) [ inl p ↦ (let w : q ≡ d = cc in absurd (omega arith)) | inr j ↦ j ]

  pub same_items : (b : ℕ) (l m : List (ListItem R)) → AscendingFrom b l → AscendingFrom b m → Into l m → Into m l → l ≡ m
  same_items b [] [] g k f h = refl
  same_items b [] (item_with a r ∷ m) g k f h = elim (h a r (Memᴰ.head refl)) [ ]
  same_items b (item_with a r ∷ l) [] g k f h = elim (f a r (Memᴰ.head refl)) [ ]
  same_items b (item_with a r ∷ l) (item_with c s ∷ m) g k f h =
      go (Memᴰ.cases_cons (f a r (Memᴰ.head refl))) (Memᴰ.cases_cons (h c s (Memᴰ.head refl)))
      (λ e u v. same_items a l m g.1 (subst (λ (n : ℕ). AscendingFrom n m) (sym e) k.1) u v)
    where
      go : (item_with a r ≡ item_with c s) ⊎ OnList a r m → (item_with c s ≡ item_with a r) ⊎ OnList c s l
          → (a ≡ c → Into l m → Into m l → l ≡ m) → ◌≡◌ {A = List (ListItem R)} (item_with a r ∷ l) (item_with c s ∷ m)
      go (inl e) j tails =
          let p : a ≡ c = cc in
          let t = tails p
          (λ q t i. past_head c s m q t (omega (arith, listed_above a q t l g.1 i)) (f q t (Memᴰ.tail i)))
          (λ q t i. past_head a r l q t (omega (arith, listed_above c q t m k.1 i)) (h q t (Memᴰ.tail i))) in
          cc
      go (inr i) (inl e) tails = let p : a ≡ c = cc in absurd (omega (arith, listed_above c a r m k.1 i))
      go (inr i) (inr j) tails = absurd (omega (arith, listed_above c a r m k.1 i, listed_above a c s l g.1 j))
