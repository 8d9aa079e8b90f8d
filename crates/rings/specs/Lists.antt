-- The list that a root stands for, the ring of its items (§3.5.2), and the changes of the list (7.2). All of it for
-- records of any type R, whose hash is h.
use mathlib.Core.List.{List, [], ◌∷◌, Memᴰ}
use Rattle.std.specs.Prelude.{◌≢◌, ℕ, ◌<◌, eqb, ltb}
use Rattle.seqs.specs.Choose.{pick}
use Rattle.paper.specs.Strings.{Dig}
use Rattle.rings.specs.Trees.{TreeLeaf, points}

-- an item of the list: its number and its record, which may be the empty one
pub data ListItem (R : Type 0) : Type 0 where
  item_with : (A : ℕ) (r : R) → ListItem R

module _ {R : Type 0} where
  -- §8.3.1, different numbers, ascending: each is above the one before, the first above b
  abbrev pub AscendingFrom : (b : ℕ) → List (ListItem R) → Type 0
  AscendingFrom b [] = Unit {0}
  AscendingFrom b (item_with a r ∷ l) = (b < a) × AscendingFrom a l

  -- item A is listed, with the record r; A is not listed
  abbrev pub OnList : (A : ℕ) → R → List (ListItem R) → Type 0
  OnList A r l = Memᴰ (item_with A r) l

  abbrev pub Unlisted : (A : ℕ) → List (ListItem R) → Type 0
  Unlisted A [] = Unit {0}
  Unlisted A (item_with a r ∷ l) = (A ≢ a) × Unlisted A l

  -- ── changes ──

  -- an item more, before the first of a greater number. Of a listed number it would make a second one: that no run comes to that
  -- before it ends is `LegalEffect` of `runs`
  unfoldable pub insert : (A : ℕ) → R → List (ListItem R) → List (ListItem R)
  insert A r [] = item_with A r ∷ []
  insert A r (item_with a s ∷ l) = pick (ltb A a) (item_with A r ∷ item_with a s ∷ l) (item_with a s ∷ insert A r l)

  -- item A taken out
  unfoldable pub remove : (A : ℕ) → List (ListItem R) → List (ListItem R)
  remove A [] = []
  remove A (item_with a s ∷ l) = pick (eqb A a) l (item_with a s ∷ remove A l)

  -- another record for item A (§7.2.7)
  unfoldable pub put_record : (A : ℕ) → R → List (ListItem R) → List (ListItem R)
  put_record A r [] = []
  put_record A r (item_with a s ∷ l) = pick (eqb A a) (item_with a r ∷ l) (item_with a s ∷ put_record A r l)

  -- ── the ring ──

  -- the leaf of item a with record r, and those of the items after it; the last leads to z
  abbrev pub chain_of : (h : R → Dig) (a : ℕ) (r : R) → List (ListItem R) → (z : ℕ) → List TreeLeaf
  chain_of h a r [] z = points a z (h r) ∷ []
  chain_of h a r (item_with b s ∷ l) z = points a b (h r) ∷ chain_of h b s l z

  -- (a1, a2, h r1), (a2, a3, h r2), .., (an, a1, h rn): every leaf leads to the next number, the last to the first
  abbrev pub ring : (h : R → Dig) → List (ListItem R) → List TreeLeaf
  ring h [] = []
  ring h (item_with a r ∷ l) = chain_of h a r l a
