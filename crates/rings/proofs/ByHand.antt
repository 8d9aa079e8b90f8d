-- The definitions on short lists, to be compared by eye: a ring of three leads back to its first number, an item is inserted
-- at its place, removed, or given another record, and the hash of a small tree is H of its leaves' digests.
use mathlib.Core.Path.{◌≡◌, refl}
use mathlib.Core.List.{List, [], ◌∷◌}
use Prim.Native.Nat.{ℕ}
use Rattle.paper.specs.Strings.{Dig, nought, leaf, digest_of, H}
use Rattle.rings.specs.Trees.{points, empty, tip, branch, leaves, hash_of}
use Rattle.rings.specs.Lists.{ListItem, item_with, insert, remove, put_record, ring}

module _ {R : Type 0} (h : R → Dig) (r s t : R) where
  abbrev two : List (ListItem R)
  two = item_with 432 r ∷ item_with 796 t ∷ []

  abbrev three : List (ListItem R)
  three = item_with 432 r ∷ item_with 562 s ∷ item_with 796 t ∷ []

  pub ring_of_three : ring h three ≡ points 432 562 (h r) ∷ points 562 796 (h s) ∷ points 796 432 (h t) ∷ []
  ring_of_three = refl

  pub ring_of_one : ring h (item_with 241 r ∷ []) ≡ points 241 241 (h r) ∷ []
  ring_of_one = refl

  pub inserted_between : insert 562 s two ≡ three
  unfolding insert
  inserted_between = refl

  pub inserted_last : insert 796 t (item_with 432 r ∷ item_with 562 s ∷ []) ≡ three
  unfolding insert
  inserted_last = refl

  pub removed : remove 562 three ≡ two
  unfolding remove
  removed = refl

  pub given_another : put_record 562 t three ≡ item_with 432 r ∷ item_with 562 t ∷ item_with 796 t ∷ []
  unfolding put_record
  given_another = refl

module _ (D : List ℕ → Dig) (ω ω' : Dig) where
  pub leaves_of_two : leaves (branch (tip (points 432 562 ω)) (tip (points 562 432 ω')))
      ≡ points 432 562 ω ∷ points 562 432 ω' ∷ []
  leaves_of_two = refl

  pub hash_of_two : hash_of D (branch (tip (points 432 562 ω)) (tip (points 562 432 ω')))
      ≡ H D (digest_of D (leaf 432 562 ω)) (digest_of D (leaf 562 432 ω'))
  hash_of_two = refl

  pub hash_of_none : hash_of D empty ≡ nought
  hash_of_none = refl
