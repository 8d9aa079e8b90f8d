-- A slot that is there, and one that is not.
use mathlib.Core.Path.{◌≡◌}
use mathlib.Core.List.{List}
use Prim.Native.Nat.{ℕ, ◌+◌, ◌-◌, ◌<◌, ◌≤◌}
use borrow.Author.Tests.{lt-ltb, le-ltb}
use Rattle.paper.specs.Strings.{Dig}
use Rattle.slots.specs.Nodes.{slot_count, level_count, meeting, node_at}
use Rattle.edits.specs.declared.Change.{Change}
use Rattle.edits.specs.Changes.{at_one, no_place, still_place, risen_at, one_place, forked_at, two_places}

module _ (m : List ℕ) (i : ℕ) where
  pub still_none : slot_count ≤ i → no_place i ≡ still_place m i
  unfolding still_place
  still_none h = rw (le-ltb i 1024 h)

  pub still_is : i < slot_count
      → at_one i (record { was = node_at m (slot_count + i); becomes = node_at m (slot_count + i) })
      (record { was = node_at m 1; becomes = node_at m 1 })
      ≡ still_place m i
  unfolding still_place
  still_is h = rw (lt-ltb i 1024 h)

module _ (D : List ℕ → Dig) (m : List ℕ) (i : ℕ) where
  pub one_none : (x : Dig) → slot_count ≤ i → no_place i ≡ one_place D m i x
  unfolding one_place
  one_none x h = rw (le-ltb i 1024 h)

  pub one_is : (x : Dig) → i < slot_count
      → at_one i (risen_at D m (slot_count + i) 0 x) (risen_at D m (slot_count + i) level_count x) ≡ one_place D m i x
  unfolding one_place
  one_is x h = rw (lt-ltb i 1024 h)

  pub two_none_left : (j : ℕ) (x w : Dig) → slot_count ≤ i → no_place i ≡ two_places D m i j x w
  unfolding two_places
  two_none_left j x w h = rw (le-ltb i 1024 h)

  pub two_none_right : (j : ℕ) (x w : Dig) → i < slot_count → slot_count ≤ j → no_place i ≡ two_places D m i j x w
  unfolding two_places
  two_none_right j x w h n = rw (lt-ltb i 1024 h, le-ltb j 1024 n)

  -- both there
  abbrev pub both_there : (j : ℕ) (x w : Dig) → Change
  both_there j x w =
      let u = slot_count + i in
      let v = slot_count + j in
      let k = meeting (level_count - 1) u v in
      let f = forked_at D m u v k x w in
      record {
        left = i;
        right = j;
        levels = k;
        a = risen_at D m u 0 x;
        b = risen_at D m v 0 w;
        y = f.y;
        z = f.z;
        node = f.node;
        root = f.root;
      }

  pub two_is : (j : ℕ) (x w : Dig) → i < slot_count → j < slot_count → both_there j x w ≡ two_places D m i j x w
  unfolding two_places
  two_is j x w h n = rw (lt-ltb i 1024 h, lt-ltb j 1024 n)
