-- What the memoranda mean, and that a tree stands for a list, stays so when more strings are formed; and one memorandum has one
-- meaning, or a fault can be shown.
use mathlib.Core.Path.{◌≡◌, refl}
use mathlib.Core.List.Memᴰ
use mathlib.Core.List.{List}
use mathlib.Core.Logic.{◌⊎◌, inr}
use Prim.Native.Nat.{ℕ}
use Rattle.paper.specs.declared.Record.{Record}
use Rattle.paper.specs.Strings.{Dig, Memo, u1, v1, u2, ei, Str, digest_of, memorandum, memorandum_forms}
use Rattle.rings.specs.Trees.{Tree}
use Rattle.rings.specs.Lists.{ListItem}
use Rattle.rings.specs.Changes.{Step}
use Rattle.rings.specs.Meanings.{Within, RecordKnown, StandsFor, MemoMeans, Fault}
use Rattle.rings.proofs.Nodes.{◌>>=◌, same_string, tree_more}
use Rattle.rings.proofs.Align.{path_more, paths_more}
use Rattle.rings.proofs.Items.{all_more}
use Rattle.rings.proofs.Records.{known_more}

module _ (D : Str → Dig) where
  pub stands_more : {F G : List Str} {T : Tree} {ls : List (ListItem Record)} → Within F G → StandsFor D F T ls → StandsFor D G T ls
  stands_more {F} {G} {T} {ls} s g =
      record {
        tree_in = tree_more D T s g.tree_in;
        ascending = g.ascending;
        known = all_more (RecordKnown D F) (RecordKnown D G) ls (λ r k. known_more D r s k) g.known;
        permuted = g.permuted;
      }

  pub means_more : {F G : List Str} (m : Memo) (c : List Step) → Within F G → MemoMeans D F m c → MemoMeans D G m c
  means_more (u1 x y x' y') c s m =
      record {
        path = m.path;
        up = m.up;
        up' = m.up';
        on = path_more D m.path x s m.on;
        on' = path_more D m.path x' s m.on';
      }
  means_more (v1 x y) c s m = record { path = m.path; up = m.up; on = path_more D m.path x s m.on }
  means_more (u2 x1 x2 y x1' x2' y') c s m =
      record {
        p₁ = m.p₁;
        p₂ = m.p₂;
        q = m.q;
        up = m.up;
        up' = m.up';
        on = paths_more D m.p₁ m.p₂ m.q x1 x2 s m.on;
        on' = paths_more D m.p₁ m.p₂ m.q x1' x2' s m.on';
      }
  means_more (ei y y') c s m =
      record {
        forth = λ G t T ls e g. m.forth G (λ z i. t z (s z i)) T ls e g;
        back = λ G t T ls e g. m.back G (λ z i. t z (s z i)) T ls e g;
      }

-- two memoranda that are equal as bytes say the same with the same secret, or among their strings a fault can be shown
pub same_memorandum : (D : List ℕ → Dig) {F : List Str} (t u : Memo) (k l : Dig) → Within (memorandum_forms D t k) F
    → Within (memorandum_forms D u l) F → memorandum D t k ≡ memorandum D u l → Fault (digest_of D) F ⊎ ((t ≡ u) × (k ≡ l))
same_memorandum D t u k l i j e = do
  p ← same_string (digest_of D) (i _ (Memᴰ.head refl)) (j _ (Memᴰ.head refl)) e
  inr (cc, cc)
