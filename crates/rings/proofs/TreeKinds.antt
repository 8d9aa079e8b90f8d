-- What kinds 02 to 05 do to the meanings of memoranda: witness, join, pair and raise put paths together.
use mathlib.Core.List.{List, [], ◌++◌}
use Rattle.paper.specs.Strings.{Dig, Str}
use Rattle.rings.specs.Meanings.{above, NodeIn, fold, MeansU1, MeansV1, MeansU2}
use Rattle.rings.proofs.Align.{fold_append, path_append}

module _ (D : Str → Dig) where
  pub witness : {F : List Str} {x y : Dig} → MeansU1 D F x y x y → MeansV1 D F x y
  witness u = record { path = u.path; up = u.up; on = u.on }

  pub join : {F : List Str} {x y z x' y' z' : Dig} → MeansU1 D F x y x' y' → MeansU1 D F y z y' z' → MeansU1 D F x z x' z'
  join {F} {x} {y} {z} {x'} {y'} {z'} u v =
      record {
        path = v.path ++ u.path;
        up = cc (fold_append D v.path u.path x, u.up, v.up);
        up' = cc (fold_append D v.path u.path x', u.up', v.up');
        on = path_append D F v.path u.path x (rw u.up v.on) u.on;
        on' = path_append D F v.path u.path x' (rw u.up' v.on') u.on';
      }

  pub pair : {F : List Str} {x₁ y x₁' y' x₂ z x₂' z' : Dig} → MeansU1 D F x₁ y x₁' y' → MeansU1 D F x₂ z x₂' z'
      → NodeIn D F y z → NodeIn D F y' z' → MeansU2 D F x₁ x₂ (above D y z) x₁' x₂' (above D y' z')
  pair u v i j =
      record {
        p₁ = u.path;
        p₂ = v.path;
        q = [];
        up = cc (u.up, v.up);
        up' = cc (u.up', v.up');
        on = (u.on, v.on, rw (u.up, v.up) i, tt);
        on' = (u.on', v.on', rw (u.up', v.up') j, tt);
      }

  pub raise : {F : List Str} {x₁ x₂ y x₁' x₂' y' z z' : Dig} → MeansU2 D F x₁ x₂ y x₁' x₂' y' → MeansU1 D F y z y' z'
      → MeansU2 D F x₁ x₂ z x₁' x₂' z'
  raise {F} {x₁} {x₂} {y} {x₁'} {x₂'} {y'} {z} {z'} u v =
      let a = above D (fold D u.p₁ x₁) (fold D u.p₂ x₂) in
      let a' = above D (fold D u.p₁ x₁') (fold D u.p₂ x₂') in
      record {
        p₁ = u.p₁;
        p₂ = u.p₂;
        q = v.path ++ u.q;
        up = cc (fold_append D v.path u.q a, u.up, v.up);
        up' = cc (fold_append D v.path u.q a', u.up', v.up');
        on =
            (u.on.0, u.on.1, u.on.2, path_append D F v.path u.q a (rw u.up v.on) u.on.3);
        on' =
            (u.on'.0, u.on'.1, u.on'.2, path_append D F v.path u.q a' (rw u.up' v.on') u.on'.3);
      }
