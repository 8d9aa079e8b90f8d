-- U1 up a way of any length, by paths and joins, and U2 up a fork, by pair and raise: the lines of `specs/Honest` are honest
-- and get those memoranda.
use mathlib.Core.Path.{◌≡◌, refl, sym, ap, ◌∙◌}
use mathlib.Core.Bool.{true, false}
use mathlib.Core.List.{List, [], ◌∷◌, ◌++◌}
use Prim.Native.Nat.{ℕ, ◌≤◌}
use native.Mathlib.Omega.{arith}
use lib.ListN.{length}
use Rattle.seqs.specs.Choose.{opposite, ◌and◌}
use Rattle.paper.specs.declared.Registers.{Registers}
use Rattle.paper.specs.Strings.{Dig, Memo, u1, v1, Str, parent_forms, fold_up, fold_forms}
use Rattle.paper.specs.Requests as Q
use Rattle.paper.specs.Requests.{most_siblings}
use Rattle.paper.specs.Refusals.{none_fits}
use Rattle.paper.specs.Answers as Does
use Rattle.paper.proofs.Memoranda.{of_digests}
use Rattle.runs.specs.Run.{Issue, is_issued, World}
use Rattle.runs.specs.Ways.{Way, sides_of, siblings_of, rise, in_paths, Fork, Edit, risen, parents, risen_two}
use Rattle.runs.specs.Honest.{say_u1, say_u2, note, path_up, join_up, further, one_place, pair_up, raise_up, two_places}
use Rattle.runs.proofs.Parts.{IsDigest}
use Rattle.runs.proofs.Climbs.{siblings_length, sides_fit, fold_rises, rise_append, whole, AllShort, cut_whole, cut_short, IsEdit, siblings_digests, risen_is, parents_are}
use Rattle.runs.proofs.Fed.{at, note_fits, Got, says_also, then, say}

-- an open module, for a digest of 32 bytes
pub record Ready (D : List ℕ → Dig) (w : World) : Type 0 where
  pub digests : (l : List ℕ) → IsDigest (D l)
  pub opened : w.registers.opened ≡ true

module _ {D : List ℕ → Dig} {w : World} (r : Ready D w) where
  abbrev s : Registers
  s = w.registers

  abbrev DD : (l : List ℕ) → IsDigest (D l)
  DD = r.digests

  pub is_open_lem : opposite s.opened ≡ false
  is_open_lem = rw r.opened refl

  pub note_digest : (t : Memo) → IsDigest (note D s t)
  note_digest t = of_digests D IsDigest DD t s.secret

  -- the memorandum that says t fits where t is asked for
  pub fits_own : (t : Memo) → none_fits D s.secret (t ∷ []) (note D s t) ≡ false
  fits_own t = note_fits D s.secret t []

  -- ── one line of each kind, in w with more strings and memoranda ──

  module _ (F : List Str) (b : List Issue) where
    path_line : (p : Way) (x : Edit) → length p ≤ most_siblings → IsEdit x → Got D (at w F b) (path_up D s p x ∷ []) (say_u1 x (risen D p x))
    path_line p x n h =
        let l = siblings_of D p in
        let v = x.was in
        let v' = x.becomes in
        let up = fold_rises D p v in
        let up' = fold_rises D p v' in
        says_also D (λ i. u1 v (up i) v' (up' i))
        (say D (at w F b) (path_up D s p x) (fold_up D v (sides_of p) l ++ fold_up D v' (sides_of p) l)
        (fold_forms D v' (sides_of p) l ++ fold_forms D v (sides_of p) l)
        (u1 v (fold_up D v (sides_of p) l) v' (fold_up D v' (sides_of p) l))
        Does.nothing ((h.old, (h.new, tt)), siblings_digests DD p, omega (arith, siblings_length D p), sides_fit D p)
        (is_open_lem, tt) tt refl)

    join_line : (x y z : Edit) → IsEdit x → IsEdit y → IsEdit z → is_issued (note D s (say_u1 x y)) b ≡ true
        → is_issued (note D s (say_u1 y z)) b ≡ true → Got D (at w F b) (join_up D s x y z ∷ []) (say_u1 x z)
    join_line x y z hx hy hz i j =
        let t = say_u1 x y in
        let u = say_u1 y z in
        say D (at w F b) (join_up D s x y z) [] [] (say_u1 x z) Does.nothing
        (hx.old and hy.old and hx.new and hy.new and note_digest t and hz.old and hz.new and note_digest u and tt)
        (is_open_lem and fits_own t and fits_own u and tt) (i and j and tt) refl

    pub witness_line : (x y : Dig) → IsDigest x → IsDigest y → is_issued (note D s (u1 x y x y)) b ≡ true
        → Got D (at w F b) (Q.witness x y (note D s (u1 x y x y)) ∷ []) (v1 x y)
    witness_line x y hx hy i =
        let t = u1 x y x y in
        say D (at w F b) (Q.witness x y (note D s t)) [] [] (v1 x y) Does.nothing (hx and hy and note_digest t and tt)
        (is_open_lem and fits_own t and tt) (i and tt) refl

    pair_line : (a y c z : Edit) → IsEdit a → IsEdit y → IsEdit c → IsEdit z → is_issued (note D s (say_u1 a y)) b ≡ true
        → is_issued (note D s (say_u1 c z)) b ≡ true → Got D (at w F b) (pair_up D s a y c z ∷ []) (say_u2 a c (parents D y z))
    pair_line a y c z ha hy hc hz i j =
        let t = say_u1 a y in
        let u = say_u1 c z in
        say D (at w F b) (pair_up D s a y c z) [] (parent_forms y.becomes z.becomes ++ parent_forms y.was z.was)
        (say_u2 a c (parents D y z)) Does.nothing
        (ha.old and hy.old and ha.new and hy.new and note_digest t and hc.old and hz.old and hc.new and hz.new
        and note_digest u and tt)
        (is_open_lem and fits_own t and fits_own u and tt) (i and j and tt) refl

    raise_line : (a c y z : Edit) → IsEdit a → IsEdit c → IsEdit y → IsEdit z → is_issued (note D s (say_u2 a c y)) b ≡ true
        → is_issued (note D s (say_u1 y z)) b ≡ true → Got D (at w F b) (raise_up D s a c y z ∷ []) (say_u2 a c z)
    raise_line a c y z ha hc hy hz i j =
        let t = say_u2 a c y in
        let u = say_u1 y z in
        say D (at w F b) (raise_up D s a c y z) [] [] (say_u2 a c z) Does.nothing
        (ha.old and hc.old and hy.old and ha.new and hc.new and hy.new and note_digest t and hz.old and hz.new
        and note_digest u and tt)
        (is_open_lem and fits_own t and fits_own u and tt) (i and j and tt) refl

  -- ── up a way ──

  got_already : (F : List Str) (b : List Issue) (t : Memo) → is_issued (note D s t) b ≡ true → Got D (at w F b) [] t
  got_already F b t i = record { formed = F; book = b; leads = record { to = refl; fair = tt }; keeps = λ m j. j; got = i }

  further_up : (ps : List Way) (x y : Edit) (F : List Str) (b : List Issue) → AllShort ps → IsEdit x → IsEdit y
      → is_issued (note D s (say_u1 x y)) b ≡ true → Got D (at w F b) (further D s x y ps) (say_u1 x (risen D (whole ps) y))
  further_up [] x y F b n hx hy i = got_already F b (say_u1 x y) i
  further_up (p ∷ ps) x y F b n hx hy i =
      let z = risen D p y in
      let hz = risen_is DD p y hy in
      let g = path_line F b p y n.0 hy in
      let h = join_line g.formed g.book x y z hx hy hz (g.keeps _ i) g.got in
      let k = further_up ps x z h.formed h.book n.1 hx hz h.got in
      let up = sym (rise_append D p (whole ps) y.was) in
      let up' = sym (rise_append D p (whole ps) y.becomes) in
      says_also D (λ i. u1 x.was (up i) x.becomes (up' i)) (then D g (then D h k))

  pub one_place_lem : (F : List Str) (b : List Issue) (p : Way) (x : Edit) → IsEdit x
      → Got D (at w F b) (one_place D s p x) (say_u1 x (risen D p x))
  one_place_lem F b p x h =
      let c = in_paths most_siblings p in
      let short = cut_short most_siblings p (omega arith) in
      let y = risen D c.lowest x in
      let g = path_line F b c.lowest x short.0 h in
      let k = further_up c.higher x y g.formed g.book short.1 h (risen_is DD c.lowest x h) g.got in
      let up = sym (rise_append D c.lowest (whole c.higher) x.was)
      ∙ ap (λ (q : Way). rise D q x.was) (cut_whole most_siblings p) in
      let up' = sym (rise_append D c.lowest (whole c.higher) x.becomes)
      ∙ ap (λ (q : Way). rise D q x.becomes) (cut_whole most_siblings p) in
      says_also D (λ i. u1 x.was (up i) x.becomes (up' i)) (then D g k)

  -- ── up a fork ──

  pub two_places_lem : (F : List Str) (b : List Issue) (f : Fork) (a c : Edit) → IsEdit a → IsEdit c
      → Got D (at w F b) (two_places D s f a c) (say_u2 a c (risen_two D f a c))
  two_places_lem F b f a c ha hc =
      let y = risen D f.left a in
      let z = risen D f.right c in
      let n = parents D y z in
      let hy = risen_is DD f.left a ha in
      let hz = risen_is DD f.right c hc in
      let hn = parents_are DD y z hy hz in
      let g = one_place_lem F b f.left a ha in
      let h = one_place_lem g.formed g.book f.right c hc in
      let k = pair_line h.formed h.book a y c z ha hy hc hz (h.keeps _ g.got) h.got in
      let l = one_place_lem k.formed k.book f.above n hn in
      let m = raise_line l.formed l.book a c n (risen D f.above n) ha hc hn (risen_is DD f.above n hn)
      (l.keeps _ k.got) l.got in
      then D g (then D h (then D k (then D l m)))
