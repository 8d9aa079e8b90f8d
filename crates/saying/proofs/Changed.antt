-- Insert, exchange and removal of the last leaf: all lines of each are the honest ones over slots.
use mathlib.Core.Path.{◌≡◌, refl, sym, ap, ap₂, subst, ◌∙◌}
use mathlib.Core.Bool.{Bool, true, false}
use mathlib.Core.List.{List, [], ◌∷◌, ◌++◌, append_assoc}
use Prim.Native.Nat.{ℕ, suc, ◌+◌, ◌<◌}
use native.Mathlib.Omega.{arith}
use Rattle.seqs.specs.Choose.{pick}
use Rattle.paper.specs.declared.Registers.{Registers}
use Rattle.paper.specs.Strings.{Dig, nought}
use Rattle.paper.specs.Requests.{Request, place, turn, adopt, swap}
use Rattle.rings.specs.Trees.{Tree}
use Rattle.runs.specs.Ways as W
use Rattle.runs.specs.Ways.{Fork, risen, parents, risen_two}
use Rattle.runs.specs.Honest.{say_u1, say_u2, say_ei, turned_round, note, turn_round, take_over, relinked, gone, without, placed, two_places}
use Rattle.slots.specs.Nodes.{meeting}
use Rattle.groves.specs.Grove.{fork_at, Kept}
use Rattle.edits.specs.declared.Change.{Change}
use Rattle.edits.specs.Changes as E
use Rattle.edits.proofs.Places.{two_is}
use Rattle.plans.specs.declared.Plan.{Plan}
use Rattle.plans.specs.declared.Script.{Script}
use Rattle.asking.specs.declared.Talk.{Talk}
use Rattle.asking.specs.declared.Part.TheVariants.{SwapThem, PlaceIt, TurnIt, AdoptIt}
use Rattle.asking.specs.Parts.{part_at}
use Rattle.asking.specs.Saying.{start_of, turns_round, turned_edit, sent_change, request_as, request_at}
use Rattle.rising.specs.Rising.{as_edit}
use Rattle.rising.proofs.Rising.{TwoRisen, two_risen}
use Rattle.saying.specs.Spoken.{spoken}
use Rattle.saying.proofs.Forked.{Forks, SentUp, one_line, spoken_five, root_is}

-- ── what rises, turned round or not ──

sent_by : (b : Bool) → W.Edit → W.Edit
sent_by b e = pick b (turned_round e) e

module _ (D : List ℕ → Dig) (F : ℕ → Tree) (m : List ℕ) (k : Kept D F m) (i j : ℕ) (x w : Dig) (less : i < j) (room : j < 1024) where
  abbrev change : Change
  change = E.two_places D m i j x w

  pub sent_up : (σ : Script) → SentUp D F i j (sent_change σ (E.two_places D m i j x w))
  sent_up σ = by_way (turns_round σ)
    where
      there : Change → Change
      there c = c

      r : TwoRisen D F m k i j x w (E.two_places D m i j x w)
      r = two_risen D F m k i j x w less room

      is : (E.two_places D m i j x w).left ≡ i
      is = ap (λ (c : Change). c.left) (sym (two_is D m i j x w (omega arith) room))

      is_right : (E.two_places D m i j x w).right ≡ j
      is_right = ap (λ (c : Change). c.right) (sym (two_is D m i j x w (omega arith) room))

      is_levels : (E.two_places D m i j x w).levels ≡ meeting 9 (1024 + i) (1024 + j)
      is_levels = ap (λ (c : Change). c.levels) (sym (two_is D m i j x w (omega arith) room))

      by_way : (b : Bool)
          → SentUp D F i j (record {
            left = (E.two_places D m i j x w).left;
            right = (E.two_places D m i j x w).right;
            levels = (E.two_places D m i j x w).levels;
            a = pick b (turned_edit (E.two_places D m i j x w).a) (E.two_places D m i j x w).a;
            b = pick b (turned_edit (E.two_places D m i j x w).b) (E.two_places D m i j x w).b;
            y = pick b (turned_edit (E.two_places D m i j x w).y) (E.two_places D m i j x w).y;
            z = pick b (turned_edit (E.two_places D m i j x w).z) (E.two_places D m i j x w).z;
            node = pick b (turned_edit (E.two_places D m i j x w).node) (E.two_places D m i j x w).node;
            root = pick b (turned_edit (E.two_places D m i j x w).root) (E.two_places D m i j x w).root;
          })
      by_way true =
          record {
            left_is = is;
            right_is = is_right;
            levels_is = is_levels;
            left_half = ap turned_round r.left_half;
            right_half = ap turned_round r.right_half;
            node = ap turned_round r.node;
            root = ap turned_round r.root;
          }
      by_way false =
          record {
            left_is = is;
            right_is = is_right;
            levels_is = is_levels;
            left_half = r.left_half;
            right_half = r.right_half;
            node = r.node;
            root = r.root;
          }

-- ── a plan whose lines have a place ──

-- its sixth line is the place
pub record Places (D : List ℕ → Dig) (s : Registers) (P : Plan) (f : Fork) (B A B' : ℕ) (ω : Dig) : Type 0 where
  pub sixth : part_at P.script 5 ≡ PlaceIt
  pub behind : P.here.item.0 ≡ B
  pub item : P.item.0 ≡ A
  pub next : P.next.0 ≡ B'
  pub hash : P.hash ≡ ω
  pub left : as_edit (sent_change P.script P.change).a ≡ relinked D s B A B' ω
  pub right : as_edit (sent_change P.script P.change).b ≡ gone D s A B'

module _ (D : List ℕ → Dig) (F : ℕ → Tree) (m : List ℕ) (k : Kept D F m) (s : Registers) (i j : ℕ) (less : i < j) (room : j < 1024)
    (P : Plan) (parts : Forks P) (up : SentUp D F i j (sent_change P.script P.change)) (B A B' : ℕ) (ω : Dig)
    (q : Places D s P (fork_at F (1024 + i) (1024 + j)) B A B' ω) where
  abbrev fk : Fork
  fk = fork_at F (1024 + i) (1024 + j)

  abbrev a₀ : W.Edit
  a₀ = relinked D s B A B' ω

  abbrev b₀ : W.Edit
  b₀ = gone D s A B'

  abbrev y₀ : W.Edit
  y₀ = without D s fk B A B' ω

  -- the root as it is sent
  pub sent_root : as_edit (sent_change P.script P.change).root ≡ without D s fk B A B' ω
  sent_root = root_is D F m k s i j less room P parts up ∙ ap₂ (risen_two D fk) q.left q.right

  place_line : (o : Dig) → request_at m (record { plan = P; step = 5; older = o; memo = note D s (say_u2 a₀ b₀ y₀) })
      ≡ place B A B' ω y₀.was y₀.becomes (note D s (say_u2 a₀ b₀ y₀))
  unfolding request_at
  place_line o =
      let d = note D s (say_u2 a₀ b₀ y₀) in
      let t : Talk = record { plan = P; step = 5; older = o; memo = d } in
      ap (request_as m t) q.sixth
      ∙ (λ e.
      let r = sent_root e in
      place (q.behind e) (q.item e) (q.next e) (q.hash e) r.was r.becomes d)

  pub spoken_place : (rest : ℕ)
      → (o : Dig)
      × (spoken D s m (suc (suc (suc (suc (suc (suc rest)))))) (start_of P)
      ≡ placed D s fk B A B' ω
      ++ spoken D s m rest (record { plan = P; step = 6; older = o; memo = note D s (say_ei (without D s fk B A B' ω)) }))
  spoken_place rest =
      let d = note D s (say_u2 a₀ b₀ y₀) in
      let five = spoken_five D F m k s i j less room P parts up (suc rest) in
      let n = note D s in
      let last = place B A B' ω y₀.was y₀.becomes d in
      let behind = spoken D s m rest (record { plan = P; step = 6; older = d; memo = note D s (say_ei y₀) }) in (
        d,
        five
            ∙ (λ e.
            let a = q.left e in
            let b = q.right e in
            let y = risen_two D fk a b in
            let node = parents D (risen D fk.left a) (risen D fk.right b) in
            two_places D s fk a b
            ++ spoken D s m (suc rest) (record { plan = P; step = 5; older = note D s (say_u1 node y); memo = note D s (say_u2 a b y) }))
            ∙ ap (λ (l : List Request). two_places D s fk a₀ b₀ ++ l)
            (one_line D s m rest (record {
              plan = P;
              step = 5;
              older = note D s (say_u1 (parents D (risen D fk.left a₀) (risen D fk.right b₀)) y₀);
              memo = d;
            }) last (note D s (say_ei y₀)) (place_line _) refl)
            ∙ sym (append_assoc (two_places D s fk a₀ b₀) (last ∷ []) behind),
      )

  -- ── adopted at once, or turned round first ──

  -- the place is turned round and adopted
  pub insert_spoken : part_at P.script 6 ≡ TurnIt → part_at P.script 7 ≡ AdoptIt
      → as_edit P.change.root ≡ turned_round (without D s fk B A B' ω)
      → spoken D s m 8 (start_of P)
      ≡ placed D s fk B A B' ω ++ (turn_round D s (without D s fk B A B' ω) ∷ take_over D s (turned_round (without D s fk B A B' ω)) ∷ [])
  unfolding request_at
  insert_spoken seventh eighth root =
      let six = spoken_place 2 in
      let y = without D s fk B A B' ω in
      let d = note D s (say_ei y) in
      let e = note D s (say_ei (turned_round y)) in
      let t6 : Talk = record { plan = P; step = 6; older = six.0; memo = d } in
      let t7 : Talk = record { plan = P; step = 7; older = d; memo = e } in
      six.1
      ∙ ap (λ (l : List Request). placed D s fk B A B' ω ++ l)
      (one_line D s m 1 t6 (turn_round D s y) e
      (ap (request_as m t6) seventh ∙ ap (λ (r : W.Edit). turn r.becomes r.was d) root) refl
      ∙ ap (λ (l : List Request). turn_round D s y ∷ l)
      (one_line D s m 0 t7 (take_over D s (turned_round y)) nought
      (ap (request_as m t7) eighth ∙ ap (λ (r : W.Edit). adopt r.was r.becomes e) root) refl))

  -- the place is adopted as it is
  pub drop_spoken : part_at P.script 6 ≡ AdoptIt → as_edit P.change.root ≡ without D s fk B A B' ω
      → spoken D s m 7 (start_of P) ≡ placed D s fk B A B' ω ++ (take_over D s (without D s fk B A B' ω) ∷ [])
  unfolding request_at
  drop_spoken seventh root =
      let six = spoken_place 1 in
      let y = without D s fk B A B' ω in
      let d = note D s (say_ei y) in
      let t6 : Talk = record { plan = P; step = 6; older = six.0; memo = d } in
      six.1
      ∙ ap (λ (l : List Request). placed D s fk B A B' ω ++ l)
      (one_line D s m 0 t6 (take_over D s y) nought
      (ap (request_as m t6) seventh ∙ ap (λ (r : W.Edit). adopt r.was r.becomes d) root) refl)

-- ── a plan whose lines exchange two leaves ──

module _ (D : List ℕ → Dig) (F : ℕ → Tree) (m : List ℕ) (k : Kept D F m) (s : Registers) (i j : ℕ) (less : i < j) (room : j < 1024)
    (P : Plan) (parts : Forks P) (up : SentUp D F i j (sent_change P.script P.change)) (e : W.Edit)
    (left : as_edit (sent_change P.script P.change).a ≡ e) (right : as_edit (sent_change P.script P.change).b ≡ turned_round e)
    (as-it-is : sent_change P.script P.change ≡ P.change) where
  abbrev fs : Fork
  fs = fork_at F (1024 + i) (1024 + j)

  abbrev ys : W.Edit
  ys = risen_two D fs e (turned_round e)

  pub swap_spoken : part_at P.script 5 ≡ SwapThem → part_at P.script 6 ≡ AdoptIt
      → spoken D s m 7 (start_of P)
      ≡ two_places D s fs e (turned_round e)
      ++ (swap e.was e.becomes ys.was ys.becomes (note D s (say_u2 e (turned_round e) ys)) ∷ take_over D s ys ∷ [])
  unfolding request_at
  swap_spoken sixth seventh =
      let five = spoken_five D F m k s i j less room P parts up 2 in
      let d = note D s (say_u2 e (turned_round e) ys) in
      let node = parents D (risen D fs.left e) (risen D fs.right (turned_round e)) in
      let g = note D s (say_ei ys) in
      let t5 : Talk = record { plan = P; step = 5; older = note D s (say_u1 node ys); memo = d } in
      let t6 : Talk = record { plan = P; step = 6; older = d; memo = g } in
      let sent_is : (c : Change) → sent_change P.script P.change ≡ c → as_edit c.root ≡ ys =
      λ c h. subst (λ (c : Change). as_edit c.root ≡ ys) h (root_is D F m k s i j less room P parts up ∙ ap₂ (risen_two D fs) left right) in
      let root = sent_is P.change as-it-is in
      let a = subst (λ (c : Change). as_edit c.a ≡ e) as-it-is left in
      let b = subst (λ (c : Change). as_edit c.b ≡ turned_round e) as-it-is right in
      five
      ∙ (λ n.
      let a = left n in
      let b = right n in
      let y = risen_two D fs a b in
      let node = parents D (risen D fs.left a) (risen D fs.right b) in
      two_places D s fs a b ++ spoken D s m 2 (record { plan = P; step = 5; older = note D s (say_u1 node y); memo = note D s (say_u2 a b y) }))
      ∙ ap (λ (l : List Request). two_places D s fs e (turned_round e) ++ l)
      (one_line D s m 1 t5 (swap e.was e.becomes ys.was ys.becomes d) g
      (ap (request_as m t5) sixth ∙ (λ n. swap (a n).was (b n).was (root n).was (root n).becomes d)) refl
      ∙ ap (λ (l : List Request). swap e.was e.becomes ys.was ys.becomes d ∷ l)
      (one_line D s m 0 t6 (take_over D s ys) nought
      (ap (request_as m t6) seventh ∙ ap (λ (r : W.Edit). adopt r.was r.becomes g) root) refl))
