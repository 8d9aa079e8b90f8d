-- Where two leaves change, the first five lines are those of `runs` for the two places, up the fork of their slots.
use mathlib.Core.Path.{◌≡◌, refl, sym, ap, ap₂, subst, ◌∙◌}
use mathlib.Core.List.{List, ◌∷◌, ◌++◌}
use Prim.Native.Nat.{ℕ, suc, ◌+◌, ◌-◌, ◌%◌, ◌<◌, ◌≤◌}
use native.Mathlib.Omega.{arith}
use borrow.Author.Tests.{le-leb}
use Rattle.paper.specs.declared.Registers.{Registers}
use Rattle.paper.specs.Strings.{Dig, u1, memorandum}
use Rattle.paper.specs.Requests.{Request, pair, raise}
use Rattle.rings.specs.Trees.{Tree}
use Rattle.runs.specs.Ways as W
use Rattle.runs.specs.Ways.{Way, Fork, rise, risen, parents, sides_of, siblings_of}
use Rattle.runs.specs.Honest.{say_u1, say_u2, note, path_up, pair_up, raise_up, two_places}
use Rattle.runs.proofs.Climbs.{fold_rises}
use Rattle.slots.specs.Nodes.{ancestor, meeting}
use Rattle.slots.proofs.Turns.{meeting_most}
use Rattle.groves.specs.Grove.{fork_at, Kept}
use Rattle.groves.proofs.Groves.{OnLevel, slot_level}
use Rattle.groves.proofs.ShortLines.{five_lines, fork_short}
use Rattle.edits.specs.declared.Change.{Change}
use Rattle.plans.specs.declared.Plan.{Plan}
use Rattle.asking.specs.declared.Talk.{Talk}
use Rattle.asking.specs.declared.Part.TheVariants.{PathLeft, PathRight, PairUp, PathAbove, RaiseUp}
use Rattle.asking.specs.Parts.{part_at}
use Rattle.asking.specs.Saying.{start_of, sent_change, slot_node, few, path_from, request_as, request_at}
use Rattle.rising.specs.Rising.{as_edit}
use Rattle.rising.proofs.Rising.{level_above, path_in}
use Rattle.saying.specs.Spoken.{next_talk, issued_for, spoken}

-- a slot's node, and levels as few as they are
pub slot_node_lem : (i : ℕ) → i < 1024 → slot_node i ≡ 1024 + i
slot_node_lem i h = let e : i % 1024 ≡ i = omega arith in ap (λ (n : ℕ). 1024 + n) e

few_is : (n : ℕ) → n ≤ 9 → few n ≡ n
unfolding few
few_is n h = rw (le-leb n 9 h)

module _ (D : List ℕ → Dig) (s : Registers) where
  -- what a path up a way issues
  pub path_issues : (p : Way) (x : W.Edit) → issued_for D s (path_up D s p x) ≡ note D s (say_u1 x (risen D p x))
  path_issues p x =
      λ i. memorandum D (u1 x.was (fold_rises D p x.was i) x.becomes (fold_rises D p x.becomes i)) s.secret

  module _ (m : List ℕ) where
    -- one line, by what it says and what it issues
    pub one_line : (n : ℕ) (t : Talk) (q : Request) (d : Dig) → request_at m t ≡ q → issued_for D s q ≡ d
        → spoken D s m (suc n) t ≡ q ∷ spoken D s m n (next_talk t d)
    one_line n t q d e h =
        ap (λ (x : Request). x ∷ spoken D s m n (next_talk t (issued_for D s x))) e
        ∙ ap (λ (x : Dig). q ∷ spoken D s m n (next_talk t x)) h

-- ── the change of a plan, as it is sent ──

-- the lines of a plan begin with the five of two places
pub record Forks (P : Plan) : Type 0 where
  pub first : part_at P.script 0 ≡ PathLeft
  pub second : part_at P.script 1 ≡ PathRight
  pub third : part_at P.script 2 ≡ PairUp
  pub fourth : part_at P.script 3 ≡ PathAbove
  pub fifth : part_at P.script 4 ≡ RaiseUp

module _ (D : List ℕ → Dig) (F : ℕ → Tree) (i j : ℕ) where
  abbrev pub the_fork : Fork
  the_fork = fork_at F (1024 + i) (1024 + j)

  -- where slots i and j change, i on the left: what is sent of each place rises
  pub record SentUp (c : Change) : Type 0 where
    pub left_is : c.left ≡ i
    pub right_is : c.right ≡ j
    pub levels_is : c.levels ≡ meeting 9 (1024 + i) (1024 + j)
    pub left_half : as_edit c.y ≡ risen D the_fork.left (as_edit c.a)
    pub right_half : as_edit c.z ≡ risen D the_fork.right (as_edit c.b)
    pub node : as_edit c.node ≡ parents D (as_edit c.y) (as_edit c.z)
    pub root : as_edit c.root ≡ risen D the_fork.above (as_edit c.node)

module _ (D : List ℕ → Dig) (F : ℕ → Tree) (m : List ℕ) (k : Kept D F m) (s : Registers) (i j : ℕ) (less : i < j) (room : j < 1024)
    (P : Plan) (parts : Forks P) (up : SentUp D F i j (sent_change P.script P.change)) where
  abbrev c : Change
  c = sent_change P.script P.change

  abbrev f : Fork
  f = fork_at F (1024 + i) (1024 + j)

  abbrev A : W.Edit
  A = as_edit c.a

  abbrev B : W.Edit
  B = as_edit c.b

  abbrev Y : W.Edit
  Y = risen D f.left A

  abbrev Z : W.Edit
  Z = risen D f.right B

  abbrev N : W.Edit
  N = parents D Y Z

  abbrev R : W.Edit
  R = risen D f.above N

  abbrev talk : (step : ℕ) (older memo : Dig) → Talk
  talk k o d = record { plan = P; step = k; older = o; memo = d }

  hi : i < 1024
  hi = omega arith

  low : meeting 9 (1024 + i) (1024 + j) ≤ 9
  low = meeting_most 9 (1024 + i) (1024 + j)

  node_is : as_edit c.node ≡ N
  node_is = up.node ∙ ap₂ (parents D) up.left_half up.right_half

  pub root_is : as_edit c.root ≡ R
  root_is = up.root ∙ ap (risen D f.above) node_is

  levels_are : few P.change.levels ≡ meeting 9 (1024 + i) (1024 + j)
  levels_are = ap few up.levels_is ∙ few_is (meeting 9 (1024 + i) (1024 + j)) low

  left_node : slot_node P.change.left ≡ 1024 + i
  left_node = ap slot_node up.left_is ∙ slot_node_lem i hi

  right_node : slot_node P.change.right ≡ 1024 + j
  right_node = ap slot_node up.right_is ∙ slot_node_lem j room

  on_level : (v : ℕ) → OnLevel 10 v → OnLevel (10 - meeting 9 (1024 + i) (1024 + j) + meeting 9 (1024 + i) (1024 + j)) v
  on_level v r = subst (λ (b : ℕ). OnLevel b v) (omega (arith, low)) r

  -- ── the five lines ──

  line_0 : (o d : Dig) → request_at m (talk 0 o d) ≡ path_up D s f.left A
  unfolding request_at
  line_0 o d =
      ap (request_as m (talk 0 o d)) parts.first
      ∙ ap₂ (λ (v l : ℕ). path_from m v l c.a) left_node levels_are
      ∙ path_in D F m k s (meeting 9 (1024 + i) (1024 + j)) 0 (10 - meeting 9 (1024 + i) (1024 + j)) (1024 + i) c.a
      (omega (arith, low)) (on_level (1024 + i) (slot_level i hi))

  line_1 : (o d : Dig) → request_at m (talk 1 o d) ≡ path_up D s f.right B
  unfolding request_at
  line_1 o d =
      ap (request_as m (talk 1 o d)) parts.second
      ∙ ap₂ (λ (v l : ℕ). path_from m v l c.b) right_node levels_are
      ∙ path_in D F m k s (meeting 9 (1024 + i) (1024 + j)) 0 (10 - meeting 9 (1024 + i) (1024 + j)) (1024 + j) c.b
      (omega (arith, low)) (on_level (1024 + j) (slot_level j room))

  line_2 : request_at m (talk 2 (note D s (say_u1 A Y)) (note D s (say_u1 B Z))) ≡ pair_up D s A Y B Z
  unfolding request_at
  line_2 =
      let o = note D s (say_u1 A Y) in
      let d = note D s (say_u1 B Z) in
      ap (request_as m (talk 2 o d)) parts.third
      ∙ ap₂ (λ (y z : W.Edit). pair A.was y.was A.becomes y.becomes o B.was z.was B.becomes z.becomes d)
      up.left_half up.right_half

  line_3 : (o d : Dig) → request_at m (talk 3 o d) ≡ path_up D s f.above N
  unfolding request_at
  line_3 o d =
      let l = meeting 9 (1024 + i) (1024 + j) in
      let top = ancestor (suc l) (1024 + i) in
      let level : OnLevel (9 - l) top =
      level_above (suc l) (9 - l) (1024 + i) (subst (λ (b : ℕ). OnLevel b (1024 + i)) (omega (arith, low)) (slot_level i hi)) in
      ap (request_as m (talk 3 o d)) parts.fourth
      ∙ ap₂ (λ (v l : ℕ). path_from m (ancestor (suc l) v) (9 - l) c.node) left_node levels_are
      ∙ path_in D F m k s (9 - l) (suc l) 0 top c.node (omega (arith, low)) (subst (λ (b : ℕ). OnLevel b top) (omega arith) level)
      ∙ ap (path_up D s f.above) node_is

  line_4 : request_at m (talk 4 (note D s (say_u2 A B N)) (note D s (say_u1 N R))) ≡ raise_up D s A B N R
  unfolding request_at
  line_4 =
      let o = note D s (say_u2 A B N) in
      let d = note D s (say_u1 N R) in
      ap (request_as m (talk 4 o d)) parts.fifth
      ∙ ap₂ (λ (x r : W.Edit). raise A.was B.was x.was A.becomes B.becomes x.becomes o r.was r.becomes d)
      node_is root_is

  pub spoken_five : (rest : ℕ)
      → spoken D s m (suc (suc (suc (suc (suc rest))))) (start_of P)
      ≡ two_places D s f A B ++ spoken D s m rest (record { plan = P; step = 5; older = note D s (say_u1 N R); memo = note D s (say_u2 A B R) })
  spoken_five rest =
      let o = (start_of P).memo in
      let mA = note D s (say_u1 A Y) in
      let mB = note D s (say_u1 B Z) in
      let mAB = note D s (say_u2 A B N) in
      let mN = note D s (say_u1 N R) in
      one_line D s m (suc (suc (suc (suc rest)))) (talk 0 o o) (path_up D s f.left A) mA (line_0 o o) (path_issues D s f.left A)
      ∙ ap (λ (l : List Request). path_up D s f.left A ∷ l)
      (one_line D s m (suc (suc (suc rest))) (talk 1 o mA) (path_up D s f.right B) mB (line_1 o mA) (path_issues D s f.right B)
      ∙ ap (λ (l : List Request). path_up D s f.right B ∷ l)
      (one_line D s m (suc (suc rest)) (talk 2 mA mB) (pair_up D s A Y B Z) mAB line_2 refl
      ∙ ap (λ (l : List Request). pair_up D s A Y B Z ∷ l)
      (one_line D s m (suc rest) (talk 3 mB mAB) (path_up D s f.above N) mN (line_3 mB mAB) (path_issues D s f.above N)
      ∙ ap (λ (l : List Request). path_up D s f.above N ∷ l)
      (one_line D s m rest (talk 4 mAB mN) (raise_up D s A B N R) (note D s (say_u2 A B R)) line_4 refl))))
      ∙ ap (λ (l : List Request). l ++ spoken D s m rest (record { plan = P; step = 5; older = mN; memo = note D s (say_u2 A B R) }))
      (sym (five_lines D s f A B (fork_short F (1024 + i) (1024 + j))))
