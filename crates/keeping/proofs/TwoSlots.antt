-- A plan that changes two slots: its five lines up their fork, and memory once it has been accepted.
use mathlib.Core.Path.{◌≡◌, refl, sym, ap, subst, ◌∙◌}
use mathlib.Core.Bool.{Bool, true, false}
use mathlib.Core.List.{List, [], ◌∷◌, ◌++◌}
use Prim.Native.Nat.{ℕ, zero, suc, ◌+◌, ◌<◌}
use native.Mathlib.Omega.{arith}
use Rattle.seqs.specs.Choose.{pick, ◌and◌}
use Rattle.paper.specs.declared.Registers.{Registers}
use Rattle.paper.specs.Strings.{Dig, parent_forms}
use Rattle.paper.specs.Requests.{Request}
use Rattle.paper.specs.Answers as Does
use Rattle.rings.specs.Trees.{Tree}
use Rattle.runs.specs.Ways as W
use Rattle.runs.specs.Ways.{Fork, risen, parents}
use Rattle.runs.specs.Honest.{say_u2, path_up, pair_up, raise_up}
use Rattle.runs.proofs.Parts.{IsDigest}
use Rattle.runs.proofs.Climbs.{tree_digest, IsEdit, risen_is, parents_are}
use Rattle.slots.specs.Nodes.{leaf_put}
use Rattle.groves.specs.Grove.{fork_at, Kept}
use Rattle.groves.proofs.ShortLines.{Short, fork_short, five_lines}
use Rattle.rows.specs.Rows.{row_put}
use Rattle.edits.specs.declared.Edit.{Edit}
use Rattle.edits.specs.declared.Change.{Change}
use Rattle.edits.specs.Changes.{two_places}
use Rattle.edits.proofs.Places.{two_is}
use Rattle.plans.specs.declared.Plan.{Plan}
use Rattle.asking.specs.declared.Talk.{Talk}
use Rattle.asking.specs.Saying.{start_of, turned_edit, turns_round, sent, sent_change, request_at}
use Rattle.hearing.specs.Awaiting.{awaited_as, awaited_at}
use Rattle.hearing.specs.Hearing.{committing, concluding, of_two, committed_leaves, committed_nodes}
use Rattle.rising.specs.Rising.{as_edit}
use Rattle.rising.proofs.Rising.{two_risen}
use Rattle.saying.specs.Spoken.{next_talk, issued_for, spoken}
use Rattle.saying.proofs.Forked.{Forks, SentUp, root_is, spoken_five}
use Rattle.saying.proofs.Changed.{sent_up}
use Rattle.keeping.specs.Talking.{Tablet}
use Rattle.keeping.proofs.Goes.{add, talk_after, Steps}
use Rattle.keeping.proofs.Ends.{committed}
use Rattle.keeping.proofs.Sorts.{line_at, path_step, memo_step}

module _ (D : List ℕ → Dig) (s : Registers) (x : Tablet) where
  -- steps, and more behind them
  pub steps_on : (n m : ℕ) (t : Talk) → Steps D s x n t → Steps D s x m (talk_after D s x n t) → Steps D s x (add n m) t
  steps_on zero m t ks js = js
  steps_on (suc n) m t ks js = (ks.0, steps_on n m (next_talk t (issued_for D s (request_at x.nodes t))) ks.1 js)

-- an edit as it is sent, and as it is
turned_edit_lem : (b : Bool) (e : Edit) → IsEdit (as_edit e) → IsEdit (as_edit (pick b (turned_edit e) e))
turned_edit_lem true e h = record { old = h.new; new = h.old }
turned_edit_lem false e h = h

unturned_edit : (b : Bool) (e : Edit) → IsEdit (as_edit (pick b (turned_edit e) e)) → IsEdit (as_edit e)
unturned_edit true e h = record { old = h.new; new = h.old }
unturned_edit false e h = h

module _ (D : List ℕ → Dig) (DD : (l : List ℕ) → IsDigest (D l)) (s : Registers) (x : Tablet) where
  -- ── the fork ──

  module _ (F : ℕ → Tree) (k : Kept D F x.nodes) (i j : ℕ) (less : i < j) (room : j < 1024) (P : Plan) (parts : Forks P)
      (up : SentUp D F i j (sent_change P.script P.change)) (left : IsEdit (as_edit (sent_change P.script P.change).a))
      (right : IsEdit (as_edit (sent_change P.script P.change).b)) where
    abbrev c : Change
    c = sent_change P.script P.change

    abbrev f : Fork
    f = fork_at F (1024 + i) (1024 + j)

    abbrev A : W.Edit
    A = as_edit c.a

    abbrev B : W.Edit
    B = as_edit c.b

    abbrev Y : W.Edit
    Y = risen D f.left A

    abbrev Z : W.Edit
    Z = risen D f.right B

    abbrev N : W.Edit
    N = parents D Y Z

    abbrev R : W.Edit
    R = risen D f.above N

    h_y : IsEdit Y
    h_y = risen_is DD f.left A left

    h_z : IsEdit Z
    h_z = risen_is DD f.right B right

    h_n : IsEdit N
    h_n = parents_are DD Y Z h_y h_z

    root_digests : IsEdit (as_edit c.root)
    root_digests = subst IsEdit (sym (root_is D F x.nodes k s i j less room P parts up)) (risen_is DD f.above N h_n)

    lines : spoken D s x.nodes 5 (start_of P)
        ≡ path_up D s f.left A ∷ path_up D s f.right B ∷ pair_up D s A Y B Z ∷ path_up D s f.above N ∷ raise_up D s A B N R ∷ []
    lines =
        spoken_five D F x.nodes k s i j less room P parts up 0
        ∙ ap (λ (l : List Request). l ++ []) (five_lines D s f A B (fork_short F (1024 + i) (1024 + j)))

    abbrev t : ℕ → Talk
    t n = talk_after D s x n (start_of P)

    short : Short f
    short = fork_short F (1024 + i) (1024 + j)

    fork_steps : Steps D s x 5 (start_of P)
    unfolding awaited_at
    fork_steps = (
      path_step D DD s x (t 0) (ap committing parts.first) (ap concluding parts.first) (omega arith) f.left A c.y
          (line_at 0 lines) (ap (awaited_as (t 0)) parts.first) up.left_half left (omega (arith, short.left)),
      (
        path_step D DD s x (t 1) (ap committing parts.second) (ap concluding parts.second) (omega arith) f.right B c.z
            (line_at 1 lines) (ap (awaited_as (t 1)) parts.second) up.right_half right (omega (arith, short.right)),
        (
          memo_step D DD s x (t 2) (ap committing parts.third) (ap concluding parts.third) (omega arith)
              (pair_up D s A Y B Z) 0x84 (parent_forms Y.becomes Z.becomes ++ parent_forms Y.was Z.was) (say_u2 A B N) Does.nothing
              (line_at 2 lines) (ap (awaited_as (t 2)) parts.third)
              (left.old and h_y.old and left.new and h_y.new and DD _ and right.old and h_z.old and right.new and h_z.new and DD _ and tt)
              refl (omega arith) refl,
          (
            path_step D DD s x (t 3) (ap committing parts.fourth) (ap concluding parts.fourth) (omega arith) f.above N c.root
                (line_at 3 lines) (ap (awaited_as (t 3)) parts.fourth) (root_is D F x.nodes k s i j less room P parts up) h_n
                (omega (arith, short.above)),
            (
              memo_step D DD s x (t 4) (ap committing parts.fifth) (ap concluding parts.fifth) (omega arith)
                  (raise_up D s A B N R) 0x85 [] (say_u2 A B R) Does.nothing
                  (line_at 4 lines) (ap (awaited_as (t 4)) parts.fifth)
                  (left.old and right.old and h_n.old and left.new and right.new and h_n.new and DD _ and (risen_is DD f.above N h_n).old
                  and (risen_is DD f.above N h_n).new and DD _ and tt) refl (omega arith) refl,
              tt,
            ),
          ),
        ),
      ),
    )

  -- what is known of a plan of two slots before the lines behind its fork
  pub record Ahead (P : Plan) : Type 0 where
    pub left : IsEdit (as_edit P.change.a)
    pub right : IsEdit (as_edit P.change.b)
    pub root : IsEdit (as_edit P.change.root)
    pub sent_root : IsEdit (as_edit (sent P.script P.change.root))
    pub five : Steps D s x 5 (start_of P)
    pub memo : IsDigest (talk_after D s x 5 (start_of P)).memo

  -- by the digests that the leaves of slots i and j become
  pub ahead : (F : ℕ → Tree) → Kept D F x.nodes → (i j : ℕ) → i < j → j < 1024 → (P : Plan) → Forks P → (a b : Dig) → IsDigest a → IsDigest b
      → P.change ≡ two_places D x.nodes i j a b → Ahead P
  ahead F k i j less room P parts a b ha hb change_is =
      let r = two_risen D F x.nodes k i j a b less room in
      let up : SentUp D F i j (sent_change P.script P.change) =
      subst (λ (e : Change). SentUp D F i j (sent_change P.script e)) (sym change_is)
      (sent_up D F x.nodes k i j a b less room P.script) in
      let left : IsEdit (as_edit P.change.a) =
      subst IsEdit (sym (ap (λ (e : Change). as_edit e.a) change_is ∙ r.left_leaf))
      (record { old = tree_digest DD (F (1024 + i)); new = ha }) in
      let right : IsEdit (as_edit P.change.b) =
      subst IsEdit (sym (ap (λ (e : Change). as_edit e.b) change_is ∙ r.right_leaf))
      (record { old = tree_digest DD (F (1024 + j)); new = hb }) in
      let round = turns_round P.script in
      let sent-left = turned_edit_lem round P.change.a left in
      let sent-right = turned_edit_lem round P.change.b right in
      let root = root_digests F k i j less room P parts up sent-left sent-right in
      let five = fork_steps F k i j less room P parts up sent-left sent-right in
      record {
        left = left;
        right = right;
        root = unturned_edit round P.change.root root;
        sent_root = root;
        five = five;
        memo = five.1.1.1.1.0.issued;
      }

  -- ── memory afterwards ──

  -- slots i and j change: the two rows and the two digests put
  pub committed_two : (F : ℕ → Tree) → Kept D F x.nodes → (i j : ℕ) (a b : Dig) (P : Plan) → i < j → j < 1024
      → P.change ≡ two_places D x.nodes i j a b → of_two P.script ≡ true
      → committed D x P
      ≡ record {
        count = P.after.count;
        counter = P.after.counter;
        leaves = row_put (row_put x.leaves i P.after.left) j P.after.right;
        nodes = leaf_put D (leaf_put D x.nodes i a) j b;
      }
  unfolding committed_leaves committed_nodes
  committed_two F k i j a b P less room change_is two =
      let c = two_places D x.nodes i j a b in
      let there = two_is D x.nodes i j a b (omega arith) room in
      let at_i : P.change.left ≡ i = ap (λ (e : Change). e.left) (change_is ∙ sym there) in
      let at_j : P.change.right ≡ j = ap (λ (e : Change). e.right) (change_is ∙ sym there) in
      let r = two_risen D F x.nodes k i j a b less room in
      let left_is : P.change.a.becomes ≡ a =
      ap (λ (e : Change). e.a.becomes) change_is ∙ ap (λ (e : W.Edit). e.becomes) r.left_leaf in
      let right_is : P.change.b.becomes ≡ b =
      ap (λ (e : Change). e.b.becomes) change_is ∙ ap (λ (e : W.Edit). e.becomes) r.right_leaf in
      (λ n.
      let one = row_put x.leaves P.change.left P.after.left in
      let node = leaf_put D x.nodes P.change.left P.change.a.becomes in
      record {
        count = P.after.count;
        counter = P.after.counter;
        leaves = pick (two n) (row_put one P.change.right P.after.right) one;
        nodes = pick (two n) (leaf_put D node P.change.right P.change.b.becomes) node;
      })
      ∙ (λ n. record {
        count = P.after.count;
        counter = P.after.counter;
        leaves = row_put (row_put x.leaves (at_i n) P.after.left) (at_j n) P.after.right;
        nodes = leaf_put D (leaf_put D x.nodes (at_i n) (left_is n)) (at_j n) (right_is n);
      })
