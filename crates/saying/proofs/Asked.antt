-- A question: the lines that the tablet makes of its memory are the honest lines of `runs`, of the tree that memory keeps.
use mathlib.Core.Path.{◌≡◌, refl, sym, ap, ap₂, ◌∙◌}
use mathlib.Core.List.{List, [], ◌∷◌, ◌++◌}
use mathlib.Core.Logic.{◌≢◌}
use Prim.Native.Nat.{ℕ, ◌+◌, ◌<◌, ◌≤◌}
use native.Mathlib.Omega.{arith}
use borrow.Author.Tests.{ne_eqb}
use Rattle.paper.specs.declared.Registers.{Registers}
use Rattle.paper.specs.declared.Item.{Item}
use Rattle.paper.specs.declared.Revision.{Revision}
use Rattle.paper.specs.Strings.{Dig, nought, v1, record_hash, digest_of}
use Rattle.paper.specs.Requests.{Request, witness, ask, ask_none}
use Rattle.paper.specs.Refusals.{leaf_of}
use Rattle.rings.specs.Trees.{Tree}
use Rattle.runs.specs.Run.{Items}
use Rattle.runs.specs.Ways as W
use Rattle.runs.specs.Ways.{item_of, next_of, tells_of, rise, risen}
use Rattle.runs.specs.Honest.{record_of, say_u1, note, path_up, one_place, leaf_lines}
use Rattle.slots.specs.Nodes.{node_at}
use Rattle.groves.specs.Grove.{slots_of, tree_of, way_up, Kept}
use Rattle.groves.proofs.Groves.{slot_level}
use Rattle.groves.proofs.Forks.{top_is}
use Rattle.groves.proofs.ShortLines.{way_length, one_path}
use Rattle.rows.specs.declared.Row.{Row}
use Rattle.rows.specs.Rows.{row_at, rows_from, seek, telling}
use Rattle.ringed.specs.Ringed.{leaves_by}
use Rattle.edits.specs.declared.Change.{Change}
use Rattle.edits.specs.Changes.{still_place, risen_at}
use Rattle.edits.proofs.Places.{still_is}
use Rattle.plans.specs.declared.Plan.{Plan}
use Rattle.plans.specs.declared.Script.TheVariants.{Asking}
use Rattle.plans.specs.Plans.{no_values, no_row, plain_plan, asked}
use Rattle.asking.specs.declared.Talk.{Talk}
use Rattle.asking.specs.Saying.{start_of, slot_node, path_from, request_at}
use Rattle.rising.specs.Rising.{as_edit}
use Rattle.rising.proofs.Rising.{rises_in, path_in}
use Rattle.saying.specs.Spoken.{spoken}
use Rattle.saying.proofs.Forked.{slot_node_lem, path_issues, one_line}
use Rattle.saying.proofs.Planned.{slot_digest}
use Rattle.saying.proofs.Seen.{Seen, seen}

-- of nothing listed
pub none_lines : (D : List ℕ → Dig) (leaves m : List ℕ) (s : Registers) (c : Revision) (q : Item)
    → spoken D s m 1 (start_of (asked leaves m 0 c q)) ≡ ask_none q.0 ∷ []
unfolding asked plain_plan request_at
none_lines D leaves m s c q = refl

module _ (D : List ℕ → Dig) (leaves m : List ℕ) (k : ℕ) (kept : Kept D (slots_of (leaves_by (record_hash D) (rows_from leaves k 0))) m)
    (s : Registers) (c : Revision) (q : Item) (room : k ≤ 1024) (some : k ≢ 0) (there : seek (telling q.0) leaves k 0 < k) where
  abbrev F : ℕ → Tree
  F = slots_of (leaves_by (record_hash D) (rows_from leaves k 0))

  abbrev T : Tree
  T = tree_of (leaves_by (record_hash D) (rows_from leaves k 0))

  abbrev i : ℕ
  i = seek (telling q.0) leaves k 0

  abbrev here : Row
  here = row_at leaves (seek (telling q.0) leaves k 0)

  sight : Seen D leaves k (tells_of q.0) i
  sight = seen D leaves k (tells_of q.0) room there

  abbrev d : Dig
  d = digest_of D (leaf_of D here.item.0 here.next.0 here.entry)

  abbrev X : W.Edit
  X = record { was = d; becomes = d }

  abbrev Y : W.Edit
  Y = risen D (way_up F 10 0 (1024 + i)) X

  -- what memory has at the slot and at the root
  leaf_node : node_at m (1024 + i) ≡ d
  leaf_node = kept.slots i (omega arith) ∙ slot_digest D leaves m k i there

  pub root_node : node_at m 1 ≡ Y.was
  unfolding risen_at
  root_node =
      ap (node_at m) (sym (top_is 10 (1024 + i) (slot_level i (omega arith))))
      ∙ ap (λ (e : W.Edit). e.was) (rises_in D F m kept 10 0 0 (1024 + i) d refl (slot_level i (omega arith)))
      ∙ ap (rise D (way_up F 10 0 (1024 + i))) leaf_node

  -- the plan's change
  abbrev still : Change
  still = still_place m i

  is : still ≡ record {
    left = i;
    right = i;
    levels = 0;
    a = record { was = node_at m (1024 + i); becomes = node_at m (1024 + i) };
    b = record { was = nought; becomes = nought };
    y = record { was = nought; becomes = nought };
    z = record { was = nought; becomes = nought };
    node = record { was = nought; becomes = nought };
    root = record { was = node_at m 1; becomes = node_at m 1 };
  }
  is = sym (still_is m i (omega arith))

  pub plan_is : asked leaves m k c q ≡ plain_plan Asking q no_values here still here no_row k c
  unfolding asked
  plan_is = rw (ne_eqb k 0 some)

  abbrev P : Plan
  P = plain_plan Asking q no_values here still here no_row k c

  abbrev w : W.Way
  w = way_up F 10 0 (1024 + i)

  path_line : (o e : Dig) → request_at m (record { plan = P; step = 0; older = o; memo = e }) ≡ path_up D s w X
  unfolding plain_plan request_at
  path_line o e =
      let node : slot_node still.left ≡ 1024 + i = ap (λ (x : Change). slot_node x.left) is ∙ slot_node_lem i (omega arith) in
      ap (λ (u : ℕ). path_from m u 10 still.a) node
      ∙ path_in D F m kept s 10 0 0 (1024 + i) still.a refl (slot_level i (omega arith))
      ∙ ap (λ (x : Change). path_up D s w (as_edit x.a)) is ∙ ap (λ (x : Dig). path_up D s w (record { was = x; becomes = x })) leaf_node

  witness_line : (o e : Dig) → request_at m (record { plan = P; step = 1; older = o; memo = e }) ≡ witness d Y.was e
  unfolding plain_plan request_at
  witness_line o e =
      ap (λ (x : Change). witness x.a.was x.root.was e) is ∙ ap₂ (λ (a r : Dig). witness a r e) leaf_node root_node

  ask_line : (o e : Dig) → request_at m (record { plan = P; step = 2; older = o; memo = e })
      ≡ ask q.0 here.item.0 here.next.0 here.entry Y.was e
  unfolding plain_plan request_at
  ask_line o e =
      ap (λ (x : Change). ask q.0 here.item.0 here.next.0 here.entry x.root.was e) is
      ∙ ap (λ (r : Dig). ask q.0 here.item.0 here.next.0 here.entry r e) root_node

  -- line by line
  pub ask_spoken : spoken D s m 3 (start_of (asked leaves m k c q))
      ≡ path_up D s (way_up F 10 0 (1024 + i)) X
      ∷ witness d Y.was (note D s (say_u1 X Y))
      ∷ ask q.0 here.item.0 here.next.0 here.entry Y.was (note D s (v1 d Y.was))
      ∷ []
  ask_spoken =
      let n1 = note D s (say_u1 X Y) in
      let n2 = note D s (v1 d Y.was) in
      let t1 : Talk = record { plan = P; step = 1; older = nought; memo = n1 } in
      let t2 : Talk = record { plan = P; step = 2; older = n1; memo = n2 } in
      let q1 = witness d Y.was n1 in
      let q2 = ask q.0 here.item.0 here.next.0 here.entry Y.was n2 in
      ap (λ (p : Plan). spoken D s m 3 (start_of p)) plan_is
      ∙ one_line D s m 2 (start_of P) (path_up D s w X) n1 (path_line nought nought) (path_issues D s w X)
      ∙ ap (λ (r : List Request). path_up D s w X ∷ r)
      (one_line D s m 1 t1 q1 n2 (witness_line nought n1) refl
      ∙ ap (λ (r : List Request). q1 ∷ r) (one_line D s m 0 t2 q2 nought (ask_line n1 n2) refl))

  pub ask_lines_lem : (l : Items) → record_of here.item.0 l ≡ here.entry
      → spoken D s m 3 (start_of (asked leaves m k c q)) ≡ leaf_lines D s q.0 T l
  ask_lines_lem l old =
      let q1 = witness d Y.was (note D s (say_u1 X Y)) in
      let q2 = ask q.0 here.item.0 here.next.0 here.entry Y.was (note D s (v1 d Y.was)) in
      ask_spoken
      ∙ ap (λ (r : List Request). r ++ (q1 ∷ q2 ∷ [])) (sym (one_path D s w X (omega (arith, way_length F 10 0 (1024 + i)))))
      ∙ sym (listed_lines l old)
    where
      listed_lines : (l : Items) → record_of here.item.0 l ≡ here.entry
          → leaf_lines D s q.0 T l
          ≡ one_place D s w X ++ (witness d Y.was (note D s (say_u1 X Y))
          ∷ ask q.0 here.item.0 here.next.0 here.entry Y.was (note D s (v1 d Y.was)) ∷ [])
      listed_lines l old =
          (λ e.
          let z = sight.is_it e in
          let r = record_of (item_of z) l in
          let b = digest_of D (leaf_of D (item_of z) (next_of z) r) in
          let x : W.Edit = record { was = b; becomes = b } in
          let y = risen D (sight.its_way e) x in
          one_place D s (sight.its_way e) x
          ++ (witness b y.was (note D s (say_u1 x y)) ∷ ask q.0 (item_of z) (next_of z) r y.was (note D s (v1 b y.was)) ∷ []))
          ∙ (λ e.
          let b = digest_of D (leaf_of D here.item.0 here.next.0 (old e)) in
          let x : W.Edit = record { was = b; becomes = b } in
          let y = risen D w x in
          one_place D s w x
          ++ (witness b y.was (note D s (say_u1 x y))
          ∷ ask q.0 here.item.0 here.next.0 (old e) y.was (note D s (v1 b y.was)) ∷ []))
