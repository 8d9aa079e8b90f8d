-- Set, clear and ask: the lines that the tablet makes of its memory are the honest lines of `runs`, of the tree that memory keeps.
use mathlib.Core.Path.{◌≡◌, refl, sym, ap, ◌∙◌}
use mathlib.Core.List.{List, [], ◌∷◌, ◌++◌}
use Prim.Native.Nat.{ℕ, ◌+◌, ◌<◌, ◌≤◌}
use native.Mathlib.Omega.{arith}
use borrow.Author.Tests.{eqb-true}
use Rattle.seqs.specs.First.{first_passes}
use Rattle.paper.specs.declared.Registers.{Registers}
use Rattle.paper.specs.declared.Item.{Item}
use Rattle.paper.specs.declared.Record.{Record}
use Rattle.paper.specs.declared.Revision.{Revision}
use Rattle.paper.specs.declared.Values.{Values}
use Rattle.paper.specs.Strings.{Dig, nought, record_hash, digest_of}
use Rattle.paper.specs.Requests.{Request, set_to, clear}
use Rattle.paper.specs.Refusals.{next_record, cleared_record, leaf_of}
use Rattle.rings.specs.Trees.{Tree}
use Rattle.runs.specs.Run.{Items}
use Rattle.runs.specs.Ways as W
use Rattle.runs.specs.Ways.{is_of, Way, next_of, found, way_to, risen}
use Rattle.runs.specs.Honest.{record_of, say_u1, note, path_up, one_place, set_lines, clear_lines}
use Rattle.groves.specs.Grove.{slots_of, tree_of, way_up, Kept}
use Rattle.groves.proofs.Groves.{slot_level}
use Rattle.groves.proofs.ShortLines.{way_length, one_path}
use Rattle.rows.specs.declared.Row.{Row}
use Rattle.rows.specs.Rows.{row_at, rows_from, of_item, row_digest}
use Rattle.wishes.specs.Words.{own_place}
use Rattle.ringed.specs.Ringed.{leaves_by}
use Rattle.edits.specs.declared.Change.{Change}
use Rattle.edits.specs.Changes.{one_place as changeOne}
use Rattle.edits.proofs.Places.{one_is}
use Rattle.plans.specs.declared.Plan.{Plan}
use Rattle.plans.specs.declared.Script.TheVariants.{Setting, Clearing}
use Rattle.plans.specs.Plans.{leaf_of_items, plain_plan, rewritten, record_after, no_values}
use Rattle.asking.specs.declared.Talk.{Talk}
use Rattle.asking.specs.declared.Part.TheVariants.{PathWhole}
use Rattle.asking.specs.Parts.{part_at}
use Rattle.asking.specs.Saying.{start_of, sent, slot_node, path_from, request_as, request_at}
use Rattle.rising.specs.Rising.{as_edit}
use Rattle.rising.proofs.Rising.{one_risen, path_in}
use Rattle.saying.specs.Spoken.{spoken}
use Rattle.saying.proofs.Forked.{slot_node_lem, path_issues, one_line}
use Rattle.saying.proofs.Planned.{slot_digest}
use Rattle.saying.proofs.Seen.{Seen, seen}

module _ (D : List ℕ → Dig) (leaves m : List ℕ) (k : ℕ) (kept : Kept D (slots_of (leaves_by (record_hash D) (rows_from leaves k 0))) m)
    (s : Registers) (c : Revision) (A : Item) (v : Values) (room : k ≤ 1024) (there : own_place leaves k A.0 < k) where
  abbrev F : ℕ → Tree
  F = slots_of (leaves_by (record_hash D) (rows_from leaves k 0))

  abbrev T : Tree
  T = tree_of (leaves_by (record_hash D) (rows_from leaves k 0))

  abbrev i : ℕ
  i = own_place leaves k A.0

  abbrev here : Row
  here = row_at leaves (own_place leaves k A.0)

  own : A.0 ≡ here.item.0
  own = eqb-true A.0 here.item.0 (first_passes (λ j. of_item A.0 (row_at leaves j)) k i refl there)

  sight : Seen D leaves k (is_of A.0) i
  sight = seen D leaves k (is_of A.0) room there

  way : Way
  way = way_up F 10 0 (1024 + i)

  -- the leaf with its record and with another
  module _ (new : Record) where
    abbrev x : Dig
    x = row_digest D (leaf_of_items here.item here.next new)

    abbrev the_change : Change
    the_change = changeOne D m i x

    -- as `runs` has it, of what it finds in the tree
    abbrev edit : (A A' : ℕ) (old : Record) → W.Edit
    edit A A' old = record { was = digest_of D (leaf_of D A A' old); becomes = digest_of D (leaf_of D A A' new) }

    abbrev E : W.Edit
    E = edit A.0 here.next.0 here.entry

    leaf_is : as_edit the_change.a ≡ edit A.0 here.next.0 here.entry
    leaf_is =
        (one_risen D F m kept i x (omega arith)).leaf
        ∙ (λ e. record { was = slot_digest D leaves m k i there e; becomes = x })
        ∙ ap (λ (a : ℕ). edit a here.next.0 here.entry) (sym own)

    pub root_is : as_edit the_change.root ≡ risen D (way_up F 10 0 (1024 + i)) (edit A.0 here.next.0 here.entry)
    root_is = (one_risen D F m kept i x (omega arith)).root ∙ ap (risen D (way_up F 10 0 (1024 + i))) leaf_is

    left_is : the_change.left ≡ i
    left_is = ap (λ (e : Change). e.left) (sym (one_is D m i x (omega arith)))

    -- a plan of that change whose first line is a path, as it is sent
    module _ (P : Plan) (change_is : P.change ≡ changeOne D m i x) (first : part_at P.script 0 ≡ PathWhole)
        (as-it-is : sent P.script P.change.a ≡ P.change.a) where
      path_line : (o d : Dig) → request_at m (record { plan = P; step = 0; older = o; memo = d }) ≡ path_up D s (way_up F 10 0 (1024 + i)) E
      unfolding request_at
      path_line o d =
          let t : Talk = record { plan = P; step = 0; older = o; memo = d } in
          let node : slot_node P.change.left ≡ 1024 + i =
          ap (λ (e : Change). slot_node e.left) change_is ∙ ap slot_node left_is ∙ slot_node_lem i (omega arith) in
          ap (request_as m t) first
          ∙ (λ e. path_from m (node e) 10 (as-it-is e)) ∙ ap (λ (e : Change). path_from m (1024 + i) 10 e.a) change_is
          ∙ path_in D F m kept s 10 0 0 (1024 + i) the_change.a refl (slot_level i (omega arith)) ∙ ap (path_up D s (way_up F 10 0 (1024 + i))) leaf_is

      -- and whose second line comes to q
      two_lines : (q : Request)
          → request_at m (record { plan = P; step = 1; older = nought; memo = note D s (say_u1 E (risen D (way_up F 10 0 (1024 + i)) E)) }) ≡ q
          → spoken D s m 2 (start_of P) ≡ path_up D s (way_up F 10 0 (1024 + i)) E ∷ q ∷ []
      two_lines q e =
          let w = way_up F 10 0 (1024 + i) in
          let d = note D s (say_u1 E (risen D w E)) in
          let t : Talk = record { plan = P; step = 1; older = nought; memo = d } in
          one_line D s m 1 (start_of P) (path_up D s w E) d (path_line nought nought) (path_issues D s w E)
          ∙ ap (λ (l : List Request). path_up D s w E ∷ l) (one_line D s m 0 t q _ e refl)

    -- the path as `runs` has it
    as_one_place : (q : Request) → path_up D s (way_up F 10 0 (1024 + i)) E ∷ q ∷ [] ≡ one_place D s (way_up F 10 0 (1024 + i)) E ++ (q ∷ [])
    as_one_place q =
        ap (λ (l : List Request). l ++ (q ∷ [])) (sym (one_path D s (way_up F 10 0 (1024 + i)) E (omega (arith, way_length F 10 0 (1024 + i)))))

  -- ── set and clear ──

  -- line by line
  pub set_spoken : spoken D s m 2 (start_of (rewritten D leaves m k c Setting A v (record_after c v)))
      ≡ (let x = edit (record_after c v) A.0 here.next.0 here.entry in
      let y = risen D (way_up F 10 0 (1024 + i)) x in
      path_up D s (way_up F 10 0 (1024 + i)) x
      ∷ set_to A.0 here.next.0 here.entry v y.was y.becomes (note D s (say_u1 x y))
      ∷ [])
  unfolding rewritten plain_plan request_at
  set_spoken =
      let P = rewritten D leaves m k c Setting A v (record_after c v) in
      let x = edit (record_after c v) A.0 here.next.0 here.entry in
      let y = risen D (way_up F 10 0 (1024 + i)) x in
      let d = note D s (say_u1 x y) in
      two_lines (record_after c v) P refl refl refl
      (set_to A.0 here.next.0 here.entry v y.was y.becomes d)
      (ap (λ (r : W.Edit). set_to A.0 here.next.0 here.entry v r.was r.becomes d) (root_is (record_after c v)))

  pub set_lines_lem : (l : Items) → record_of A.0 l ≡ here.entry → next_record s v ≡ record_after c v
      → spoken D s m 2 (start_of (rewritten D leaves m k c Setting A v (record_after c v))) ≡ set_lines D s A.0 v T l
  set_lines_lem l old new =
      set_spoken ∙ as_one_place (record_after c v) _
      ∙ sym (λ e.
      let A' = next_of (sight.is_it e) in
      let x : W.Edit = record { was = digest_of D (leaf_of D A.0 A' (old e)); becomes = digest_of D (leaf_of D A.0 A' (new e)) } in
      let y = risen D (sight.its_way e) x in
      one_place D s (sight.its_way e) x ++ (set_to A.0 A' (old e) v y.was y.becomes (note D s (say_u1 x y)) ∷ []))

  pub clear_spoken : spoken D s m 2 (start_of (rewritten D leaves m k c Clearing A no_values cleared_record))
      ≡ (let x = edit cleared_record A.0 here.next.0 here.entry in
      let y = risen D (way_up F 10 0 (1024 + i)) x in
      path_up D s (way_up F 10 0 (1024 + i)) x
      ∷ clear A.0 here.next.0 here.entry y.was y.becomes (note D s (say_u1 x y))
      ∷ [])
  unfolding rewritten plain_plan request_at
  clear_spoken =
      let P = rewritten D leaves m k c Clearing A no_values cleared_record in
      let x = edit cleared_record A.0 here.next.0 here.entry in
      let y = risen D (way_up F 10 0 (1024 + i)) x in
      let d = note D s (say_u1 x y) in
      two_lines cleared_record P refl refl refl
      (clear A.0 here.next.0 here.entry y.was y.becomes d)
      (ap (λ (r : W.Edit). clear A.0 here.next.0 here.entry r.was r.becomes d) (root_is cleared_record))

  pub clear_lines_lem : (l : Items) → record_of A.0 l ≡ here.entry
      → spoken D s m 2 (start_of (rewritten D leaves m k c Clearing A no_values cleared_record)) ≡ clear_lines D s A.0 T l
  clear_lines_lem l old =
      clear_spoken ∙ as_one_place cleared_record _
      ∙ sym (λ e.
      let A' = next_of (sight.is_it e) in
      let x : W.Edit = record { was = digest_of D (leaf_of D A.0 A' (old e)); becomes = digest_of D (leaf_of D A.0 A' cleared_record) } in
      let y = risen D (sight.its_way e) x in
      one_place D s (sight.its_way e) x ++ (clear A.0 A' (old e) y.was y.becomes (note D s (say_u1 x y)) ∷ []))
