-- What a wish comes to in memory: its lines, the leaf concerned, what changes in the tree, and what memory is to hold once the module
-- has accepted. For any digest D.
use Rattle.std.specs.Prelude.{List, ℕ, ◌+◌, ◌-◌, eqb, leb, Result}
use Rattle.seqs.specs.Choose.{pick}
use Rattle.paper.specs.declared.Item.{Item}
use Rattle.paper.specs.declared.Record.{Record}
use Rattle.paper.specs.declared.Revision.{Revision}
use Rattle.paper.specs.declared.Values.{Values}
use Rattle.paper.specs.Strings.{Dig, nought, empty_record, record_hash}
use Rattle.paper.specs.Refusals.{top}
use Rattle.slots.specs.Nodes.{slot_count, node_at}
use Rattle.rows.specs.declared.Row.{Row}
use Rattle.rows.specs.Rows.{row_at, row_digest, seek, leading_to, gap_of, telling}
use Rattle.edits.specs.declared.Change.{Change}
use Rattle.edits.specs.Changes.{no_place, still_place, one_place, two_places}
use Rattle.wishes.specs.declared.Wish.{Wish}
use Rattle.wishes.specs.declared.Refused.{Refused}
use Rattle.wishes.specs.declared.Wish.TheVariants.{Insert, Remove, Set, Clear, Ask}
use Rattle.plans.specs.declared.Script.{Script}
use Rattle.plans.specs.declared.Script.TheVariants.{AskOfNone, Asking, Setting, Clearing, Beginning, Inserting, Swapping, Dropping, Emptying}
use Rattle.plans.specs.declared.Plan.{Plan}
use Rattle.wishes.specs.Words.{own_place, unless, word_for}

-- ── small values ──

abbrev pub no_item : Item
no_item = record { 0 = 0 }

abbrev pub no_values : Values
no_values = record { mass = record { 0 = 0 }; offset = record { 0 = 0 }; rigging = record { 0 = 0 } }

abbrev pub leaf_of_items : (A A' : Item) → Record → Row
leaf_of_items A A' r = record { item = A; next = A'; entry = r }

abbrev pub no_row : Row
no_row = leaf_of_items no_item no_item empty_record

-- the counter once it is raised; at its top it stays
unfoldable pub raised_counter : Revision → Revision
raised_counter c = pick (eqb c.0 top) c (record { 0 = c.0 + 1 })

-- the record that a set leaves
abbrev pub record_after : Revision → Values → Record
record_after c v = record { revision = raised_counter c; mass = v.mass; offset = v.offset; rigging = v.rigging }

-- ── plans ──

-- a plan by the leaf that stands in the left slot, what changes, and what memory is to hold; its lines have no place
unfoldable pub plain_plan : Script → Item → Values → (here : Row) → Change → (left right : Row) (count : ℕ) → Revision → Plan
plain_plan s A v here e left right k c =
    record {
      script = s;
      item = A;
      values = v;
      here = here;
      next = no_item;
      hash = nought;
      change = e;
      after = record { left = left; right = right; count = k; counter = c };
    }

-- one whose lines have a place: it names the item that follows and the hash of the left leaf's record too
unfoldable pub place_plan : (D : List ℕ → Dig) → Script → Item → (here : Row) (next : Item) → Change → (left right : Row) (count : ℕ) → Revision → Plan
place_plan D s A here next e left right k c =
    record {
      script = s;
      item = A;
      values = no_values;
      here = here;
      next = next;
      hash = record_hash D here.entry;
      change = e;
      after = record { left = left; right = right; count = k; counter = c };
    }

-- nothing to do
abbrev pub no_plan : Plan
no_plan = plain_plan AskOfNone no_item no_values no_row (no_place 0) no_row no_row 0 (record { 0 = 0 })

-- a question: where nothing is listed, and else by the leaf that tells of it
unfoldable pub asked : (leaves nodes : List ℕ) (k : ℕ) (c : Revision) → Item → Plan
asked leaves nodes k c q =
    let i = seek (telling q.0) leaves k 0 in
    pick (eqb k 0) (plain_plan AskOfNone q no_values no_row (no_place 0) no_row no_row k c)
    (plain_plan Asking q no_values (row_at leaves i) (still_place nodes i) (row_at leaves i) no_row k c)

-- A's leaf, the first
unfoldable pub beginning : (D : List ℕ → Dig) (nodes : List ℕ) (c : Revision) → Item → Plan
beginning D nodes c A =
    let row = leaf_of_items A A empty_record in
    plain_plan Beginning A no_values no_row (one_place D nodes 0 (row_digest D row)) row no_row 1 c

-- the only leaf goes
unfoldable pub emptying : (D : List ℕ → Dig) (leaves nodes : List ℕ) (c : Revision) → Item → Plan
emptying D leaves nodes c A = plain_plan Emptying A no_values (row_at leaves 0) (one_place D nodes 0 nought) no_row no_row 0 c

module _ (D : List ℕ → Dig) (leaves nodes : List ℕ) (k : ℕ) (c : Revision) where
  -- another record for A's leaf
  unfoldable pub rewritten : Script → Item → Values → Record → Plan
  rewritten s A v new =
      let i = own_place leaves k A.0 in
      let here = row_at leaves i in
      let row = leaf_of_items here.item here.next new in
      plain_plan s A v here (one_place D nodes i (row_digest D row)) row no_row k (raised_counter c)

  -- the leaf whose gap holds A leads to A, and A's own goes into the first free slot
  unfoldable pub inserting : Item → Plan
  inserting A =
      let i = seek (gap_of A.0) leaves k 0 in
      let here = row_at leaves i in
      let left = leaf_of_items here.item A here.entry in
      let right = leaf_of_items A here.next empty_record in
      place_plan D Inserting A here here.next (two_places D nodes i k (row_digest D left) (row_digest D right)) left right (k + 1) c

  -- A's leaf and the last one change places
  unfoldable pub swapping : Item → Plan
  swapping A =
      let i = own_place leaves k A.0 in
      let j = k - 1 in
      plain_plan Swapping A no_values (row_at leaves i)
      (two_places D nodes i j (node_at nodes (slot_count + j)) (node_at nodes (slot_count + i)))
      (row_at leaves j) (row_at leaves i) k c

  -- A's leaf, the last, goes: the one that leads to A leads past it
  unfoldable pub dropping : Item → Plan
  dropping A =
      let i = seek (leading_to A.0) leaves k 0 in
      let j = k - 1 in
      let here = row_at leaves i in
      let past = (row_at leaves j).next in
      let left = leaf_of_items here.item past here.entry in
      place_plan D Dropping A here past (two_places D nodes i j (row_digest D left) nought) left no_row j c

  unfoldable pub removing : Item → Plan
  removing A = pick (leb k 1) (emptying D leaves nodes c A) (pick (eqb (own_place leaves k A.0) (k - 1)) (dropping A) (swapping A))

  -- the plan of a wish
  abbrev pub plan_for : Wish → Plan
  plan_for (Insert A) = pick (eqb k 0) (beginning D nodes c A) (inserting A)
  plan_for (Remove A) = removing A
  plan_for (Set A v) = rewritten Setting A v (record_after c v)
  plan_for (Clear A) = rewritten Clearing A no_values empty_record
  plan_for (Ask q) = asked leaves nodes k c q

  -- its plan, unless a word refuses it
  unfoldable pub begun_for : Wish → Result Plan Refused
  begun_for x = unless (word_for leaves k c.0 x) (plan_for x)
