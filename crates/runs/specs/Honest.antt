-- Honest lines as functions: from the registers, a tree that the root stands for, the list and a wish to the requests that
-- bring it about. They carry no memorandum but those that the requests before them issue.
use Rattle.std.specs.Prelude.{List, [], ◌∷◌, ◌++◌, ℕ, eqb}
use Rattle.seqs.specs.Choose.{pick}
use Rattle.paper.specs.declared.Record.{Record}
use Rattle.paper.specs.declared.Registers.{Registers}
use Rattle.paper.specs.declared.Values.{Values}
use Rattle.paper.specs.Strings.{Dig, nought, Memo, u1, v1, u2, ei, leaf, empty_record, digest_of, memorandum}
use Rattle.paper.specs.Requests.{Request, path, witness, join, pair, raise, swap, first, place, turn, adopt, set_to, clear, ask, ask_none, most_siblings}
use Rattle.paper.specs.Refusals.{next_record, cleared_record, leaf_of}
use Rattle.rings.specs.Trees.{Tree, tip, hash_of}
use Rattle.rings.specs.Lists.{item_with}
use Rattle.runs.specs.Run.{Items}
use Rattle.runs.specs.Wishes.{Wish, insert_item, remove_item, swap_places, set_record, clear_record, ask_about}
use Rattle.runs.specs.Ways.{item_of, next_of, hash_in, is_of, leads_to, gap_holds, tells_of, Way, found, way_to, sides_of, siblings_of, in_paths, Fork, fork_of, halves, left_one, right_one, Edit, risen, parents, risen_two}

-- the record of item A in the list
abbrev pub record_of : (A : ℕ) → Items → Record
record_of A [] = empty_record
record_of A (item_with a r ∷ l) = pick (eqb A a) r (record_of A l)

-- ── what memoranda say, of digests that change ──

-- U1 of what stands at a place and above it, before and after
abbrev pub say_u1 : (x y : Edit) → Memo
say_u1 x y = u1 x.was y.was x.becomes y.becomes

-- U2, the same of two places
abbrev pub say_u2 : (a b y : Edit) → Memo
say_u2 a b y = u2 a.was b.was y.was a.becomes b.becomes y.becomes

-- EI of two roots
abbrev pub say_ei : (y : Edit) → Memo
say_ei y = ei y.was y.becomes

-- a change the other way
abbrev pub turned_round : Edit → Edit
turned_round y = record { was = y.becomes; becomes = y.was }

module _ (D : List ℕ → Dig) (s : Registers) where
  -- the memorandum that says t, as this module issues it. A tablet has no secret: it copies the memorandum out of the reply
  -- that issued it, and that one did is `AllIssued`
  abbrev pub note : Memo → Dig
  note t = memorandum D t s.secret

  -- ── U1 up a way of any length ──

  -- a path of at most 64 levels
  abbrev pub path_up : Way → Edit → Request
  path_up p x = path x.was x.becomes (sides_of p) (siblings_of D p)

  -- U1 from x to y and from y to z
  abbrev pub join_up : (x y z : Edit) → Request
  join_up x y z =
      join x.was y.was x.becomes y.becomes (note (say_u1 x y)) z.was z.becomes (note (say_u1 y z))

  -- U1 from x to y, and paths above y, each joined to what is below it
  abbrev pub further : (x y : Edit) → List Way → List Request
  further x y [] = []
  further x y (p ∷ ps) = path_up p y ∷ join_up x y (risen D p y) ∷ further x (risen D p y) ps

  abbrev pub one_place : Way → Edit → List Request
  one_place p x =
      let c = in_paths most_siblings p in
      path_up c.lowest x ∷ further x (risen D c.lowest x) c.higher

  -- ── U2 up a fork, a being at its left foot and b at its right ──

  -- U1 from a to y and from b to z, the two halves of a node
  abbrev pub pair_up : (a y b z : Edit) → Request
  pair_up a y b z =
      pair a.was y.was a.becomes y.becomes (note (say_u1 a y)) b.was z.was b.becomes z.becomes
      (note (say_u1 b z))

  -- U2 from a and b to y, and U1 from y to z
  abbrev pub raise_up : (a b y z : Edit) → Request
  raise_up a b y z =
      raise a.was b.was y.was a.becomes b.becomes y.becomes (note (say_u2 a b y)) z.was z.becomes
      (note (say_u1 y z))

  abbrev pub two_places : Fork → (a b : Edit) → List Request
  two_places f a b =
      let y = risen D f.left a in
      let z = risen D f.right b in
      let n = parents D y z in
      one_place f.left a
      ++ (one_place f.right b ++ (pair_up a y b z ∷ (one_place f.above n ++ (raise_up a b n (risen D f.above n) ∷ []))))

  -- ── EI, turned round or adopted ──

  abbrev pub turn_round : (root : Edit) → Request
  turn_round y = turn y.was y.becomes (note (say_ei y))

  abbrev pub take_over : (root : Edit) → Request
  take_over y = adopt y.was y.becomes (note (say_ei y))

  -- ── insert and remove ──

  -- A place's leaves (§5.2.5). Here item A stands between B and B': the leaf of B leads past it, and its own leaf goes
  abbrev pub relinked : (B A B' : ℕ) (ω : Dig) → Edit
  relinked B A B' ω = record { was = digest_of D (leaf B A ω); becomes = digest_of D (leaf B B' ω) }

  abbrev pub gone : (A B' : ℕ) → Edit
  gone A B' = record { was = digest_of D (leaf A B' nought); becomes = nought }

  abbrev pub on_left_foot : Fork → (B A B' : ℕ) (ω : Dig) → Edit
  on_left_foot f B A B' ω = left_one f (relinked B A B' ω) (gone A B')

  abbrev pub on_right_foot : Fork → (B A B' : ℕ) (ω : Dig) → Edit
  on_right_foot f B A B' ω = right_one f (relinked B A B' ω) (gone A B')

  -- from the root with A to the root without
  abbrev pub without : Fork → (B A B' : ℕ) (ω : Dig) → Edit
  without f B A B' ω = risen_two D f (on_left_foot f B A B' ω) (on_right_foot f B A B' ω)

  -- its EI, by place
  abbrev pub placed : Fork → (B A B' : ℕ) (ω : Dig) → List Request
  placed f B A B' ω =
      let a = on_left_foot f B A B' ω in
      let b = on_right_foot f B A B' ω in
      let y = without f B A B' ω in
      two_places f a b ++ (place B A B' ω y.was y.becomes (note (say_u2 a b y)) ∷ [])

  -- from the root of the empty list to that of item A alone
  abbrev pub alone : (A : ℕ) → Edit
  alone A = record { was = nought; becomes = digest_of D (leaf A A nought) }

  -- into the empty list by first; else the leaf whose gap holds A becomes two leaves under one node, and place is turned
  -- round, so that it inserts (§5.2.8)
  abbrev pub insert_lines : (A : ℕ) → Tree → Items → List Request
  insert_lines A T [] = first A ∷ take_over (alone A) ∷ []
  insert_lines A T (i ∷ l) =
      let x = found (gap_holds A) T in
      let f = halves (way_to (gap_holds A) T) in
      let y = without f (item_of x) A (next_of x) (hash_in x) in
      placed f (item_of x) A (next_of x) (hash_in x) ++ (turn_round y ∷ take_over (turned_round y) ∷ [])

  -- the only item by first, turned round; else by place, the leaf that leads to A and A's own in whichever order they stand
  abbrev pub remove_lines : (A : ℕ) → Tree → Items → List Request
  remove_lines A T [] = []
  remove_lines A T (i ∷ []) = first A ∷ turn_round (alone A) ∷ take_over (turned_round (alone A)) ∷ []
  remove_lines A T (i ∷ j ∷ l) =
      let x = found (leads_to A) T in
      let z = found (is_of A) T in
      let f = fork_of (leads_to A) (is_of A) T in
      placed f (item_of x) A (next_of z) (hash_in x) ++ (take_over (without f (item_of x) A (next_of z) (hash_in x)) ∷ [])

  -- ── swap ──

  abbrev pub swap_lines : (A B : ℕ) → Tree → List Request
  swap_lines A B T =
      let e : Edit = record { was = hash_of D (tip (found (is_of A) T)); becomes = hash_of D (tip (found (is_of B) T)) } in
      let f = fork_of (is_of A) (is_of B) T in
      let a = left_one f e (turned_round e) in
      let b = right_one f e (turned_round e) in
      let y = risen_two D f a b in
      two_places f a b ++ (swap a.was b.was y.was y.becomes (note (say_u2 a b y)) ∷ take_over y ∷ [])

  -- ── set and clear ──

  -- item A's leaf, with its record and with another
  abbrev pub rewritten : (A : ℕ) (new : Record) → Tree → Items → Edit
  rewritten A new T l =
      let A' = next_of (found (is_of A) T) in
      record { was = digest_of D (leaf_of D A A' (record_of A l)); becomes = digest_of D (leaf_of D A A' new) }

  abbrev pub set_lines : (A : ℕ) (v : Values) → Tree → Items → List Request
  set_lines A v T l =
      let x = rewritten A (next_record s v) T l in
      let y = risen D (way_to (is_of A) T) x in
      let A' = next_of (found (is_of A) T) in
      one_place (way_to (is_of A) T) x ++ (set_to A A' (record_of A l) v y.was y.becomes (note (say_u1 x y)) ∷ [])

  abbrev pub clear_lines : (A : ℕ) → Tree → Items → List Request
  clear_lines A T l =
      let x = rewritten A cleared_record T l in
      let y = risen D (way_to (is_of A) T) x in
      let A' = next_of (found (is_of A) T) in
      one_place (way_to (is_of A) T) x ++ (clear A A' (record_of A l) y.was y.becomes (note (say_u1 x y)) ∷ [])

  -- ── questions ──

  -- q's own leaf or the one whose gap holds q: U1(x,y,x,y), witnessed
  abbrev pub leaf_lines : (q : ℕ) → Tree → Items → List Request
  leaf_lines q T l =
      let z = found (tells_of q) T in
      let r = record_of (item_of z) l in
      let d = digest_of D (leaf_of D (item_of z) (next_of z) r) in
      let x : Edit = record { was = d; becomes = d } in
      let y = risen D (way_to (tells_of q) T) x in
      one_place (way_to (tells_of q) T) x
      ++ (witness d y.was (note (say_u1 x y)) ∷ ask q (item_of z) (next_of z) r y.was (note (v1 d y.was)) ∷ [])

  abbrev pub ask_lines : (q : ℕ) → Tree → Items → List Request
  ask_lines q T [] = ask_none q ∷ []
  ask_lines q T (i ∷ l) = leaf_lines q T (i ∷ l)

  -- ── all of them ──

  abbrev pub honest_lines : Tree → Items → Wish → List Request
  honest_lines T l (insert_item A) = insert_lines A T l
  honest_lines T l (remove_item A) = remove_lines A T l
  honest_lines T l (swap_places A B) = swap_lines A B T
  honest_lines T l (set_record A v) = set_lines A v T l
  honest_lines T l (clear_record A) = clear_lines A T l
  honest_lines T l (ask_about q) = ask_lines q T l
