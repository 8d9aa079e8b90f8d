-- What was loaded is held, and what is held is saved and loaded again.
use mathlib.Core.Path.{◌≡◌, refl, sym, ap, subst, ◌∙◌}
use mathlib.Core.Bool.{Bool, true, false, true≢false}
use mathlib.Core.List.Memᴰ
use mathlib.Core.List.{List, [], ◌∷◌, Memᴰ}
use mathlib.Core.Logic.{inl, inr}
use Prim.Native.Nat.{ℕ, ◌<◌, ◌≤◌}
use native.Mathlib.Omega.{arith}
use borrow.Author.Tests.{eqb-true, eqb-false, leb-true}
use lib.Dec.{eqb, leb}
use lib.ListN.{length, replicate}
use Rattle.seqs.specs.Choose.{both_true, opposite, Every}
use Rattle.sha256.specs.Hash.{sha256}
use Rattle.sha256.proofs.Digests.{sha256_length}
use Rattle.paper.specs.Strings.{record_hash}
use Rattle.rows.specs.declared.Row.{Row}
use Rattle.rows.specs.Rows.{rows_from}
use Rattle.slots.specs.Nodes.{node_at}
use Rattle.groves.specs.Grove.{slots_of}
use Rattle.groves.proofs.Groves.{OnLevel, kept_node}
use Rattle.groves.proofs.Puts.{empty_kept}
use Rattle.ringed.specs.Ringed.{leaves_by, Closed}
use Rattle.ringed.proofs.Pairs.{closed_if, closed_unbroken, no_break_lem, unbroken_first}
use Rattle.std.specs.Prelude.{Result, Ok, Err}
use Rattle.store.specs.declared.Fault.{Fault}
use Rattle.store.specs.Lines.{may_stand}
use Rattle.store.specs.Texts.{TextRead, text_read, text_of}
use Rattle.store.specs.RoundTrip.{Storable}
use Rattle.store.specs.Judging.{judged}
use Rattle.store.proofs.RoundTrip.{round_trips}
use Rattle.store.proofs.Judging.{RingText, ring_text, text_ring}
use Rattle.memory.specs.declared.LoadError.{LoadError}
use Rattle.memory.specs.Memory.{leaves_put, has_room, loaded_by, loaded_as, leaves_after, nodes_after}
use Rattle.memory.proofs.Puts.{leaves_length}
use Rattle.holding.specs.Holding.{Holds, loaded_leaves, loaded_nodes, saved_text, LoadHolds, Refusal, RefusalKeeps, GoodStore, LoadsJust, LoadedSaves, HeldSaves}
use Rattle.holding.proofs.Puts.{put_there, leaves_kept}

-- ── rings ──

-- an item that may stand in a store is above 0
item_positive : (r : Row) → Storable r → 0 < r.item.0
unfolding may_stand
item_positive r s =
    let p = (both_true (opposite (eqb r.item.0 0)) _ s.stands).0 in
    omega (arith, eqb-false r.item.0 0 (no_opposite _ p))
  where
    no_opposite : (b : Bool) → opposite b ≡ true → b ≡ false
    no_opposite true e = absurd (true≢false (sym e))
    no_opposite false e = refl

positive : (rs : List Row) → Every Storable rs → (r : Row) → Memᴰ r rs → 0 < r.item.0
positive [] e r m = elim m [ ]
positive (s ∷ l) e r m =
    elim (Memᴰ.cases_cons m) [
      | inl q ↦ subst (λ (x : Row). 0 < x.item.0) (sym q) (item_positive s e.0)
      | inr k ↦ positive l e.1 r k
    ]

-- ── what loading answers ──

module _ (leaves nodes : List ℕ) where
  pub record Room : Type 0 where
    pub numbers : 6144 ≤ length leaves
    pub bytes : length nodes ≡ 65536

  has_room_lem : has_room leaves nodes ≡ true → Room
  unfolding has_room
  has_room_lem e =
      let p = both_true (leb 6144 (length leaves)) (eqb (length nodes) 65536) e in
      record { numbers = leb-true 6144 (length leaves) p.0; bytes = eqb-true (length nodes) 65536 p.1 }

  -- a text is held where it is a ring and there is room
  held_ring : (t : List ℕ) (k : ℕ) → loaded_as t leaves nodes ≡ Ok k → RingText t 1024 k × (has_room leaves nodes ≡ true)
  unfolding loaded_as
  held_ring t k e = by_tests (judged t 1024) (has_room leaves nodes) refl refl e
    where
      by_tests : (j : Result ℕ Fault) (b : Bool) → judged t 1024 ≡ j → has_room leaves nodes ≡ b → loaded_by j b ≡ Ok k
          → RingText t 1024 k × (has_room leaves nodes ≡ true)
      by_tests (Ok n) true f g e =
          let same : n ≡ k = cc in
          (subst (RingText t 1024) same (ring_text t 1024 n f), g)
      by_tests (Ok n) false f g e = absurd (true≢false cc)
      by_tests (Err x) b f g e = absurd (true≢false cc)

  ring_held : (t : List ℕ) (k : ℕ) → RingText t 1024 k → has_room leaves nodes ≡ true → loaded_as t leaves nodes ≡ Ok k
  unfolding loaded_as
  ring_held t k r e = rw (text_ring t 1024 k r, e)

ring_closed : (t : List ℕ) (k : ℕ) → RingText t 1024 k → Closed (text_read t).rows
ring_closed t k r =
    closed_if (text_read t).rows (positive (text_read t).rows (round_trips.text_storable t)) (no_break_lem (text_read t).rows r.unbroken)

-- ── the statements ──

pub load_holds : LoadHolds
load_holds t leaves nodes k e =
    let held = held_ring leaves nodes t k e in
    let ring = held.0 in
    let room = has_room_lem leaves nodes held.1 in
    let rs = (text_read t).rows in
    let size : length rs ≡ k = sym ring.size in
    subst (λ (l : Result ℕ LoadError). Holds sha256 rs (leaves_after l rs leaves) (nodes_after sha256 l rs nodes) k) (sym e)
    (record {
      size = size;
      few = ring.few;
      room = omega (arith, room.numbers, leaves_length rs 0 leaves);
      there =
          ap (λ (n : ℕ). rows_from (leaves_put rs 0 leaves) n 0) (sym size)
          ∙ put_there rs 0 leaves (omega (arith, size, ring.few, room.numbers));
      storable = round_trips.text_storable t;
      closed = ring_closed t k ring;
      kept =
          leaves_kept sha256 sha256_length rs (replicate (length nodes) 0) (omega (arith, size, ring.few))
          (empty_kept sha256 (length nodes) room.bytes);
    })

pub refusal_keeps : RefusalKeeps
refusal_keeps t leaves nodes = by_answer (loaded_as t leaves nodes)
  where
    by_answer : (l : Result ℕ LoadError) → Refusal l
        → (leaves_after l (text_read t).rows leaves ≡ leaves) × (nodes_after sha256 l (text_read t).rows nodes ≡ nodes)
    by_answer (Ok k) f = absurd f
    by_answer (Err e) f = (refl, refl)

good_ring : (t : List ℕ) (k : ℕ) → GoodStore t k → RingText t 1024 k
good_ring t k g =
    record {
      whole = g.readable;
      size = sym g.lines;
      few = g.few;
      unbroken = unbroken_first (text_read t).rows (closed_unbroken (text_read t).rows g.ring);
    }

pub loads_just : LoadsJust
loads_just =
    record {
      only =
          λ t leaves nodes k e.
          let held = held_ring leaves nodes t k e in
          let ring = held.0 in
          (record { readable = ring.whole; lines = sym ring.size; few = ring.few; ring = ring_closed t k ring }, held.1);
      all = λ t leaves nodes k room g. ring_held leaves nodes t k (good_ring t k g) room;
    }

pub loaded_saves : LoadedSaves
loaded_saves t leaves nodes k e =
    ap text_of (load_holds t leaves nodes k e).there ∙ round_trips.text_writes t (held_ring leaves nodes t k e).0.whole

-- the root of memory that holds leaves is that of their tree, whatever else memory has been
one_root : (rs : List Row) (leaves nodes leaves' nodes' : List ℕ) (k : ℕ) → Holds sha256 rs leaves nodes k → Holds sha256 rs leaves' nodes' k
    → node_at nodes 1 ≡ node_at nodes' 1
one_root rs leaves nodes leaves' nodes' k h h' =
    let top : OnLevel 0 1 = record { from = omega arith; till = omega arith } in
    kept_node sha256 (slots_of (leaves_by (record_hash sha256) rs)) nodes h.kept 10 0 1 refl top
    ∙ sym (kept_node sha256 (slots_of (leaves_by (record_hash sha256) rs)) nodes' h'.kept 10 0 1 refl top)

pub held_saves : HeldSaves
held_saves rs leaves nodes k leaves' nodes' h room =
    let t = saved_text leaves k in
    let read : text_read t ≡ record { rows = rs; whole = true } = ap (λ (l : List Row). text_read (text_of l)) h.there ∙ round_trips.text_reads rs h.storable in
    let rows : (text_read t).rows ≡ rs = ap (λ (x : TextRead). x.rows) read in
    let good : GoodStore t k =
    record {
      readable = ap (λ (x : TextRead). x.whole) read;
      lines = ap length rows ∙ h.size;
      few = h.few;
      ring = subst Closed (sym rows) h.closed;
    } in
    let loads = loads_just.all t leaves' nodes' k room good in
    let holds : Holds sha256 rs (loaded_leaves t leaves' nodes') (loaded_nodes t leaves' nodes') k =
    subst (λ (l : List Row). Holds sha256 l (loaded_leaves t leaves' nodes') (loaded_nodes t leaves' nodes') k) rows
    (load_holds t leaves' nodes' k loads) in
    record {
      loads = loads;
      holds = holds;
      root = one_root rs _ _ _ _ k holds h;
      text = ap text_of (holds.there ∙ sym h.there);
    }
