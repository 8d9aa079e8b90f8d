-- Memory that holds a ring of leaves, and what a store has to do with it: what was loaded is held, what is held is saved and loaded
-- again, and a refusal changes nothing.
use Rattle.std.specs.Prelude.{◌≡◌, true, Result, Ok, Err, List, ℕ, ◌*◌, ◌≤◌, length}
use Rattle.seqs.specs.Choose.{Every}
use Rattle.sha256.specs.Hash.{sha256}
use Rattle.paper.specs.Strings.{Dig, record_hash}
use Rattle.rows.specs.declared.Row.{Row}
use Rattle.rows.specs.Rows.{row_numbers, rows_from}
use Rattle.slots.specs.Nodes.{slot_count, node_at}
use Rattle.groves.specs.Grove.{slots_of, Kept}
use Rattle.ringed.specs.Ringed.{leaves_by, Closed}
use Rattle.store.specs.Texts.{text_read, text_of}
use Rattle.store.specs.RoundTrip.{Storable}
use Rattle.memory.specs.declared.LoadError.{LoadError}
use Rattle.memory.specs.Memory.{has_room, loaded_as, leaves_after, nodes_after}

-- memory holds k leaves in slots 0 to k - 1: they are rs, each one that a store can hold, together one ascending ring, and their tree is
-- kept
pub record Holds (D : List ℕ → Dig) (rs : List Row) (leaves nodes : List ℕ) (k : ℕ) : Type 0 where
  pub size : length rs ≡ k
  pub few : k ≤ slot_count
  pub room : row_numbers * slot_count ≤ length leaves
  pub there : rows_from leaves k 0 ≡ rs
  pub storable : Every Storable rs
  pub closed : Closed rs
  pub kept : Kept D (slots_of (leaves_by (record_hash D) rs)) nodes

-- memory after a text is loaded
abbrev pub loaded_leaves : (t leaves nodes : List ℕ) → List ℕ
loaded_leaves t leaves nodes = leaves_after (loaded_as t leaves nodes) (text_read t).rows leaves

abbrev pub loaded_nodes : (t leaves nodes : List ℕ) → List ℕ
loaded_nodes t leaves nodes = nodes_after sha256 (loaded_as t leaves nodes) (text_read t).rows nodes

-- the text that saving writes of k leaves
abbrev pub saved_text : (leaves : List ℕ) (k : ℕ) → List ℕ
saved_text leaves k = text_of (rows_from leaves k 0)

-- ── loading ──

-- what is loaded is held: the leaves of the text, line by line
abbrev pub LoadHolds : Type 0
LoadHolds =
    (t leaves nodes : List ℕ) (k : ℕ) → loaded_as t leaves nodes ≡ Ok k
    → Holds sha256 (text_read t).rows (loaded_leaves t leaves nodes) (loaded_nodes t leaves nodes) k

-- every other answer is a refusal, and leaves memory as it was
abbrev pub Refusal : Result ℕ LoadError → Type 0
Refusal (Ok k) = ⊥
Refusal (Err e) = Unit {0}

abbrev pub RefusalKeeps : Type 0
RefusalKeeps =
    (t leaves nodes : List ℕ) → Refusal (loaded_as t leaves nodes)
    → (loaded_leaves t leaves nodes ≡ leaves) × (loaded_nodes t leaves nodes ≡ nodes)

-- where there is room a text is loaded just if every line can be read, they are as many as there are slots or fewer, and they are one
-- ascending ring
pub record GoodStore (t : List ℕ) (k : ℕ) : Type 0 where
  pub readable : (text_read t).whole ≡ true
  pub lines : length (text_read t).rows ≡ k
  pub few : k ≤ slot_count
  pub ring : Closed (text_read t).rows

pub record LoadsJust : Type 0 where
  pub only : (t leaves nodes : List ℕ) (k : ℕ) → loaded_as t leaves nodes ≡ Ok k → GoodStore t k × (has_room leaves nodes ≡ true)
  pub all : (t leaves nodes : List ℕ) (k : ℕ) → has_room leaves nodes ≡ true → GoodStore t k → loaded_as t leaves nodes ≡ Ok k

-- ── loading and saving ──

-- saving what was loaded gives the same bytes
abbrev pub LoadedSaves : Type 0
LoadedSaves =
    (t leaves nodes : List ℕ) (k : ℕ) → loaded_as t leaves nodes ≡ Ok k → saved_text (loaded_leaves t leaves nodes) k ≡ t

-- what is held, saved and loaded into any memory with room, is held there: the same leaves, the same root, the same text
pub record SavedLoads (rs : List Row) (leaves nodes : List ℕ) (k : ℕ) (leaves' nodes' : List ℕ) : Type 0 where
  pub loads : loaded_as (saved_text leaves k) leaves' nodes' ≡ Ok k
  pub holds : Holds sha256 rs (loaded_leaves (saved_text leaves k) leaves' nodes') (loaded_nodes (saved_text leaves k) leaves' nodes') k
  pub root : node_at (loaded_nodes (saved_text leaves k) leaves' nodes') 1 ≡ node_at nodes 1
  pub text : saved_text (loaded_leaves (saved_text leaves k) leaves' nodes') k ≡ saved_text leaves k

abbrev pub HeldSaves : Type 0
HeldSaves =
    (rs : List Row) (leaves nodes : List ℕ) (k : ℕ) (leaves' nodes' : List ℕ) → Holds sha256 rs leaves nodes k
    → has_room leaves' nodes' ≡ true → SavedLoads rs leaves nodes k leaves' nodes'
