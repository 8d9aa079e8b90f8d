-- The tablet and the module agree: memory holds just the list, with the module's root, and the counter is the module's.
use Rattle.std.specs.Prelude.{◌≡◌, List, ℕ}
use Rattle.paper.specs.Strings.{Dig}
use Rattle.runs.specs.Run.{World}
use Rattle.slots.specs.Nodes.{node_at}
use Rattle.rows.specs.declared.Row.{Row}
use Rattle.ringed.specs.Ringed.{list_of}
use Rattle.holding.specs.Holding.{Holds}
use Rattle.keeping.specs.Talking.{Tablet}

pub record Agrees (D : List ℕ → Dig) (w : World) (x : Tablet) : Type 0 where
  pub rows : List Row
  pub holds : Holds D rows x.leaves x.nodes x.count
  pub items : w.items ≡ list_of rows
  pub root : node_at x.nodes 1 ≡ w.registers.root
  pub counter : x.counter ≡ w.registers.counter
