-- What is heard, and memory then, by the two tests: whether the reply is as awaited, and whether its line commits.
use mathlib.Core.Path.{◌≡◌, refl}
use mathlib.Core.Bool.{true, false}
use mathlib.Core.List.{List}
use Prim.Native.Nat.{ℕ}
use Rattle.paper.specs.declared.Revision.{Revision}
use Rattle.paper.specs.Strings.{Dig}
use Rattle.asking.specs.declared.Talk.{Talk}
use Rattle.asking.specs.Parts.{part_at}
use Rattle.hearing.specs.declared.Heard.{Heard}
use Rattle.hearing.specs.Awaiting.{as_awaited}
use Rattle.hearing.specs.Hearing.{committing, committed_leaves, committed_nodes, not_awaited, answered_by, committed_talk, accepts, leaves_heard, nodes_heard, heard_from}

module _ (D : List ℕ → Dig) (t : Talk) (k : ℕ) (c : Revision) (reply leaves nodes : List ℕ) where
  -- the three that `hear` promises
  abbrev pub Promised : Heard → (leaves' nodes' : List ℕ) → Type 0
  Promised h l n =
      (h ≡ heard_from D t k c reply leaves nodes) × (l ≡ leaves_heard t reply leaves) × (n ≡ nodes_heard D t reply nodes)

  pub not_heard : as_awaited t reply ≡ false → Promised (not_awaited t k c reply) leaves nodes
  unfolding heard_from leaves_heard nodes_heard accepts
  not_heard e = rw e (refl, refl, refl)

  pub going_heard : as_awaited t reply ≡ true → committing (part_at t.plan.script t.step) ≡ false
      → Promised (answered_by (part_at t.plan.script t.step) t k c reply) leaves nodes
  unfolding heard_from leaves_heard nodes_heard accepts
  going_heard e f = rw (e, f) (refl, refl, refl)

  pub committed_heard : as_awaited t reply ≡ true → committing (part_at t.plan.script t.step) ≡ true
      → Promised (committed_talk D t (committed_leaves t.plan leaves) (committed_nodes D t.plan nodes))
      (committed_leaves t.plan leaves) (committed_nodes D t.plan nodes)
  unfolding heard_from leaves_heard nodes_heard accepts
  committed_heard e f = rw (e, f) (refl, refl, refl)
