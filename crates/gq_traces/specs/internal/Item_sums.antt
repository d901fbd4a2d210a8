-- What the items of leaves and inits add up to in a world.
use Rattle.std.specs.Prelude.{◌≡◌, ℕ, ◌+◌, true, List, Some, None, slice_get}
use Rattle.gq_model.specs.machine.Accounts.{Account, accounts}
use Rattle.gq_model.specs.machine.Amounts.{Resource, part}
use Rattle.gq_model.specs.machine.Scenario.{Component, Scenario, components, system}
use Rattle.gq_model.specs.machine.Sums.{held, quota}
use Rattle.gq_model.specs.machine.World.{Leaf, World}
use Rattle.gq_model.specs.Promises.{EachOf}
use Rattle.gq_resolve.specs.NodeTables.{NodeRow, node_rows}
use Rattle.gq_traces.specs.Account_state.{Given, Handed, Held, Lent, Received, init_items, is_live, leaf_items}
use Rattle.gq_traces.specs.Made_of.{sum_of}

-- of the x-th leaf: what it holds is what it has used; what it is given and what it receives are its quota and what it lends
pub record LeafAdds (s : Scenario) (w : World) (x : ℕ) (c : Component) (leaf : Leaf) (r : Resource) : Type 0 where
  pub used : sum_of Held r (leaf_items (system s) w x c leaf leaf.phase) ≡ held r w x leaf
  pub quota_is : sum_of Given r (leaf_items (system s) w x c leaf leaf.phase) + sum_of Received r (leaf_items (system s) w x c leaf leaf.phase)
      ≡ quota r w x c leaf + sum_of Lent r (leaf_items (system s) w x c leaf leaf.phase)

-- of each leaf that lives, of each resource that is counted
abbrev pub LeavesAdd : Scenario → World → Type 0
LeavesAdd s w = (x : ℕ) (c : Component) (leaf : Leaf) → slice_get (components s) x ≡ Some c → slice_get w.leaves x ≡ Some leaf → is_live leaf.phase ≡ true
    → EachOf (system s).counted (LeafAdds s w x c leaf)

-- of the n-th node, an init: what it is given, it has or hands on
abbrev pub InitAdds : Scenario → World → ℕ → NodeRow → Account → Resource → Type 0
InitAdds s w n node a r =
    sum_of Given r (init_items w n node (node_rows s)) ≡ part r a.quota + sum_of Handed r (init_items w n node (node_rows s))

-- of each init, with its account, of each resource that is counted
abbrev pub InitsAdd : Scenario → World → Type 0
InitsAdd s w = (reported : List ℕ) (n : ℕ) (node : NodeRow) (a : Account) → slice_get (node_rows s) n ≡ Some node → slice_get (accounts s w reported) n ≡ Some a
    → node.leaf ≡ None → EachOf (system s).counted (InitAdds s w n node a)
