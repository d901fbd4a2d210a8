-- What the plan of a scenario is.
use Rattle.std.specs.Prelude.{◌≡◌, ℕ, List, length, get_or, slice_get, Option, Some, None}
use Rattle.gq_model.specs.machine.Scenario.{Scenario, Component, components}
use Rattle.gq_scenario.specs.Sizes.{leaf_places}
use Rattle.gq_resolve.specs.NodeTables.{NodeRow, node_rows}
use Rattle.gq_trade.specs.declared.trade_node.NodeState.{NodeState}
use Rattle.gq_trade.specs.declared.trade_node.Stage.{Stage}
use Rattle.gq_trade.specs.declared.trade_node.Stage.TheVariants.{Pending, Live}
use Rattle.gq_trade.specs.Balances.{node_at}
use Rattle.gq_prepared.specs.Account_nodes.{parents_of, objects_of, given_in, node_after}

-- a leaf that starts after another is pending at first
abbrev pub first_stage : Option (List ℕ) → Stage
first_stage None = Live
first_stage (Some name) = Pending

-- These are the parents, the nodes, the leaves and the objects of a scenario: each node with what it is given, an init live, a leaf live where it starts after
-- no other.
pub record IsPlanOf (s : Scenario) (ps : List ℕ) (ns : List NodeState) (xs os : List ℕ) : Type 0 where
  pub parents : ps ≡ parents_of s
  pub leaves : xs ≡ leaf_places 1 s.nodes
  pub objects : os ≡ objects_of s
  pub count : length ns ≡ length (node_rows s)
  pub quanta : (n : ℕ) (r : NodeRow) → slice_get (node_rows s) n ≡ Some r → (node_at ns n).quantum ≡ given_in s.version r.quantum
  pub inits : (n : ℕ) (r : NodeRow) → slice_get (node_rows s) n ≡ Some r → r.leaf ≡ None → (node_at ns n).stage ≡ Live
  pub none_after : (n : ℕ) (r : NodeRow) → slice_get (node_rows s) n ≡ Some r → r.leaf ≡ None → (node_at ns n).after ≡ None
  pub after : (x : ℕ) (c : Component) → slice_get (components s) x ≡ Some c → (node_at ns (get_or (leaf_places 1 s.nodes) x 0)).after ≡ node_after s c
  pub stages : (x : ℕ) (c : Component) → slice_get (components s) x ≡ Some c
      → (node_at ns (get_or (leaf_places 1 s.nodes) x 0)).stage ≡ first_stage c.node.after
