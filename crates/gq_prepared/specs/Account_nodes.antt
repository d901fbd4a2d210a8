-- The nodes of a scenario, as `Trades` has them.
use Rattle.std.specs.Prelude.{◌≡◌, ℕ, if◌then◌else◌, List, length, map, get_or, option_map, slice_get, Option, Some, None}
use Rattle.gq_tariff.specs.declared.amount.Amount.{Amount}
use Rattle.gq_model.specs.machine.Routes.{numbered}
use Rattle.gq_model.specs.machine.Scenario.{Scenario, Component, components}
use Rattle.gq_scenario.specs.Sizes.{leaf_places}
use Rattle.gq_resolve.specs.NodeTables.{NodeRow, node_rows, number_named}
use Rattle.gq_trade.specs.declared.trade_node.Stage.TheVariants.{Live}
use Rattle.gq_trade.specs.Balances.{node_at}
use Rattle.gq_trade.specs.Trades.{Trades}
use Rattle.gq_model.specs.machine.Amounts.{counts_caps}

abbrev pub or_zero : Option ℕ → ℕ
or_zero None = 0
or_zero (Some n) = n

-- the node above each node; the root, which has none, has 0
abbrev pub parents_of : Scenario → List ℕ
parents_of s = map (λ (r : NodeRow). or_zero r.parent) (node_rows s)

-- the bytes of the object of a session, for each service
abbrev pub objects_of : Scenario → List ℕ
objects_of s = map (λ e. e.1.object) s.interfaces

-- the capabilities that there are, where they are counted
abbrev pub caps_of : Scenario → Option ℕ
caps_of s = if counts_caps s.version then Some s.total.caps else None

-- what a node is given, of what is counted
abbrev pub given_in : ℕ → Amount → Amount
given_in version a = record { ram = a.ram; caps = if counts_caps version then a.caps else 0 }

-- the place of the leaf that a leaf starts after, among the nodes
abbrev pub node_after : Scenario → Component → Option ℕ
node_after s c =
    option_map (λ y. get_or (leaf_places 1 s.nodes) y 0) (number_named c.node.after (λ name. numbered 0 name (components s)))

-- These are the nodes of the scenario, whatever the leaves do: each with what it is given, an init live, a leaf with what it starts after.
pub record AreNodesOf (s : Scenario) (w : Trades) : Type 0 where
  pub parents : w.trading.tree.parents ≡ parents_of s
  pub leaves : w.trading.leaves ≡ leaf_places 1 s.nodes
  pub objects : w.trading.objects ≡ objects_of s
  pub price : w.trading.ledger.price ≡ (if counts_caps s.version then 1 else 0)
  pub count : length w.nodes ≡ length (node_rows s)
  pub quanta : (n : ℕ) (r : NodeRow) → slice_get (node_rows s) n ≡ Some r → (node_at w.nodes n).quantum ≡ given_in s.version r.quantum
  pub inits : (n : ℕ) (r : NodeRow) → slice_get (node_rows s) n ≡ Some r → r.leaf ≡ None → (node_at w.nodes n).stage ≡ Live
  pub none_after : (n : ℕ) (r : NodeRow) → slice_get (node_rows s) n ≡ Some r → r.leaf ≡ None → (node_at w.nodes n).after ≡ None
  pub after : (x : ℕ) (c : Component) → slice_get (components s) x ≡ Some c
      → (node_at w.nodes (get_or (leaf_places 1 s.nodes) x 0)).after ≡ node_after s c
