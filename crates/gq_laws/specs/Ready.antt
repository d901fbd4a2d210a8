-- Scenarios that can be run with tests, whether they are accepted or not.
use Rattle.std.specs.Prelude.{◌≡◌, ℕ, false, List, Some, slice_get, slice_index_or}
use Rattle.gq_model.specs.machine.Amounts.{amount, counts_caps}
use Rattle.gq_model.specs.machine.Scenario.{Interface, Nodes, End, Leaf_node, Init_node, Scenario, Component, components, interface_in}
use Rattle.gq_laws.specs.Resolved_scenarios.{IsResolved}

-- no node is given capabilities
abbrev pub AreWithoutCaps : Nodes → Type 0
AreWithoutCaps End = Unit {0}
AreWithoutCaps (Leaf_node node rest) = (node.quantum.caps ≡ 0) × AreWithoutCaps rest
AreWithoutCaps (Init_node node children rest) = (node.quantum.caps ≡ 0) × AreWithoutCaps children × AreWithoutCaps rest

-- a service needs none, neither at first nor for an upgrade
pub record IsWithoutCaps (i : Interface) : Type 0 where
  pub need : i.need.caps ≡ 0
  pub upgrades : (level : ℕ) → (slice_index_or i.upgrades level (amount 0 0)).caps ≡ 0

-- no capability is given anywhere
pub record IsUncounted (s : Scenario) : Type 0 where
  pub nodes : AreWithoutCaps s.nodes
  pub interfaces : (service : List ℕ) (i : Interface) → interface_in service s.interfaces ≡ Some i → IsWithoutCaps i

-- a service that a leaf provides has an interface
abbrev pub AreDeclared : Scenario → Type 0
AreDeclared s = (x : ℕ) (c : Component) (service : List ℕ) → slice_get (components s) x ≡ Some c → c.node.provides ≡ Some service
    → (i : Interface) × (interface_in service s.interfaces ≡ Some i)

-- What a reader of scenarios makes sure of, beside what every scenario has: capabilities are given in version 2 alone, and a service that is provided has an
-- interface.
pub record IsRead (s : Scenario) : Type 0 where
  pub uncounted : counts_caps s.version ≡ false → IsUncounted s
  pub declared : AreDeclared s

-- and it is resolved: quanta fit, leaves start after fitting siblings, routes lead to leaves without cycle
pub record IsReady (s : Scenario) : Type 0 where
  pub read : IsRead s
  pub resolved : IsResolved s
