-- A scenario with the least quantities in place of its own, and what is said of it.
use Rattle.std.specs.Prelude.{◌≡◌, ℕ, suc, ◌+◌, ◌-◌, ◌%◌, ◌≤◌, if◌then◌else◌, List, [], ◌∷◌, length, Some, true, false}
use Rattle.gq_model.specs.machine.Accounts.{leaf_count}
use Rattle.gq_model.specs.machine.Amounts.{Ram, Caps, Amount, amount, counts_caps}
use Rattle.gq_model.specs.machine.Scenario.{Interface, Interfaces, Nodes, End, Leaf_node, Init_node, Scenario, System, system, interface_in}
use Rattle.gq_model.specs.rules.Kinds.{need_of}
use Rattle.gq_laws.specs.Sound_scenarios.{IsSound}
use Rattle.gq_sizes.specs.Size.{Gift, all_gifts, all_short, children_least, least_at, least_caps, ram_sum, root_least}
use Rattle.gq_sizes.specs.Endless.{NodesEnd, NoneEndless, children_endless}
use Rattle.gq_scenario.specs.Without_quantities.{unsized}

-- capabilities are 0 where the version counts none
abbrev pub caps_of : ℕ → ℕ → ℕ
caps_of version n = if counts_caps version then n else 0

-- what sessions of a service need, up to a level
abbrev pub sum_at : ℕ → System → List Gift → List ℕ → Interface → ℕ → Amount
sum_at version all given service i l = amount (ram_sum all given service i l) (caps_of version (least_caps all service l))

abbrev pub beyond : Amount → Amount → Amount
beyond a b = amount (a.ram - b.ram) (a.caps - b.caps)

-- the least upgrades from the l-th on, in place of these
abbrev pub least_upgrades : (ℕ → Amount) → ℕ → List Amount → List Amount
least_upgrades sum l [] = []
least_upgrades sum l (a ∷ rest) = beyond (sum (suc l)) (sum l) ∷ least_upgrades sum (suc l) rest

abbrev pub least_interface : (ℕ → Amount) → Interface → Interface
least_interface sum i = record i { need = sum 0; upgrades = least_upgrades sum 0 i.upgrades }

abbrev pub least_interfaces : ℕ → System → List Gift → Interfaces → Interfaces
least_interfaces version all given [] = []
least_interfaces version all given (e ∷ rest) =
    (e.0, least_interface (sum_at version all given e.0 e.1) e.1) ∷ least_interfaces version all given rest

-- nodes with the least quanta, of which the first leaf is the x-th
abbrev pub least_nodes : ℕ → System → ℕ → Nodes → Nodes
least_nodes version all x End = End
least_nodes version all x (Leaf_node node rest) =
    Leaf_node (record node { quantum = amount (least_at Ram all x) (caps_of version (least_at Caps all x)) }) (least_nodes version all (suc x) rest)
least_nodes version all x (Init_node node children rest) =
    Init_node (record node { quantum = amount (children_least Ram all x children) (caps_of version (children_least Caps all x children)) })
    (least_nodes version all x children) (least_nodes version all (x + leaf_count children) rest)

-- the scenario with the least quantities in place of its own
abbrev pub sized : Scenario → Scenario
sized s =
    let all = system (unsized s) in
    let given = all_gifts all all.components in
    record s {
      total =
          amount (root_least Ram (children_least Ram all 0 s.nodes)) (caps_of s.version (root_least Caps (children_least Caps all 0 s.nodes)));
      interfaces = least_interfaces s.version all given s.interfaces;
      nodes = least_nodes s.version all 0 s.nodes;
    }

-- a scenario is another with the least quantities, and enough capabilities can be given to each node of it
pub record IsSized (made s : Scenario) : Type 0 where
  pub same : made ≡ sized s
  pub root : counts_caps s.version ≡ true → children_endless (system (unsized s)) 0 s.nodes ≡ false
  pub nodes : counts_caps s.version ≡ true → NodesEnd (system (unsized s)) 0 s.nodes

-- WHAT IS REPORTED OF A SCENARIO

-- the lines of the `open` statements that are short
abbrev pub shorts_of : Scenario → List ℕ
shorts_of s = let all = system (unsized s) in all_short all (all_gifts all all.components) all.components

-- no `open` is short
abbrev pub NoneShort : Scenario → Type 0
NoneShort s = shorts_of s ≡ []

-- these quantities are no greater than those
pub record IsWithin (least has : Amount) : Type 0 where
  pub ram : least.ram ≤ has.ram
  pub caps : least.caps ≤ has.caps

-- of each node
abbrev pub NodesWithin : Nodes → Nodes → Type 0
NodesWithin End End = Unit {0}
NodesWithin (Leaf_node m rest) (Leaf_node n others) = IsWithin m.quantum n.quantum × NodesWithin rest others
NodesWithin (Init_node m children rest) (Init_node n others more) = IsWithin m.quantum n.quantum × NodesWithin children others × NodesWithin rest more
NodesWithin _ _ = ⊥

-- of an interface the sums up to each level, of a node its own, are not less in the second scenario than in the first
pub record AreEnough (least s : Scenario) : Type 0 where
  pub sums : (service : List ℕ) (i j : Interface) → interface_in service s.interfaces ≡ Some i → interface_in service least.interfaces ≡ Some j → (l : ℕ)
      → l ≤ length i.upgrades → IsWithin (need_of j l) (need_of i l)
  pub total : IsWithin least.total s.total
  pub nodes : NodesWithin least.nodes s.nodes

-- the root has whole pages, at least one, and a capability where they are counted
pub record HasWholePages (s : Scenario) : Type 0 where
  pub least : 4096 ≤ s.total.ram
  pub whole : s.total.ram % 4096 ≡ 0
  pub caps : counts_caps s.version ≡ true → 1 ≤ s.total.caps

-- LAWS

-- of a scenario that is accepted no `open` is short, none of the least capabilities is none, and its numbers are not less than the least ones
pub record HasLeast (s : Scenario) : Type 0 where
  pub opens : NoneShort s
  pub ends : NoneEndless s
  pub numbers : AreEnough (sized s) s

-- with the least quantities in place of its own it is accepted, and its root has whole pages
pub record IsAcceptedSized (s : Scenario) : Type 0 where
  pub sound : IsSound (sized s)
  pub pages : HasWholePages (sized s)
