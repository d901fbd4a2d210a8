-- The tree of components, as code has it.
use Rattle.std.specs.Prelude.{◌≡◌, ℕ, List, [], ◌∷◌}
use Rattle.gq_model.specs.machine.Scenario.{Nodes, End, Leaf_node, Init_node}
use Rattle.gq_scenario.specs.declared.scenario.Version.{Version}
use Rattle.gq_scenario.specs.declared.scenario.Version.TheVariants.{One, Two, Three, Four}
use Rattle.gq_scenario.specs.declared.scenario.Node.{Node}
use Rattle.gq_scenario.specs.declared.scenario.Node.TheVariants.{Leaf, Init}

abbrev pub version_number : Version → ℕ
version_number One = 1
version_number Two = 2
version_number Three = 3
version_number Four = 4

-- a node before others
abbrev pub before : Node → Nodes → Nodes
before (Leaf node) rest = Leaf_node node rest
before (Init node children) rest = Init_node node children rest

-- a node before any others is what f makes of these
pub record IsBefore (node : Node) (f : Nodes → Nodes) : Type 0 where
  pub is : (rest : Nodes) → before node rest ≡ f rest

-- these nodes before others
abbrev pub onto : List Node → Nodes → Nodes
onto [] rest = rest
onto (node ∷ nodes) rest = before node (onto nodes rest)

abbrev pub nodes_of : List Node → Nodes
nodes_of nodes = onto nodes End
