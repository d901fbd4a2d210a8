-- An init's children are smaller than the list that it stands in.
use Rattle.std.specs.Prelude.{◌≤◌, List, [], ◌∷◌}
use Rattle.std.proofs.Common.{arith}
use denote.Param.Weighed.{most}
use Rattle.gq_scenario.specs.Sizes.{node_count}
use Rattle.gq_scenario.specs.Component_trees.{nodes_of}
use Rattle.gq_scenario.specs.declared.scenario.Node.{Node}
use Rattle.gq_scenario.specs.declared.scenario.Node.TheVariants.{Leaf, Init}
use Rattle.gq_scenario.specs.declared.scenario.Nodes.TheDeep.{deep-Node}

pub falls : (items : List Node) → most deep-Node items ≤ node_count (nodes_of items)
falls [] = omega arith
falls (Leaf node ∷ rest) = omega (arith, falls rest)
falls (Init node children ∷ rest) = omega (arith, falls rest)
