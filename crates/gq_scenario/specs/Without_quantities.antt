-- Scenarios without their quantities.
use Rattle.gq_model.specs.machine.Amounts.{amount}
use Rattle.gq_model.specs.machine.Scenario.{Nodes, End, Leaf_node, Init_node, Scenario}
use Rattle.gq_program.specs.Interfaces.{all_unbounded}

-- nodes that are handed nothing
abbrev pub without_quanta : Nodes → Nodes
without_quanta End = End
without_quanta (Leaf_node node rest) = Leaf_node (record node { quantum = amount 0 0 }) (without_quanta rest)
without_quanta (Init_node node children rest) = Init_node (record node { quantum = amount 0 0 }) (without_quanta children) (without_quanta rest)

-- the scenario without its quantities; what the whole system has stays, since nothing is asked of it
abbrev pub unsized : Scenario → Scenario
unsized s = record s { interfaces = all_unbounded s.interfaces; nodes = without_quanta s.nodes }
