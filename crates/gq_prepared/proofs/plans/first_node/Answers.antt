use Rattle.std.proofs.Common.{ap, ◌∙◌}
use Rattle.gq_model.specs.machine.Scenario.{Scenario}
use Rattle.gq_scenario.specs.Component_trees.{version_number}
use Rattle.gq_prepared.proofs.Planned_nodes.{leaf_there, leaf_node_is}
use Rattle.gq_prepared.proofs.plans.first_node.Goals as goal

pub first_leaf-requires-clause-there : goal.first_leaf-requires-clause-there
first_leaf-requires-clause-there c =
    leaf_there c.args.table.now c.args.node c.in-Some.leaf c.leaf.result c.requires.there c.leaf.ensures c.in-Some.is

pub returns-in-Some : goal.returns-in-Some
returns-in-Some c =
    leaf_node_is c.args.table.now c.args.node c.in-Some.leaf (version_number c.version.result) c.leaf.result c.given_in-quantum.result c.quantum.result
    c.first_leaf.result c.requires.there c.leaf.ensures c.in-Some.is c.given_in-quantum.ensures
    (c.version.ensures ∙ ap (λ (s : Scenario). s.version) c.scenario.ensures) c.quantum.ensures c.first_leaf.ensures
