use Rattle.std.proofs.Common.{arith}
use Rattle.gq_scenario.proofs.Nodes_counted.{few_nodes, leaves_and_inits}
use Rattle.gq_scenario.proofs.Preorder_leaves.{components-count}
use Rattle.gq_scenario.proofs.scenario.Scenario.bounds.Goals as goal

pub returns-clause-count : goal.returns-clause-count
returns-clause-count c = (few_nodes c.args.self.now c.laws.ensures.few).0

pub returns-clause-leaves : goal.returns-clause-leaves
returns-clause-leaves c = omega (arith, (few_nodes c.args.self.now c.laws.ensures.few).0, components-count c.args.self.now)

pub returns-clause-nodes : goal.returns-clause-nodes
returns-clause-nodes c =
    let few = few_nodes c.args.self.now c.laws.ensures.few in omega (arith, few.0, few.1, leaves_and_inits c.args.self.now.nodes)
