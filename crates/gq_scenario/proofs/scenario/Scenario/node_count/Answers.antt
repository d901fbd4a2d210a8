use Rattle.std.proofs.Common.{◌+◌, ap, sym, ◌∙◌, arith}
use Rattle.gq_model.specs.machine.Accounts.{leaf_count}
use Rattle.gq_scenario.specs.Document.{init_count}
use Rattle.gq_scenario.proofs.Tree_counts.{counted_some}
use Rattle.gq_scenario.proofs.Nodes_counted.{leaves_and_inits}
use Rattle.gq_scenario.proofs.scenario.Scenario.node_count.Goals as goal

pub returns-clause-count : goal.returns-clause-count
returns-clause-count c =
    let some = c.in-Some-Some in
    let leaves = counted_some (0 + leaf_count c.nodes.result.now) some.leaves (sym some.is-0 ∙ c.count_leaves-leaves.ensures) in
    let inits = counted_some (0 + init_count c.nodes-2.result.now) some.inits (sym some.is-1 ∙ c.count_inits-inits.ensures) in
    let a = leaves.0 in
    let b = inits.0 in
    let same = ap leaf_count c.nodes.ensures in
    let others = ap init_count c.nodes-2.ensures in
    omega (arith, a, b, same, others, leaves_and_inits c.args.self.now.nodes)
