use Rattle.std.proofs.Common.{◌+◌, ap, sym, ◌∙◌, arith}
use Rattle.gq_model.specs.machine.Accounts.{leaf_count}
use Rattle.gq_model.specs.machine.Scenario.{Scenario}
use Rattle.gq_scenario.proofs.Tree_counts.{counted_some}
use Rattle.gq_scenario.proofs.Preorder_leaves.{components-count}
use Rattle.gq_scenario.proofs.scenario.Scenario.leaf_count.Goals as goal

pub returns-clause-count : goal.returns-clause-count
returns-clause-count c =
    let (count, few) = counted_some (0 + leaf_count c.self.inside.nodes) c.in-Some.count (sym c.in-Some.is ∙ c.count_leaves.ensures) in
    let nodes = ap (λ (s : Scenario). leaf_count s.nodes) c.self.view_is in
    omega (arith, count, nodes, components-count c.args.self.now)
