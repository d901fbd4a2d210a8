use Rattle.std.proofs.Common.{◌∙◌, ap, arith, codes}
use Rattle.gq_model.specs.machine.Accounts.{leaf_count}
use Rattle.gq_model.specs.rules.Accept.{budgets}
use Rattle.gq_views.proofs.Printed_boxes.{root_box}
use Rattle.gq_views.proofs.graph.push_root.Goals as goal

pub push_cluster-requires-clause-leaves : goal.push_cluster-requires-clause-leaves
push_cluster-requires-clause-leaves c = omega (arith, ap leaf_count c.nodes.ensures, c.bounds.ensures.count)

pub returns : goal.returns
returns c =
    let s = c.args.drawn.now in
    root_box s.version (budgets s) (codes "init") c.args.text.now.items c.push_cluster.new.text.items c.total.result s.total c.nodes.result.now s.nodes
    (c.total.ensures ∙ ap (λ s. s.total) c.scenario-scenario.ensures) (c.nodes.ensures ∙ ap (λ s. s.nodes) c.scenario-scenario.ensures)
    c.in_ok-push_cluster.ensures.lines
