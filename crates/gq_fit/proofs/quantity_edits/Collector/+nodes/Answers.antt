use Rattle.std.proofs.Common.{ap, rules}
use Rattle.std.proofs.lemmas.Result.{IfErr-weaker, err_from_is_err_and}
use Rattle.gq_scenario.specs.Component_trees.{version_number}
use Rattle.gq_fit.proofs.Due_quantities.{init_first, init_rest, node_first, nodes_rest}
use Rattle.gq_fit.proofs.quantity_edits.Collector.+nodes.Goals as goal

pub nodes-returns-in_err-left-clause-due : goal.nodes-returns-in_err-left-clause-due
nodes-returns-in_err-left-clause-due t c =
    let p = err_from_is_err_and c.from_residual-in_err-left.result c.from_residual-in_err-left.ensures.1 in
    rw (p.1, p.2) (node_first (version_number c.args.self.now.version) c.args.nodes.now c.node-item.result c.args.least.now c.args.least.now
    c.in-len1-up.len_at_least c.node-item.is c.in_err-left.field-0.0 c.in_err-left.ensures.due)

pub nodes-returns-clause-due : goal.nodes-returns-clause-due
nodes-returns-clause-due t c =
    IfErr-weaker c.nodes.result _ _ (nodes_rest (version_number c.args.self.now.version) (version_number c.node.new.self.version) c.args.nodes.now
    c.node-item.result c.args.least.now c.in_ok-left.left.now c.in-len1-up.len_at_least c.node-item.is (ap version_number c.in_ok-left.ensures.version)
    c.in_ok-left.ensures.left) c.nodes.ensures.due

pub node-returns-in_err-left-in-Init-clause-due : goal.node-returns-in_err-left-in-Init-clause-due
node-returns-in_err-left-in-Init-clause-due t c =
    let p = err_from_is_err_and c.from_residual.result c.from_residual.ensures.1 in
    rw (p.1, p.2) (init_first (version_number c.args.self.now.version) c.args.node.now c.in-Init.init c.in-Init.children c.name-in-Init.result.now
    c.quantum-in-Init.result c.args.least.now c.in-Init.is c.name-in-Init.ensures c.quantum-in-Init.ensures c.in_err-left-in-Init.field-0.0
    c.in_err-left-in-Init.ensures.due)

pub node-returns-in_ok-list-in-Init-clause-due : goal.node-returns-in_ok-list-in-Init-clause-due
node-returns-in_ok-list-in-Init-clause-due t c =
    IfErr-weaker c.nodes-in-Init.result _ _ (init_rest (version_number c.args.self.now.version) c.args.node.now c.in-Init.init c.in-Init.children
    c.name-in-Init.result.now c.quantum-in-Init.result c.args.least.now c.in-Init.is c.name-in-Init.ensures c.quantum-in-Init.ensures
    (version_number c.quantum-in-Init-2.new.self.version) _ c.in_ok-left-in-Init.left.now (ap version_number c.in_ok-left-in-Init.ensures.version)
    (search rules) c.in_ok-left-in-Init.ensures.left) c.nodes-in-Init.ensures.due
