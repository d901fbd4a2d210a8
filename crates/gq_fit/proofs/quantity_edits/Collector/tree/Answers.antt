use Rattle.std.proofs.Common.{◌≤◌, ◌∙◌, ap, arith, length, rules}
use Rattle.std.proofs.lemmas.Grind.{common_steps}
use Rattle.std.proofs.lemmas.Result.{err_from_is_err_and}
use Rattle.gq_scenario.specs.Component_trees.{version_number}
use Rattle.gq_fit.proofs.Due_quantities.{root_first, root_rest}
use Rattle.gq_fit.proofs.quantity_edits.Collector.tree.Goals as goal

pub returns-in_err-amount : goal.returns-in_err-amount
returns-in_err-amount c =
    let p = err_from_is_err_and c.from_residual.result c.from_residual.ensures.1 in
    let some : 1 ≤ length c.args.least.now = grind (arith, common_steps) in
    rw (p.1, p.2) (root_first c.args.scenario.now c.args.least.now _ (version_number c.args.self.now.version) _ c.amount_of-total.result some
    (search rules) c.requires (search rules) (search rules) c.in_err-amount.field-0.0 c.in_err-amount.ensures.due)

pub returns-in_err-nodes : goal.returns-in_err-nodes
returns-in_err-nodes c =
    let p = err_from_is_err_and c.from_residual-in_err-nodes.result c.from_residual-in_err-nodes.ensures.1 in
    let some : 1 ≤ length c.args.least.now = grind (arith, common_steps) in
    rw (p.1, p.2) (root_rest c.args.scenario.now c.args.least.now (version_number c.amount.new.self.version) _ some
    (ap version_number c.in_ok-amount.ensures.version ∙ c.requires) (search rules) c.in_err-nodes.field-0.0 c.in_err-nodes.ensures.due)
