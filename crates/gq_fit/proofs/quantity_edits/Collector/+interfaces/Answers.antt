use Rattle.std.specs.Prelude.{get_or}
use Rattle.std.proofs.Common.{◌≤◌, ap, arith, length, rules}
use Rattle.std.proofs.lemmas.Grind.{common_steps}
use Rattle.std.proofs.lemmas.Result.{IfErr-weaker, err_from_is_err_and}
use Rattle.gq_scenario.specs.Component_trees.{version_number}
use Rattle.gq_fit.proofs.Due_quantities.{row_first, row_rest}
use Rattle.gq_fit.proofs.quantity_edits.Collector.+interfaces.Goals as goal

pub returns-in_err-interface-clause-due : goal.returns-in_err-interface-clause-due
returns-in_err-interface-clause-due t c =
    let p = err_from_is_err_and c.from_residual.result c.from_residual.ensures.1 in
    let one : 1 ≤ length c.args.interfaces.now = grind (arith, common_steps) in
    let some : 1 ≤ length c.args.least.now = grind (arith, common_steps) in
    let all = c.args.interfaces.now in
    rw (p.1, p.2) (row_first (version_number c.args.self.now.version) all c.args.least.now (get_or all 0 c.index-name-0.result).0
    (get_or all 0 c.index-interface-0.result).1 _ one (search rules) (search rules) some (search rules) c.in_err-interface.field-0.0
    c.in_err-interface.ensures.due)

pub returns-clause-due : goal.returns-clause-due
returns-clause-due t c =
    let one : 1 ≤ length c.args.interfaces.now = grind (arith, common_steps) in
    let some : 1 ≤ length c.args.least.now = grind (arith, common_steps) in
    IfErr-weaker c.interfaces.result _ _ (row_rest (version_number c.args.self.now.version) (version_number c.interface.new.self.version)
    c.args.interfaces.now c.args.least.now (ap version_number c.in_ok-interface.ensures.version) one some) c.interfaces.ensures.due
