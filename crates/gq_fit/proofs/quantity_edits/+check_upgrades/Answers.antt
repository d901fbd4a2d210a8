use Rattle.std.proofs.Common.{◌≤◌, arith, length, rules}
use Rattle.std.proofs.lemmas.Grind.{common_steps}
use Rattle.std.proofs.lemmas.Result.{IfErr-weaker, err_from_is_err_and}
use Rattle.gq_scenario.specs.Component_trees.{version_number}
use Rattle.gq_fit.proofs.Due_quantities.{upgrade_first, upgrade_rest}
use Rattle.gq_fit.proofs.quantity_edits.+check_upgrades.Goals as goal

pub returns-in_err-check_upgrade : goal.returns-in_err-check_upgrade
returns-in_err-check_upgrade t c =
    let p = err_from_is_err_and c.from_residual.result c.from_residual.ensures.1 in
    let one : 1 ≤ length c.args.upgrades.now = grind (arith, common_steps) in
    let some : 1 ≤ length c.args.least.now = grind (arith, common_steps) in
    rw (p.1, p.2) (upgrade_first (version_number c.args.version) c.args.name.now c.args.upgrades.now c.args.least.now c._upgrade-item.result _ one
    c._upgrade-item.is some (search rules) c.in_err-check_upgrade.field-0.0 (c.in_err-check_upgrade.ensures c._upgrade-item.result))

pub returns : goal.returns
returns t c =
    let one : 1 ≤ length c.args.upgrades.now = grind (arith, common_steps) in
    let some : 1 ≤ length c.args.least.now = grind (arith, common_steps) in
    IfErr-weaker c.check_upgrades.result _ _ (upgrade_rest (version_number c.args.version) c.args.name.now c.args.upgrades.now c.args.least.now one some)
    c.check_upgrades.ensures
