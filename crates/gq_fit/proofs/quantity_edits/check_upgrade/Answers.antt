use Rattle.std.proofs.Common.{[], ◌∷◌, Some}
use Rattle.std.proofs.lemmas.Result.{err_from_is_err_and}
use Rattle.gq_scenario.specs.declared.key.Key.TheVariants.{Upgrades, UpgradeCaps}
use Rattle.gq_fit.specs.declared.fit_fault.MakeError.TheVariants as errors
use Rattle.gq_scenario.specs.Component_trees.{version_number}
use Rattle.gq_fit.specs.Reasons.{quantity}
use Rattle.gq_fit.proofs.Due_quantities.{error_caps, error_first}
use Rattle.gq_fit.proofs.quantity_edits.check_upgrade.Goals as goal

pub returns-in_err-taken : goal.returns-in_err-taken
returns-in_err-taken c =
    let p = err_from_is_err_and c.from_residual.result c.from_residual.ensures.1 in
    let e = errors.Misfit c.in_err-taken.field-0.0 in
    rw (p.1, p.2)
    (λ has. error_first e (quantity Upgrades c.args.name.now has.ram (Some c.args.least.ram) ∷ []) _ (c.in_err-taken.ensures has.ram))

pub returns-in_err-taken-2 : goal.returns-in_err-taken-2
returns-in_err-taken-2 c =
    let p = err_from_is_err_and c.from_residual-in_err-taken-2.result c.from_residual-in_err-taken-2.ensures.1 in
    rw (p.1, p.2) (λ has. error_caps (errors.Misfit c.in_err-taken-2.field-0.0) (version_number c.args.version) c.counts_caps.result
    (quantity Upgrades c.args.name.now has.ram (Some c.args.least.ram)) (quantity UpgradeCaps c.args.name.now has.caps c.args.least.caps)
    c.if-counts_caps.true c.counts_caps.ensures (c.in_err-taken-2.ensures has.caps))
