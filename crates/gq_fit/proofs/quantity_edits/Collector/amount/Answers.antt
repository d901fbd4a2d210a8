use Rattle.std.proofs.lemmas.Result.{err_from_is_err_and}
use Rattle.std.proofs.Common.{[], ◌∷◌, ◌∙◌, Some, ap}
use Rattle.gq_model.specs.machine.Amounts.{counts_caps}
use Rattle.gq_scenario.specs.Component_trees.{version_number}
use Rattle.gq_fit.specs.Reasons.{quantity}
use Rattle.gq_fit.proofs.Due_quantities.{error_caps, error_first}
use Rattle.gq_fit.proofs.quantity_edits.Collector.amount.Goals as goal

pub returns-in_err-number-clause-due : goal.returns-in_err-number-clause-due
returns-in_err-number-clause-due c =
    let p = err_from_is_err_and c.from_residual.result c.from_residual.ensures.1 in
    rw (p.1, p.2) (error_first c.in_err-number.field-0.0 (quantity c.args.key c.args.name.now c.args.has.ram (Some c.args.least.ram) ∷ []) _
    c.in_err-number.ensures.due)

pub returns-in_err-number-2-clause-due : goal.returns-in_err-number-2-clause-due
returns-in_err-number-2-clause-due c =
    let p = err_from_is_err_and c.from_residual-in_err-number-2.result c.from_residual-in_err-number-2.ensures.1 in
    rw (p.1, p.2) (error_caps c.in_err-number-2.field-0.0 (version_number c.args.self.now.version) c.counts_caps.result
    (quantity c.args.key c.args.name.now c.args.has.ram (Some c.args.least.ram)) (quantity c.args.caps_key c.args.name.now c.args.has.caps c.args.least.caps)
    c.if-counts_caps.true (c.counts_caps.ensures ∙ ap (λ v. counts_caps (version_number v)) c.in_ok-number.ensures.version) c.in_err-number-2.ensures.due)
