use Rattle.std.proofs.Common.{rules}
use Rattle.std.proofs.lemmas.Result.{err_from_is_err_and}
use Rattle.gq_scenario.specs.Component_trees.{version_number}
use Rattle.gq_fit.proofs.Due_quantities.{quantum_first}
use Rattle.gq_fit.proofs.quantity_edits.Collector.quantum.Goals as goal

pub returns-in_err-amount-clause-due : goal.returns-in_err-amount-clause-due
returns-in_err-amount-clause-due c =
    let p = err_from_is_err_and c.from_residual.result c.from_residual.ensures.1 in
    rw (p.1, p.2) (quantum_first (version_number c.args.self.now.version) c.args.name.now c.args.quantum c.amount_of.result c.args.least.now _
    c.in-len1-up.len_at_least (search rules) c.amount_of.ensures c.in_err-amount.field-0.0 c.in_err-amount.ensures.due)
