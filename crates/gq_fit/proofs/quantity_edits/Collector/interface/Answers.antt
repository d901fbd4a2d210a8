use Rattle.std.proofs.Common.{ap, rules}
use Rattle.std.proofs.lemmas.Result.{IfErr-weaker, err_from_is_err_and}
use Rattle.gq_scenario.specs.Component_trees.{version_number}
use Rattle.gq_fit.proofs.Due_quantities.{need_first, need_rest}
use Rattle.gq_fit.proofs.quantity_edits.Collector.interface.Goals as goal

pub returns-in_err-amount-clause-due : goal.returns-in_err-amount-clause-due
returns-in_err-amount-clause-due c =
    let p = err_from_is_err_and c.from_residual.result c.from_residual.ensures.1 in
    rw (p.1, p.2) (need_first (version_number c.args.self.now.version) c.args.name.now c.args.interface.now c.args.least.now _ c.in-len1-up.len_at_least
    (search rules) c.need_of.result c.need_of.ensures c.in_err-amount.field-0.0 c.in_err-amount.ensures.due)

pub returns-clause-due : goal.returns-clause-due
returns-clause-due c =
    IfErr-weaker c.upgrades-2.result _ _ (need_rest (version_number c.args.self.now.version) (version_number c.amount.new.self.version) c.args.name.now
    c.args.interface.now c.args.least.now c.upgrades.result.now (ap version_number c.in_ok-amount.ensures.version) c.upgrades.ensures.upgrades
    c.in-len1-up.len_at_least) c.upgrades-2.ensures.due
