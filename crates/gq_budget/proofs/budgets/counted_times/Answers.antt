use Rattle.std.proofs.Common.{◌≡◌, List, ◌∙◌, map, ap, suc, [], length}
use Rattle.gq_budget.specs.Causes.{cause_of}
use Rattle.gq_budget.specs.internal.Run_rounds.{Used, rounds}
use Rattle.gq_budget.proofs.Saturated_run_counts.{times_kept}
use Rattle.gq_budget.proofs.Route_use_relation.{as_many}
use Rattle.gq_budget.proofs.budgets.counted_times.Goals as goal

pub returns : goal.returns
returns c = λ system h agree.
    let ns = c.args.leaves.now in
    let leads = map (λ v. v.items) c.args.leads.now in
    let cause = cause_of c.args.cause in
    c.in_ok-often.ensures
    ∙ (ap (λ (u : Used). rounds cause (suc u.longest) u.asks []) c.in_ok-uses.ensures
    ∙ times_kept cause system ns h leads agree (length ns) (as_many system ns system.components h))
