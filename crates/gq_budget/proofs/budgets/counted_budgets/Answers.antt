use Rattle.std.proofs.Common.{◌≡◌, List, ℕ, ◌∙◌, map, ap, sym, suc, [], length}
use Rattle.gq_model.specs.rules.Use.{Cause, The_start}
use Rattle.gq_budget.specs.internal.Run_rounds.{Used, rounds, budgets_by}
use Rattle.gq_budget.specs.internal.Signal_steps.{steps_by, signal_tables, joined}
use Rattle.gq_budget.proofs.Joined_step_budgets.{budgets_joined}
use Rattle.gq_budget.proofs.Saturated_run_counts.{cause_steps, times_kept, steps_kept}
use Rattle.gq_budget.proofs.Route_use_relation.{as_many}
use Rattle.gq_budget.proofs.budgets.counted_budgets.Goals as goal

pub returns : goal.returns
returns c = λ system h agree.
    let ns = c.args.leaves.now in
    let leads = map (λ v. v.items) c.args.leads.now in
    let used = c.in_ok-uses.uses in
    let same : (cause : Cause) → steps_by ns used cause ≡ cause_steps cause system 0 system.components =
    λ cause.
    ap (λ (u : Used). budgets_by ns (rounds cause (suc u.longest) u.asks [])) c.in_ok-uses.ensures
    ∙ (ap (budgets_by ns) (times_kept cause system ns h leads agree (length ns) (as_many system ns system.components h)) ∙ steps_kept cause system ns h) in
    let tables = ap (map (λ t. t.items)) c.as_slice.ensures.value ∙ c.in_ok-tables.ensures in
    c.in_ok-budgets.ensures
    ∙ (ap (λ starts. joined 0 starts (map (λ t. t.items) c.as_slice.result.now)) c.in_ok-starts.ensures
    ∙ (ap (joined 0 (steps_by ns used The_start)) tables ∙ budgets_joined system ns used same h))
