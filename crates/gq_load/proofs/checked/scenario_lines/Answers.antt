use Rattle.std.proofs.Common.{◌∙◌, ap, sym, length, arith}
use Rattle.std.proofs.lemmas.Result.{err_from_is_err_and}
use Rattle.gq_model.specs.machine.Lists.{or_first}
use Rattle.gq_model.specs.machine.Scenario.{components, system}
use Rattle.gq_model.proofs.Component_laws.{budgets_count}
use Rattle.gq_load.specs.Load_faults.{PrintsFault}
use Rattle.gq_load.specs.internal.Judged_programs.{first_refusal}
use Rattle.gq_load.specs.Load.{refused, sources_fault}
use Rattle.gq_load.proofs.First_refusal_reason.{for_survey, of_scenario}
use Rattle.gq_load.proofs.Signal_line_steps.{accepted_small}
use Rattle.gq_load.specs.internal.Small_budgets.{all_small}
use Rattle.gq_load.proofs.checked.scenario_lines.Goals as goal

pub returns-in_err-surveys-clause-refused : goal.returns-in_err-surveys-clause-refused
returns-in_err-surveys-clause-refused c =
    let s = c.args.scenario.now in
    let e = c.in_err-surveys.field-0.0 in
    let p = err_from_is_err_and c.from_residual-in_err-surveys.result c.from_residual-in_err-surveys.ensures.1 in
    let h = of_scenario s c.interfaces.result.now c.as_slice.result.now (λ i cs. PrintsFault e (or_first (sources_fault cs) (refused (first_refusal i cs))))
    c.interfaces.ensures (c.as_slice.ensures.value ∙ c.in_ok-components.ensures) c.in_err-surveys.ensures.refused in
    rw (p.1, p.2) (for_survey s e h)

pub component_lines-requires : goal.component_lines-requires
component_lines-requires c =
    let s = c.args.scenario.now in
    ap length (c.as_slice-4.ensures.value ∙ c.in_ok-_routes.ensures.budgets)
    ∙ (budgets_count s.version (system s) 0 (components s) ∙ sym (ap length (c.as_slice-3.ensures.value ∙ c.in_ok-components.ensures)))

pub push_signal_lines-requires-clause-as_many : goal.push_signal_lines-requires-clause-as_many
push_signal_lines-requires-clause-as_many c =
    let s = c.args.scenario.now in
    ap length (c.as_slice-6.ensures.value ∙ c.in_ok-_routes.ensures.budgets)
    ∙ (budgets_count s.version (system s) 0 (components s) ∙ sym (ap length (c.as_slice-5.ensures.value ∙ c.in_ok-components.ensures)))

pub push_signal_lines-requires-clause-small : goal.push_signal_lines-requires-clause-small
push_signal_lines-requires-clause-small c =
    let s = c.args.scenario.now in
    ap all_small (c.as_slice-6.ensures.value ∙ c.in_ok-_routes.ensures.budgets)
    ∙ accepted_small s c.in_ok-_routes.ensures.accepted (budgets_count s.version (system s) 0 (components s))

pub push_signal_lines-requires-clause-few : goal.push_signal_lines-requires-clause-few
push_signal_lines-requires-clause-few c =
    let s = c.args.scenario.now in
    let count = ap length (c.as_slice-6.ensures.value ∙ c.in_ok-_routes.ensures.budgets) ∙ budgets_count s.version (system s) 0 (components s) in
    omega (arith, count, c.bounds.ensures.leaves)
