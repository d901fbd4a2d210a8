use Rattle.std.proofs.Common.{◌≡◌, ◌∙◌, None, ap, length, refl}
use Rattle.std.proofs.lemmas.Result.{err_from_is_err_and}
use Rattle.gq_model.specs.machine.Scenario.{system}
use Rattle.gq_model.specs.rules.Accept.{steps_refusal}
use Rattle.gq_load.specs.internal.Saturated_budgets.{kept_from}
use Rattle.gq_load.specs.Load_faults.{PrintsFault}
use Rattle.gq_load.specs.internal.Judged_programs.{first_refusal}
use Rattle.gq_load.specs.Load.{refused}
use Rattle.gq_load.specs.declared.load_fault.LoadError.TheVariants as error
use Rattle.gq_load.proofs.Saturated_step_budgets.{kept_count}
use Rattle.gq_load.proofs.First_refusal_reason.{of_scenario, of_kept}
use Rattle.gq_load.proofs.Unsized_faults.{unsized_accepted, unsized_kept, unsized_resolve, unsized_steps}
use Rattle.gq_load.proofs.unsized_scenarios.judge_steps.Goals as goal

pub returns-in_err-routes-clause-refused : goal.returns-in_err-routes-clause-refused
returns-in_err-routes-clause-refused c =
    let s = c.args.scenario.now in
    let e = c.in_err-routes.field-0.0 in
    let p = err_from_is_err_and c.from_residual.result c.from_residual.ensures.1 in
    let none = of_scenario s s.interfaces c.args.components.now (λ i cs. first_refusal i cs ≡ None) refl c.requires.components c.requires.right in
    rw (p.1, p.2) (unsized_resolve s e none c.in_err-routes.ensures.fault)

pub check_over-requires : goal.check_over-requires
check_over-requires c =
    let s = c.args.scenario.now in
    ap length (c.as_slice-2.ensures.value ∙ c.in_ok-budgets.ensures) ∙ kept_count s.version (system s) 0 c.args.components.now

pub returns-in_err-check_over-clause-refused : goal.returns-in_err-check_over-clause-refused
returns-in_err-check_over-clause-refused c =
    let s = c.args.scenario.now in
    let e = error.Fault c.in_err-check_over.field-0.0 in
    let p = err_from_is_err_and c.from_residual-in_err-check_over.result c.from_residual-in_err-check_over.ensures.1 in
    let none = of_scenario s s.interfaces c.args.components.now (λ i cs. first_refusal i cs ≡ None) refl c.requires.components c.requires.right in
    let bs = c.as_slice-2.ensures.value ∙ c.in_ok-budgets.ensures in
    let h = of_kept s c.args.components.now c.as_slice-2.result.now
    (λ cs bs. PrintsFault e (refused (steps_refusal cs bs))) c.requires.components bs c.in_err-check_over.ensures.refused in
    rw (p.1, p.2) (unsized_steps s e none c.in_ok-routes.ensures.fault h)

pub returns-clause-budgets : goal.returns-clause-budgets
returns-clause-budgets c =
    let s = c.args.scenario.now in
    let bs = c.as_slice-2.ensures.value ∙ c.in_ok-budgets.ensures in
    let fit = of_kept s c.args.components.now c.as_slice-2.result.now
    (λ cs bs. steps_refusal cs bs ≡ None) c.requires.components bs c.in_ok-check_over.ensures.none in
    c.in_ok-budgets.ensures ∙ (ap (kept_from s.version (system s) 0) c.requires.components ∙ unsized_kept s fit)

pub returns-clause-accepted : goal.returns-clause-accepted
returns-clause-accepted c =
    let s = c.args.scenario.now in
    let none = of_scenario s s.interfaces c.args.components.now (λ i cs. first_refusal i cs ≡ None) refl c.requires.components c.requires.right in
    let bs = c.as_slice-2.ensures.value ∙ c.in_ok-budgets.ensures in
    let fit = of_kept s c.args.components.now c.as_slice-2.result.now
    (λ cs bs. steps_refusal cs bs ≡ None) c.requires.components bs c.in_ok-check_over.ensures.none in
    unsized_accepted s none c.in_ok-routes.ensures.fault fit
