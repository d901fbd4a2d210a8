use Rattle.std.proofs.Common.{◌≡◌, ◌∙◌, None, ap, length, refl}
use Rattle.std.proofs.lemmas.Result.{err_from_is_err_and}
use Rattle.gq_model.specs.machine.Scenario.{system}
use Rattle.gq_load.specs.internal.Saturated_budgets.{kept_from, budget_refusal}
use Rattle.gq_load.specs.Load_faults.{PrintsFault}
use Rattle.gq_load.specs.internal.Judged_programs.{first_refusal}
use Rattle.gq_load.specs.Load.{refused}
use Rattle.gq_load.specs.declared.load_fault.LoadError.TheVariants as error
use Rattle.gq_load.proofs.Saturated_step_budgets.{kept_count}
use Rattle.gq_load.proofs.First_refusal_reason.{for_resolve, for_budgets, accepted, kept_are, of_scenario, of_kept}
use Rattle.gq_load.proofs.accepted.judge.Goals as goal

pub returns-in_err-routes-clause-refused : goal.returns-in_err-routes-clause-refused
returns-in_err-routes-clause-refused c =
    let s = c.args.scenario.now in
    let e = c.in_err-routes.field-0.0 in
    let p = err_from_is_err_and c.from_residual.result c.from_residual.ensures.1 in
    let none = of_scenario s s.interfaces c.args.components.now (λ i cs. first_refusal i cs ≡ None) refl c.requires.components c.requires.right in
    rw (p.1, p.2) (for_resolve s e none c.in_err-routes.ensures.fault)

pub check_budgets-requires : goal.check_budgets-requires
check_budgets-requires c =
    let s = c.args.scenario.now in
    ap length (c.as_slice-2.ensures.value ∙ c.in_ok-budgets.ensures) ∙ kept_count s.version (system s) 0 c.args.components.now

pub returns-in_err-check_budgets-clause-refused : goal.returns-in_err-check_budgets-clause-refused
returns-in_err-check_budgets-clause-refused c =
    let s = c.args.scenario.now in
    let e = error.Fault c.in_err-check_budgets.field-0.0 in
    let p = err_from_is_err_and c.from_residual-in_err-check_budgets.result c.from_residual-in_err-check_budgets.ensures.1 in
    let none = of_scenario s s.interfaces c.args.components.now (λ i cs. first_refusal i cs ≡ None) refl c.requires.components c.requires.right in
    let bs = c.as_slice-2.ensures.value ∙ c.in_ok-budgets.ensures in
    let h = of_kept s c.args.components.now c.as_slice-2.result.now
    (λ cs bs. PrintsFault e (refused (budget_refusal cs bs))) c.requires.components bs c.in_err-check_budgets.ensures.refused in
    rw (p.1, p.2) (for_budgets s e none c.in_ok-routes.ensures.fault h)

pub returns-clause-budgets : goal.returns-clause-budgets
returns-clause-budgets c =
    let s = c.args.scenario.now in
    let bs = c.as_slice-2.ensures.value ∙ c.in_ok-budgets.ensures in
    let fit = of_kept s c.args.components.now c.as_slice-2.result.now
    (λ cs bs. budget_refusal cs bs ≡ None) c.requires.components bs c.in_ok-check_budgets.ensures.none in
    c.in_ok-budgets.ensures ∙ (ap (kept_from s.version (system s) 0) c.requires.components ∙ kept_are s fit)

pub returns-clause-accepted : goal.returns-clause-accepted
returns-clause-accepted c =
    let s = c.args.scenario.now in
    let none = of_scenario s s.interfaces c.args.components.now (λ i cs. first_refusal i cs ≡ None) refl c.requires.components c.requires.right in
    let bs = c.as_slice-2.ensures.value ∙ c.in_ok-budgets.ensures in
    let fit = of_kept s c.args.components.now c.as_slice-2.result.now
    (λ cs bs. budget_refusal cs bs ≡ None) c.requires.components bs c.in_ok-check_budgets.ensures.none in
    accepted s none c.in_ok-routes.ensures.fault fit
