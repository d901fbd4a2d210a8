use Rattle.std.proofs.Common.{◌∙◌, ap, sym}
use Rattle.std.proofs.lemmas.Result.{err_from_is_err_and}
use Rattle.gq_load.specs.Load_faults.{PrintsFault}
use Rattle.gq_load.specs.internal.Judged_programs.{first_refusal}
use Rattle.gq_load.specs.Load.{refused, sources_fault}
use Rattle.gq_load.proofs.First_refusal_reason.{for_program, for_refusal, of_scenario}
use Rattle.gq_load.proofs.accepted.judge_scenario.Goals as goal

pub returns-in_err-surveys-clause-refused : goal.returns-in_err-surveys-clause-refused
returns-in_err-surveys-clause-refused c =
    let s = c.args.scenario.now in
    let e = c.in_err-surveys.field-0.0 in
    let p = err_from_is_err_and c.from_residual-in_err-surveys.result c.from_residual-in_err-surveys.ensures.1 in
    let h = of_scenario s c.interfaces.result.now c.as_slice-2.result.now (λ i cs. PrintsFault e (refused (first_refusal i cs))) c.interfaces.ensures
    (c.as_slice-2.ensures.value ∙ c.in_ok-components.ensures) c.in_err-surveys.ensures.refused in
    let none = sym (ap sources_fault (c.as_slice.ensures.value ∙ c.in_ok-components.ensures)) ∙ c.in_ok-programs.ensures.faultless in
    rw (p.1, p.2) (for_refusal s e none (for_program s e h))
