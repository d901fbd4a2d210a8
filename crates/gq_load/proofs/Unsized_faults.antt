-- The first reason to refuse a scenario that no quantity decides.
use Rattle.std.proofs.Common.{◌≡◌, None, ap, ◌∙◌, sym, subst}
use Rattle.gq_model.specs.machine.Lists.{or_first}
use Rattle.gq_model.specs.machine.Scenario.{Scenario, components, system}
use Rattle.gq_model.specs.rules.Accept.{budgets, not_resolved, program_refusal, steps_refusal}
use Rattle.gq_model.specs.rules.Resolve.{unresolved}
use Rattle.std.specs.Prelude.{Err}
use Rattle.gq_resolve.specs.Resolve_faults.{Finds}
use Rattle.gq_resolve.specs.declared.resolve_fault.ResolveError.{ResolveError}
use Rattle.gq_load.specs.Load_faults.{PrintsFault, load_error_of}
use Rattle.gq_load.specs.Load.{refused, sources_fault}
use Rattle.gq_load.specs.Unsized_judgement.{unsized_fault, unsized_refusal}
use Rattle.gq_load.specs.internal.Saturated_budgets.{kept_from}
use Rattle.gq_load.specs.internal.Judged_programs.{first_refusal}
use Rattle.gq_load.specs.declared.load_fault.LoadError.{LoadError}
use Rattle.gq_load.proofs.Saturated_step_budgets.{all_kept, steps_kept}
use Rattle.gq_load.proofs.First_refusal_reason.{first_same, fault_here, gives_here, gives_next, none_both, programs_none, resolve_gives}

-- a program that is refused
pub unsized_program : (s : Scenario) (e : LoadError) → PrintsFault e (refused (first_refusal s.interfaces (components s)))
    → PrintsFault e (refused (unsized_refusal s))
unsized_program s e h =
    gives_here e (program_refusal (system s) (components s)) _ (subst (λ o. PrintsFault e (refused o)) (first_same (system s) (components s)) h)

-- a scenario that is not resolved
pub unsized_resolve : (s : Scenario) (e : ResolveError) → first_refusal s.interfaces (components s) ≡ None → Finds {A = Unit {0}} (Err e) (unresolved s)
    → PrintsFault (load_error_of e) (refused (unsized_refusal s))
unsized_resolve s e none h =
    gives_next (load_error_of e) (program_refusal (system s) (components s)) _ (programs_none s none)
    (gives_here (load_error_of e) (not_resolved (unresolved s)) _ (resolve_gives s e h))

-- a leaf that may take too many steps
pub unsized_steps : (s : Scenario) (e : LoadError) → first_refusal s.interfaces (components s) ≡ None → unresolved s ≡ None
    → PrintsFault e (refused (steps_refusal (components s) (kept_from s.version (system s) 0 (components s)))) → PrintsFault e (refused (unsized_refusal s))
unsized_steps s e none resolved h =
    gives_next e (program_refusal (system s) (components s)) _ (programs_none s none)
    (gives_next e (not_resolved (unresolved s)) _ (ap not_resolved resolved)
    (subst (λ o. PrintsFault e (refused o)) (steps_kept s.version (system s) 0 (components s) (components s)) h))

fit_all : (s : Scenario) → steps_refusal (components s) (kept_from s.version (system s) 0 (components s)) ≡ None
    → steps_refusal (components s) (budgets s) ≡ None
fit_all s fit = sym (steps_kept s.version (system s) 0 (components s) (components s)) ∙ fit

-- no reason at all
pub unsized_accepted : (s : Scenario) → first_refusal s.interfaces (components s) ≡ None → unresolved s ≡ None
    → steps_refusal (components s) (kept_from s.version (system s) 0 (components s)) ≡ None → unsized_refusal s ≡ None
unsized_accepted s none resolved fit =
    none_both (program_refusal (system s) (components s)) _ (programs_none s none)
    (none_both (not_resolved (unresolved s)) _ (ap not_resolved resolved) (fit_all s fit))

-- then budgets are kept as they are
pub unsized_kept : (s : Scenario) → steps_refusal (components s) (kept_from s.version (system s) 0 (components s)) ≡ None
    → kept_from s.version (system s) 0 (components s) ≡ budgets s
unsized_kept s fit = all_kept s.version (system s) 0 (components s) (fit_all s fit)

-- FAULTS

pub unsized_sources : (s : Scenario) (e : LoadError) → PrintsFault e (sources_fault (components s)) → PrintsFault e (unsized_fault s)
unsized_sources s e h = fault_here e (sources_fault (components s)) _ h

pub unsized_judged : (s : Scenario) (e : LoadError) → sources_fault (components s) ≡ None → PrintsFault e (refused (unsized_refusal s))
    → PrintsFault e (unsized_fault s)
unsized_judged s e none h = subst (λ a. PrintsFault e (or_first a (refused (unsized_refusal s)))) (sym none) h

pub unsized_faultless : (s : Scenario) → sources_fault (components s) ≡ None → unsized_refusal s ≡ None → unsized_fault s ≡ None
unsized_faultless s none accepted = ap (λ a. or_first a (refused (unsized_refusal s))) none ∙ ap refused accepted
