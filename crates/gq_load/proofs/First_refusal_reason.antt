-- The first reason to refuse a scenario.
use Rattle.std.proofs.Common.{◌≡◌, ℕ, List, [], ◌∷◌, Option, Some, None, Result, Ok, Err, refl, ap, ◌∙◌, sym, subst}
use Rattle.std.specs.Prelude.{IfErr}
use Rattle.gq_model.specs.machine.Lists.{or_first}
use Rattle.gq_model.specs.machine.Amounts.{Ram, Caps}
use Rattle.gq_model.specs.machine.Scenario.{Scenario, System, Interfaces, Component, components, system}
use Rattle.gq_model.specs.rules.Resolve.{unresolved}
use Rattle.gq_model.specs.rules.Accept.{Refusal, Budget, not_resolved, program_refusal, own_refusal, steps_refusal, budgets, refusal}
use Rattle.gq_resolve.specs.Resolve_faults.{Finds}
use Rattle.gq_resolve.specs.declared.resolve_fault.ResolveError.{ResolveError}
use Rattle.gq_resolve.specs.declared.resolve_fault.ResolveError.TheVariants as resolve
use Rattle.gq_load.specs.internal.Judged_programs.{leaf_refusal, first_refusal}
use Rattle.gq_load.specs.internal.Saturated_budgets.{kept_from, budget_refusal}
use Rattle.gq_scenario.specs.Top_table.{scenario_in}
use Rattle.gq_load.specs.Load.{LoadRefusal, sources_fault, refused, scenario_fault, loaded_or, loaded_from, loaded}
use Rattle.gq_load.specs.Load_faults.{PrintsFault, Refuses, load_error_of}
use Rattle.gq_load.specs.declared.load_fault.LoadError.{LoadError}
use Rattle.gq_load.specs.declared.load_fault.LoadError.TheVariants as error
use Rattle.gq_load.proofs.Saturated_step_budgets.{own_kept, steps_kept, all_kept}
use Rattle.gq_load.proofs.First_leaves.{gives_either}

-- programs are judged by the interfaces alone
pub first_same : (system : System) (cs : List Component) → first_refusal system.interfaces cs ≡ program_refusal system cs
first_same system [] = refl
first_same system (c ∷ rest) = ap (or_first (leaf_refusal system.interfaces c)) (first_same system rest)

-- an error for one of several reasons is one for the first
pub gives_here : (e : LoadError) (a b : Option Refusal) → PrintsFault e (refused a) → PrintsFault e (refused (or_first a b))
gives_here error.Memory a b h = tt
gives_here (error.Fault f) None b h = absurd h
gives_here (error.Fault f) (Some why) b h = h

pub gives_next : (e : LoadError) (a b : Option Refusal) → a ≡ None → PrintsFault e (refused b) → PrintsFault e (refused (or_first a b))
gives_next e a b none h = subst (λ a. PrintsFault e (refused (or_first a b))) (sym none) h

pub none_both : (a b : Option Refusal) → a ≡ None → b ≡ None → or_first a b ≡ None
none_both a b e f = ap (λ a. or_first a b) e ∙ f

-- a program that is refused
pub for_program : (s : Scenario) (e : LoadError) → PrintsFault e (refused (first_refusal s.interfaces (components s))) → PrintsFault e (refused (refusal s))
for_program s e h =
    gives_here e (program_refusal (system s) (components s)) _ (subst (λ o. PrintsFault e (refused o)) (first_same (system s) (components s)) h)

pub programs_none : (s : Scenario) → first_refusal s.interfaces (components s) ≡ None → program_refusal (system s) (components s) ≡ None
programs_none s none = sym (first_same (system s) (components s)) ∙ none

-- a scenario that is not resolved
pub resolve_gives : (s : Scenario) (e : ResolveError) → Finds {A = Unit {0}} (Err e) (unresolved s)
    → PrintsFault (load_error_of e) (refused (not_resolved (unresolved s)))
resolve_gives s (resolve.Memory why) h = tt
resolve_gives s (resolve.Fault why) h = rw h refl

pub for_resolve : (s : Scenario) (e : ResolveError) → first_refusal s.interfaces (components s) ≡ None → Finds {A = Unit {0}} (Err e) (unresolved s)
    → PrintsFault (load_error_of e) (refused (refusal s))
for_resolve s e none h =
    gives_next (load_error_of e) (program_refusal (system s) (components s)) _ (programs_none s none)
    (gives_here (load_error_of e) (not_resolved (unresolved s)) _ (resolve_gives s e h))

-- budgets are too great just where they are as far as they are kept
budgets_same : (s : Scenario) → budget_refusal (components s) (kept_from s.version (system s) 0 (components s)) ≡ budget_refusal (components s) (budgets s)
budgets_same s =
    let cs = components s in
    let kept = kept_from s.version (system s) 0 cs in
    ap (λ o. or_first o (or_first (steps_refusal cs kept) (own_refusal Caps cs kept))) (own_kept Ram s.version (system s) 0 cs cs)
    ∙ (ap (λ o. or_first (own_refusal Ram cs (budgets s)) (or_first o (own_refusal Caps cs kept))) (steps_kept s.version (system s) 0 cs cs)
    ∙ ap (λ o. or_first (own_refusal Ram cs (budgets s)) (or_first (steps_refusal cs (budgets s)) o)) (own_kept Caps s.version (system s) 0 cs cs))

pub for_budgets : (s : Scenario) (e : LoadError) → first_refusal s.interfaces (components s) ≡ None → unresolved s ≡ None
    → PrintsFault e (refused (budget_refusal (components s) (kept_from s.version (system s) 0 (components s)))) → PrintsFault e (refused (refusal s))
for_budgets s e none resolved h =
    gives_next e (program_refusal (system s) (components s)) _ (programs_none s none)
    (gives_next e (not_resolved (unresolved s)) _ (ap not_resolved resolved) (subst (λ o. PrintsFault e (refused o)) (budgets_same s) h))

-- no reason at all
pub accepted : (s : Scenario) → first_refusal s.interfaces (components s) ≡ None → unresolved s ≡ None
    → budget_refusal (components s) (kept_from s.version (system s) 0 (components s)) ≡ None → refusal s ≡ None
accepted s none resolved fit =
    none_both (program_refusal (system s) (components s)) _ (programs_none s none)
    (none_both (not_resolved (unresolved s)) _ (ap not_resolved resolved) (sym (budgets_same s) ∙ fit))

or_none : (a b : Option Refusal) → or_first a b ≡ None → (a ≡ None) × (b ≡ None)
or_none None b e = (refl, e)
or_none (Some why) b e = absurd (some_none e)
  where
    some_none : {A : Type 0} {a : A} → Some a ≡ None → ⊥
    some_none e = cc

-- then budgets are kept as they are
pub kept_are : (s : Scenario) → budget_refusal (components s) (kept_from s.version (system s) 0 (components s)) ≡ None
    → kept_from s.version (system s) 0 (components s) ≡ budgets s
kept_are s fit =
    let cs = components s in
    let parts = or_none (own_refusal Ram cs (budgets s)) _ (sym (budgets_same s) ∙ fit) in
    all_kept s.version (system s) 0 cs (or_none (steps_refusal cs (budgets s)) _ parts.1).0

-- FAULTS OF A SCENARIO

pub fault_here : (e : LoadError) (a b : Option LoadRefusal) → PrintsFault e a → PrintsFault e (or_first a b)
fault_here error.Memory a b h = tt
fault_here (error.Fault f) None b h = absurd h
fault_here (error.Fault f) (Some why) b h = h

pub for_sources : (s : Scenario) (e : LoadError) → PrintsFault e (sources_fault (components s)) → PrintsFault e (scenario_fault s)
for_sources s e h = fault_here e (sources_fault (components s)) _ h

pub for_refusal : (s : Scenario) (e : LoadError) → sources_fault (components s) ≡ None → PrintsFault e (refused (refusal s)) → PrintsFault e (scenario_fault s)
for_refusal s e none h = subst (λ a. PrintsFault e (or_first a (refused (refusal s)))) (sym none) h

-- the first fault of the texts and codes, or the first rule that a program breaks
pub for_survey : (s : Scenario) (e : LoadError) → PrintsFault e (or_first (sources_fault (components s)) (refused (first_refusal s.interfaces (components s))))
    → PrintsFault e (scenario_fault s)
for_survey s e h =
    let o = sources_fault (components s) in
    gives_either e o (program_refusal (system s) (components s)) _
    (subst (λ (why : Option Refusal). PrintsFault e (or_first o (refused why))) (first_same (system s) (components s)) h)

pub faultless : (s : Scenario) → sources_fault (components s) ≡ None → refusal s ≡ None → scenario_fault s ≡ None
faultless s none accepted = ap (λ a. or_first a (refused (refusal s))) none ∙ ap refused accepted

-- what is said of these interfaces and leaves is said of the scenario's
pub of_scenario : (s : Scenario) (i : Interfaces) (cs : List Component) (P : Interfaces → List Component → Type 0) → i ≡ s.interfaces → cs ≡ components s
    → P i cs → P s.interfaces (components s)
of_scenario s i cs P e f h = subst (P s.interfaces) f (subst (λ i. P i cs) e h)

-- what is said of these leaves and budgets is said of those that are kept
pub of_kept : (s : Scenario) (cs : List Component) (bs : List Budget) (P : List Component → List Budget → Type 0) → cs ≡ components s
    → bs ≡ kept_from s.version (system s) 0 cs → P cs bs → P (components s) (kept_from s.version (system s) 0 (components s))
of_kept s cs bs P e f h = subst (λ cs. P cs (kept_from s.version (system s) 0 cs)) e (subst (P cs) f h)

-- a text whose scenario is refused is refused so
gives_refuses : (s : Scenario) (o : Option LoadRefusal) (e : LoadError) → PrintsFault e o → Refuses e (loaded_or s o)
gives_refuses s o error.Memory h = tt
gives_refuses s None (error.Fault f) h = h
gives_refuses s (Some fault) (error.Fault f) h = h

pub refuses_so : {A : Type 0} (text : List ℕ) (s : Scenario) (r : Result A LoadError) → scenario_in text ≡ Ok s
    → IfErr r (λ e. PrintsFault e (scenario_fault s)) →
    IfErr r (λ e. Refuses e (loaded text))
refuses_so text s (Ok a) is h = tt
refuses_so text s (Err e) is h = subst (λ (l : Result Scenario LoadRefusal). Refuses e l) (sym (ap loaded_from is)) (gives_refuses s (scenario_fault s) e h)

-- a text is refused by the first fault of its scenario
pub refuses_or : (s : Scenario) (e : LoadError) (o : Option LoadRefusal) → PrintsFault e o → Refuses e (loaded_or s o)
refuses_or s error.Memory None h = tt
refuses_or s error.Memory (Some fault) h = tt
refuses_or s (error.Fault f) None h = h
refuses_or s (error.Fault f) (Some fault) h = h
