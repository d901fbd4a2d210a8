-- What is said of a scenario whose quantities are not judged.
use Rattle.std.specs.Prelude.{Option}
use Rattle.gq_model.specs.machine.Lists.{or_first}
use Rattle.gq_model.specs.machine.Scenario.{Scenario, components, system}
use Rattle.gq_model.specs.rules.Accept.{Refusal, budgets, not_resolved, program_refusal, steps_refusal}
use Rattle.gq_model.specs.rules.Resolve.{unresolved}
use Rattle.gq_load.specs.Load.{LoadRefusal, refused, sources_fault}

-- the first reason to refuse it, but for what leaves use of their own accounts
abbrev pub unsized_refusal : Scenario → Option Refusal
unsized_refusal s =
    let all = system s in
    or_first (program_refusal all all.components) (or_first (not_resolved (unresolved s)) (steps_refusal all.components (budgets s)))

-- the first fault: texts and codes, then what is judged
abbrev pub unsized_fault : Scenario → Option LoadRefusal
unsized_fault s = or_first (sources_fault (components s)) (refused (unsized_refusal s))
