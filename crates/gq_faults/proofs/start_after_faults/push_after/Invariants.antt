use Rattle.std.proofs.Common.{◌≡◌, ◌++◌, [], map, take, drop}
use Rattle.gq_model.specs.texts.Fault_texts.{unresolved_text}
use Rattle.gq_resolve.specs.internal.Afters.{named_by}
use Rattle.gq_faults.specs.Scenario_faults.{after_faults}
use Rattle.gq_faults.specs.Found_lines.{lines_found}
use Rattle.gq_faults.proofs.start_after_faults.push_after.Given as goal

abbrev pub invariant-loop-place : goal.invariant-loop-place
invariant-loop-place l =
    lines_found l.found.items ++ map unresolved_text (after_faults l.components (named_by [] (take l.place l.components)) (drop l.place l.components))
    ≡ lines_found l.fn.found.items ++ map unresolved_text (after_faults l.components [] l.components)
