use Rattle.std.proofs.Common.{◌≡◌, ◌++◌, map, drop}
use Rattle.gq_model.specs.machine.Scenario.{System}
use Rattle.gq_model.specs.texts.Fault_texts.{unresolved_text}
use Rattle.gq_faults.specs.Scenario_faults.{cycles}
use Rattle.gq_faults.specs.Found_lines.{lines_found}
use Rattle.gq_faults.proofs.route_faults.push_all_reached.Given as goal

abbrev pub invariant-loop-place : goal.invariant-loop-place
invariant-loop-place l =
    (all : System) → all.components ≡ l.components
    → lines_found l.found.items ++ map unresolved_text (cycles all l.place (drop l.place l.components))
    ≡ lines_found l.fn.found.items ++ map unresolved_text (cycles all 0 l.components)
