use Rattle.std.proofs.Common.{◌≡◌, ◌++◌, map, drop}
use Rattle.gq_model.specs.texts.Fault_texts.{unresolved_text}
use Rattle.gq_faults.specs.Scenario_faults.{routes_lost}
use Rattle.gq_faults.specs.Found_lines.{lines_found}
use Rattle.gq_faults.proofs.route_faults.push_routes.Given as goal

abbrev pub invariant-loop-place : goal.invariant-loop-place
invariant-loop-place l =
    lines_found l.found.items ++ map unresolved_text (routes_lost (drop l.place l.components))
    ≡ lines_found l.fn.found.items ++ map unresolved_text (routes_lost l.components)
