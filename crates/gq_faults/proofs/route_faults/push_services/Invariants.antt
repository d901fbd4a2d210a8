use Rattle.std.proofs.Common.{◌≡◌, ◌++◌, map, drop}
use Rattle.gq_model.specs.texts.Fault_texts.{unresolved_text}
use Rattle.gq_faults.specs.Scenario_faults.{services_lost}
use Rattle.gq_faults.specs.Found_lines.{lines_found}
use Rattle.gq_faults.proofs.route_faults.push_services.Given as goal

abbrev pub invariant-loop-service : goal.invariant-loop-service
invariant-loop-service l =
    lines_found l.found.items ++ map unresolved_text (services_lost l.component (drop l.service-index l.services))
    ≡ lines_found l.fn.found.items ++ map unresolved_text (services_lost l.component l.services)
