use Rattle.std.proofs.Common.{ap, map, ◌∙◌}
use Rattle.gq_load.specs.Load.{fault_text}
use Rattle.gq_faults.specs.Scenario_faults.{scenario_faults}
use Rattle.gq_faults.specs.Found_lines.{lines_found}
use Rattle.gq_faults.proofs.Reported_fault_prefixes.{reported_as, memory_ends}
use Rattle.gq_faults.proofs.Reported_texts.{path_reported}
use Rattle.gq_faults.proofs.faults.report_scenario.Goals as goal

pub returns : goal.returns
returns g c =
    let lines = map fault_text (scenario_faults c.args.scenario.now) in
    path_reported lines _ _ _ _ c.in_ok-reporter.reporter.path.now c.args.file.path.now _ c.in_ok-reporter.ensures
    (reported_as c.in_ok-reporter.reporter.path.now (lines_found c.as_slice.result.now) lines _ _ _ _ _
    (ap lines_found c.as_slice.ensures.value ∙ c.in_ok-found.ensures) c.report_each.ensures)

pub returns-in_err-found : goal.returns-in_err-found
returns-in_err-found g c =
    memory_ends c.args.file.path.now (map fault_text (scenario_faults c.args.scenario.now)) _ _ c.from_residual.result c.from_residual.ensures.1

pub returns-in_err-reporter : goal.returns-in_err-reporter
returns-in_err-reporter g c =
    memory_ends c.args.file.path.now (map fault_text (scenario_faults c.args.scenario.now)) _ _
    c.from_residual-in_err-reporter.result c.from_residual-in_err-reporter.ensures.1
