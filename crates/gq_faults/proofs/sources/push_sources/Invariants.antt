use Rattle.std.proofs.Common.{◌≡◌, ◌++◌, map, drop}
use Rattle.gq_load.specs.Load.{fault_text, source_fault}
use Rattle.gq_model.specs.machine.Scenario.{Component}
use Rattle.gq_faults.specs.Found_lists.{all_found, listed_if}
use Rattle.gq_faults.specs.Found_lines.{lines_found}
use Rattle.gq_faults.proofs.sources.push_sources.Given as goal

abbrev pub invariant-loop-place : goal.invariant-loop-place
invariant-loop-place l = lines_found l.found.items ++ map fault_text (all_found (λ (c : Component). listed_if
    (source_fault c.node.name c.node.source)) (drop l.place l.components))
    ≡ lines_found l.fn.found.items ++ map fault_text (all_found (λ (c : Component). listed_if (source_fault c.node.name c.node.source)) l.components)
