use Rattle.std.proofs.Common.{◌≡◌, ◌++◌, List, drop}
use Rattle.gq_model.specs.machine.Scenario.{System}
use Rattle.gq_scenario.specs.Component_trees.{version_number}
use Rattle.gq_sizes.specs.Size.{Gift}
use Rattle.gq_sizes.specs.Passing.{endless_rows}
use Rattle.gq_sizes.specs.Saturated_tables.{caps_rows, ram_rows}
use Rattle.gq_sizes.specs.internal.Printed_sizes.{interface_lines}
use Rattle.gq_sizes.proofs.interface_lines.push_interfaces.Given as goal

-- the lines so far, with those of the interfaces that are left, are all
abbrev pub invariant-loop-place : goal.invariant-loop-place
invariant-loop-place l =
    (all : System) (given : List Gift) → l.sums.ram.items ≡ ram_rows all given l.interfaces → l.sums.caps.items ≡ caps_rows all l.interfaces →
    l.sums.endless.items ≡ endless_rows all l.interfaces →
    l.text.items ++ interface_lines (version_number l.version) all given (drop l.place l.interfaces)
    ≡ l.fn.text.items ++ interface_lines (version_number l.version) all given l.interfaces
