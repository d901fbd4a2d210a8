use Rattle.std.proofs.Common.{◌≡◌, ◌++◌, List, drop}
use Rattle.gq_model.specs.machine.Scenario.{System}
use Rattle.gq_sizes.specs.Least_numbers.{interface_rows}
use Rattle.gq_sizes.specs.Passing.{endless_rows}
use Rattle.gq_sizes.specs.Saturated_tables.{caps_rows, ram_rows}
use Rattle.gq_sizes.specs.Size.{Gift}
use Rattle.gq_sizes.proofs.leasts.least_interfaces.Given as goal

-- the rows so far, with those of the interfaces that are left, are all
abbrev pub invariant-loop-place : goal.invariant-loop-place
invariant-loop-place l =
    (all : System) (given : List Gift) → l.sums.ram.items ≡ ram_rows all given l.interfaces → l.sums.caps.items ≡ caps_rows all l.interfaces →
    l.sums.endless.items ≡ endless_rows all l.interfaces →
    l.least.items ++ interface_rows all given (drop l.place l.interfaces) ≡ interface_rows all given l.interfaces
