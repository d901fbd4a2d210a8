use Rattle.std.proofs.Common.{◌≡◌, ◌++◌, List, [], drop, get_or}
use Rattle.gq_model.specs.machine.Scenario.{Interface, System}
use Rattle.gq_scenario.specs.Component_trees.{version_number}
use Rattle.gq_verify.specs.Saturated_numbers.{saturated}
use Rattle.gq_sizes.specs.Size.{Gift, least_caps, ram_sum}
use Rattle.gq_sizes.specs.Endless.{is_endless}
use Rattle.gq_sizes.specs.Passing.{tests}
use Rattle.gq_sizes.specs.Saturated_tables.{row}
use Rattle.gq_sizes.specs.internal.Printed_sizes.{upgrade_lines}
use Rattle.gq_sizes.proofs.interface_lines.push_upgrades.Given as goal

-- the lines so far, with those of the upgrades that are left, are all
abbrev pub invariant-loop-level : goal.invariant-loop-level
invariant-loop-level l =
    (all : System) (given : List Gift) (i : Interface) → get_or l.sums.ram.items l.place [] ≡ row (ram_sum all given l.service i) →
    get_or l.sums.caps.items l.place [] ≡ row (λ k. saturated (least_caps all l.service k)) →
    get_or l.sums.endless.items l.place [] ≡ tests (is_endless all l.service) →
    l.text.items ++ upgrade_lines (version_number l.version) all given l.service i l.level (drop l.level l.upgrades)
    ≡ l.fn.text.items ++ upgrade_lines (version_number l.version) all given l.service i 0 l.upgrades
