use Rattle.std.proofs.Common.{◌≡◌}
use Rattle.toml.specs.View.{members_view, table_view}
use Rattle.gq_scenario.specs.Document.{interfaces_fault}
use Rattle.gq_scenario.specs.Component_trees.{version_number}
use Rattle.gq_reader.proofs.first_fault_walk.interfaces_fault.Given as goal

abbrev pub invariant-loop-value : goal.invariant-loop-value
invariant-loop-value l =
    goal.iterator-loop-value.can_next l.value-iterator × goal.iterator-loop-value.is_finite l.value-iterator
    × (interfaces_fault (version_number l.version) (members_view l.value-iterator) ≡ interfaces_fault (version_number l.version) (table_view l.interfaces))
