use Rattle.std.proofs.Common.{◌≡◌, drop}
use Rattle.toml.specs.View.{items_view}
use Rattle.gq_model.specs.machine.Lists.{all_of}
use Rattle.gq_scenario.specs.Table_keys.{is_table, listed}
use Rattle.gq_reader.proofs.rules.are_tables.Given as goal

abbrev pub invariant-loop-value : goal.invariant-loop-value
invariant-loop-value l = all_of is_table (listed (items_view (drop l.value-index l.values))) ≡ all_of is_table (listed (items_view l.values))
