use Rattle.std.proofs.Common.{◌≡◌, ◌++◌, true, drop, length}
use Rattle.toml.specs.View.{items_view}
use Rattle.gq_model.specs.machine.Lists.{all_of}
use Rattle.gq_model.specs.texts.Operands.{greatest_number}
use Rattle.gq_scenario.specs.Table_keys.{is_number, listed}
use Rattle.gq_scenario.specs.Document.{numbers_of}
use Rattle.gq_reader.proofs.table_reading.read_inputs.Given as goal

-- the numbers so far and those that are left are all
abbrev pub invariant-loop-value : goal.invariant-loop-value
invariant-loop-value l =
    record {
      count : length l.inputs.items ≡ l.value-index;
      read : l.inputs.items ++ numbers_of (listed (items_view (drop l.value-index l.values))) ≡ numbers_of (listed (items_view l.values));
      rest : all_of (is_number 0 greatest_number) (listed (items_view (drop l.value-index l.values))) ≡ true;
    }
