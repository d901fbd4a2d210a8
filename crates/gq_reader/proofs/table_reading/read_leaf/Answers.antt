use Rattle.std.proofs.Common.{length, sym, ap, ◌∙◌, arith}
use Rattle.toml.specs.View.{table_view}
use Rattle.gq_reader.proofs.Document_list_values.{listed_length}
use Rattle.gq_reader.proofs.Node_tables.{sound_leaf}
use Rattle.gq_reader.proofs.table_reading.read_leaf.Goals as goal

pub read_quantum-quantum-requires : goal.read_quantum-quantum-requires
read_quantum-quantum-requires c = (sound_leaf (table_view c.args.table) c.requires).quantum

pub overflow_cast-signals : goal.overflow_cast-signals
overflow_cast-signals c = omega (arith, c.number_at-signals.ensures, (sound_leaf (table_view c.args.table) c.requires).signals)

pub new-requires : goal.new-requires
new-requires c = rw c.number_at-signals.ensures (sound_leaf (table_view c.args.table) c.requires).signals

pub read_source-requires : goal.read_source-requires
read_source-requires c = (sound_leaf (table_view c.args.table) c.requires).source

pub name_at-provides-requires : goal.name_at-provides-requires
name_at-provides-requires c = (sound_leaf (table_view c.args.table) c.requires).provides

pub name_at-after-requires : goal.name_at-after-requires
name_at-after-requires c = (sound_leaf (table_view c.args.table) c.requires).after

pub read_inputs-inputs-requires-clause-few : goal.read_inputs-inputs-requires-clause-few
read_inputs-inputs-requires-clause-few c =
    omega (arith, (sound_leaf (table_view c.args.table) c.requires).few, sym (listed_length c.list_at.result.now) ∙ ap length c.list_at.ensures)

pub read_inputs-inputs-requires-clause-numbers : goal.read_inputs-inputs-requires-clause-numbers
read_inputs-inputs-requires-clause-numbers c = rw c.list_at.ensures (sound_leaf (table_view c.args.table) c.requires).numbers
