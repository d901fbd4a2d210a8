use Rattle.std.proofs.Common.{◌≡◌, None, arith, sym}
use Rattle.toml.specs.View.{table_view}
use Rattle.gq_scenario.specs.Table_keys.{table_fault}
use Rattle.gq_scenario.specs.Document_tables.{interface_keys}
use Rattle.gq_scenario.specs.Component_trees.{version_number}
use Rattle.gq_reader.proofs.Interface_tables.{sound_interface, none_in_one}
use Rattle.gq_reader.proofs.interface_reading.read_need_caps.Goals as goal

pub overflow_cast-result : goal.overflow_cast-result
overflow_cast-result c =
    let few = (sound_interface (version_number c.args.version) (table_view c.args.table.now) c.requires).need_caps in omega (arith, few, c.number_at.ensures)

pub returns-in-One-clause-count : goal.returns-in-One-clause-count
returns-in-One-clause-count c =
    let sound : table_fault (interface_keys 1 (table_view c.args.table.now)) (table_view c.args.table.now) ≡ None = rw c.in-One.is at c.requires in
    sym (none_in_one (table_view c.args.table.now) sound)

pub returns-in-Two-clause-few : goal.returns-in-Two-clause-few
returns-in-Two-clause-few c =
    let few = (sound_interface (version_number c.args.version) (table_view c.args.table.now) c.requires).need_caps in omega (arith, few, c.number_at.ensures)
