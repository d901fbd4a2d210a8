use Rattle.toml.specs.View.{table_view}
use Rattle.gq_scenario.specs.Component_trees.{version_number}
use Rattle.gq_reader.proofs.Interface_tables.{are_kept}
use Rattle.gq_reader.proofs.interface_reading.read_interfaces.Goals as goal

pub collected-requires : goal.collected-requires
collected-requires c =
    let few = rw c.in-Some.is at c.requires.few in
    let read = c.in_ok-read_entries-in-Some.ensures in
    are_kept (version_number c.args.version) (table_view c.in-Some.tables.now) c.in_ok-read_entries-in-Some.field-0.items read.read few read.rising
