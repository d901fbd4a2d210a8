use Rattle.toml.specs.View.{table_view}
use Rattle.gq_reader.proofs.Node_tables.{sound_route}
use Rattle.gq_reader.proofs.table_reading.read_route.Goals as goal

pub name_at-requires : goal.name_at-requires
name_at-requires c = (sound_route (table_view c.args.table.now) c.requires).service
