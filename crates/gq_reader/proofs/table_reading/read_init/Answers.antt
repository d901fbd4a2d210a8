use Rattle.toml.specs.View.{table_view}
use Rattle.gq_reader.proofs.Node_tables.{sound_init}
use Rattle.gq_reader.proofs.table_reading.read_init.Goals as goal

pub read_quantum-quantum-requires : goal.read_quantum-quantum-requires
read_quantum-quantum-requires c = (sound_init (table_view c.args.table.now) c.requires).quantum

pub read_offers_at-requires : goal.read_offers_at-requires
read_offers_at-requires c = (sound_init (table_view c.args.table.now) c.requires).offers
