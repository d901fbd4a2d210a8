use Rattle.std.proofs.Common.{ap, ◌∙◌, option_map}
use Rattle.toml.specs.View.{view}
use Rattle.toml.proofs.Views.{view-lookup}
use Rattle.gq_reader.proofs.table_reading.take_value.Goals as goal

pub returns : goal.returns
returns c = rw (← c.word.ensures) (ap (option_map view) c.remove.ensures.value ∙ view-lookup c.word.result.now c.args.table.entries)
