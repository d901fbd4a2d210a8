use Rattle.std.proofs.Common.{sym, ◌∙◌}
use Rattle.toml.specs.View.{table_view}
use Rattle.gq_reader.proofs.Node_tables.{sound_route}
use Rattle.gq_reader.proofs.table_reading.read_target.Goals as goal

pub name_at-requires : goal.name_at-requires
name_at-requires c = (sound_route (table_view c.args.table.now) c.requires).child

pub unreachable-requires : goal.unreachable-requires
unreachable-requires c =
    (sound_route (table_view c.args.table.now) c.requires).named (sym c.has.ensures ∙ c.if-has.false) (sym c.has-2.ensures ∙ c.if-has-2.false)
    (sym c.name_at.ensures ∙ c.in-None.is)
