use Rattle.toml.specs.View.{table_view}
use Rattle.gq_scenario.specs.Document_tables.{items_at}
use Rattle.gq_scenario.specs.Fault_words.{key_text}
use Rattle.gq_faults.proofs.Printed_counts.{long_reported}
use Rattle.gq_faults.proofs.counts.report_long.Goals as goal

pub returns : goal.returns
returns g c =
    long_reported c.args.reporter.now.path.now c.count_at.result (items_at (key_text c.args.key) (table_view c.args.table.now)) _ _ _ _ _ c.count_at.ensures
    c.report_routes.ensures
