use Rattle.gq_toml_places.proofs.Line_start_table.{StartsUpTo}
use Rattle.gq_toml_places.proofs.line_columns.line_starts.Given as goal

abbrev pub invariant-loop-at : goal.invariant-loop-at
invariant-loop-at l = StartsUpTo l.text l.starts.items l.at
