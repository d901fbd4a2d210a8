use Rattle.std.proofs.Common.{◌∙◌}
use Rattle.toml.specs.View.{view}
use Rattle.toml.proofs.Views.{table_get}
use Rattle.gq_reader.proofs.Document_list_values.{among_found}
use Rattle.gq_reader.proofs.rules.is_among.Goals as goal

pub returns-in-Some : goal.returns-in-Some
returns-in-Some c =
    let found = table_get c.get.result c.args.key.now c.in-Some.table.now.entries c.get.ensures.value in
    rw c.in-Some.is (c.is_some.ensures ∙ among_found (λ x. view x.now) c.get.result c.args.key.now _ found)
