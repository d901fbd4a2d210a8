use Rattle.std.proofs.Common.{sym, ◌∙◌}
use Rattle.gq_reader.proofs.Document_list_values.{listed_length, few_listed}
use Rattle.gq_reader.proofs.rules.are_upgrades.Goals as goal

pub returns-then-are_quantities : goal.returns-then-are_quantities
returns-then-are_quantities c =
    few_listed 3 _ _ _ (sym c.are_quantities.ensures ∙ c.if-are_quantities.true) (sym (listed_length c.args.values.now))
