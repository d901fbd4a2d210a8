use Rattle.std.proofs.Common.{sym, ◌∙◌}
use Rattle.gq_reader.proofs.Document_list_values.{listed_length, few_listed}
use Rattle.gq_reader.proofs.rules.are_inputs.Goals as goal

pub returns-then-are_numbers : goal.returns-then-are_numbers
returns-then-are_numbers c =
    few_listed 8 _ _ _ (sym c.are_numbers.ensures ∙ c.if-are_numbers.true) (sym (listed_length c.args.values.now))
