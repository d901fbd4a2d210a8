use Rattle.std.proofs.Common.{sym, ◌∙◌}
use Rattle.gq_reader.proofs.Document_list_values.{listed_length, as_many}
use Rattle.gq_reader.proofs.rules.are_counts.Goals as goal

pub returns-then-are_numbers : goal.returns-then-are_numbers
returns-then-are_numbers c =
    as_many _ _ _ c.args.count (sym c.are_numbers.ensures ∙ c.if-are_numbers.true) (sym (listed_length c.args.values.now))
