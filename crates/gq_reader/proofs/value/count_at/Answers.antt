use Rattle.gq_reader.proofs.Document_list_values.{counted}
use Rattle.gq_reader.proofs.value.count_at.Goals as goal

pub returns-in-Some : goal.returns-in-Some
returns-in-Some c = counted c.in-Some.values.now _ (rw c.in-Some.is at c.values_at.ensures)
