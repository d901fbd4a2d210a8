use Rattle.gq_caps.proofs.Slot_measure_change.{totals_of_empty}
use Rattle.gq_caps.proofs.bank.Bank.new.Goals as goal

pub invariant_of-result : goal.invariant_of-result
invariant_of-result g c = totals_of_empty g.row.N c.none.result c.requires c.none.ensures.none
