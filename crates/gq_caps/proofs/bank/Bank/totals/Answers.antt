use Rattle.gq_caps.proofs.Slot_measure_change.{small_sums}
use Rattle.gq_caps.proofs.bank.Bank.totals.Goals as goal

pub returns-clause-small : goal.returns-clause-small
returns-clause-small g c = small_sums c.self.inside.kinds c.self.inside.totals c.self.invariant
