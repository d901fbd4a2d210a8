use Rattle.std.proofs.lemmas.Grind.{common_steps}
use Rattle.std.proofs.Common.{arith}
use Rattle.gq_caps.proofs.Slot_measure_change.{gone_le, small_sums, totals_set}
use Rattle.gq_caps.proofs.bank.Bank.set.Goals as goal

pub once_changed-self-inside-requires-clause-gone : goal.once_changed-self-inside-requires-clause-gone
once_changed-self-inside-requires-clause-gone g c =
    gone_le c.self.inside.kinds c.from-index.result c.index-self-index.result c.self.inside.totals (omega (arith, c.if-index.true)) c.self.invariant

pub once_changed-self-inside-requires-clause-few : goal.once_changed-self-inside-requires-clause-few
once_changed-self-inside-requires-clause-few g c = small_sums c.self.inside.kinds c.self.inside.totals c.self.invariant

pub invariant_of-self : goal.invariant_of-self
invariant_of-self g c =
    totals_set c.self.inside.kinds c.from-index.result c.args.kind c.index-self-index.result c.self.inside.totals c.once_changed-self-inside.result
    (omega (arith, c.if-index.true)) c.self.invariant c.once_changed-self-inside.ensures.small c.once_changed-self-inside.ensures.changed

pub returns-else-index : goal.returns-else-index
returns-else-index g c = grind (arith, common_steps)
