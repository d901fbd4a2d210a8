use Rattle.gq_caps.specs.declared.totals.Measure.TheVariants.{Ram, Caps}
use Rattle.gq_caps.proofs.bank.Bank.cost.Goals as goal

pub returns-clause-ram : goal.returns-clause-ram
returns-clause-ram g c = c.totals-totals.ensures.sums Ram

pub returns-clause-caps : goal.returns-clause-caps
returns-clause-caps g c = c.totals-totals.ensures.sums Caps

pub returns-clause-small : goal.returns-clause-small
returns-clause-small g c = c.totals-totals.ensures.small Ram

pub returns-clause-few : goal.returns-clause-few
returns-clause-few g c = c.totals-totals.ensures.small Caps
