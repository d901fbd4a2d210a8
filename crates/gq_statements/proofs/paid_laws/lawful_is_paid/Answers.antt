use Rattle.gq_statements.proofs.Leaf_quota_balance.{balances}
use Rattle.gq_statements.proofs.Lawful_worlds_paid.{all_paid}
use Rattle.gq_statements.proofs.paid_laws.lawful_is_paid.Goals as goal

pub returns-clause-ram : goal.returns-clause-ram
returns-clause-ram c system f s x b l lt there o = (balances system f s x b l lt there o).0

pub returns-clause-caps : goal.returns-clause-caps
returns-clause-caps c system f s x b l lt there o = (balances system f s x b l lt there o).1

pub returns-clause-paid : goal.returns-clause-paid
returns-clause-paid c = all_paid
