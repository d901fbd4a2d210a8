-- Laws of the accounts that are stored.
use Rattle.gq_prepared.proofs.quotas.Stored_node_quotas.{quota_stored, ram_used, caps_used}
use Rattle.gq_prepared.proofs.quotas.stored_accounts.Goals as goal

pub returns-clause-quotas : goal.returns-clause-quotas
returns-clause-quotas c = quota_stored

pub returns-clause-used : goal.returns-clause-used
returns-clause-used c = ram_used

pub returns-clause-caps : goal.returns-clause-caps
returns-clause-caps c = caps_used
