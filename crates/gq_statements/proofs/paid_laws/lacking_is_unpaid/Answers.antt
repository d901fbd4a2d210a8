use Rattle.gq_statements.proofs.Unpaid_heap_block.{unpaid_block, unpaid_entry}
use Rattle.gq_statements.proofs.Unpaid_leaf_world.{not_paid}
use Rattle.gq_statements.proofs.Unpaid_made_memory.{unpaid_made}
use Rattle.gq_statements.proofs.paid_laws.lacking_is_unpaid.Goals as goal

pub returns-clause-world : goal.returns-clause-world
returns-clause-world c = not_paid

pub returns-clause-made : goal.returns-clause-made
returns-clause-made c = unpaid_made

pub returns-clause-block : goal.returns-clause-block
returns-clause-block c = unpaid_block

pub returns-clause-entry : goal.returns-clause-entry
returns-clause-entry c = unpaid_entry
