use Rattle.std.proofs.Common.{rules}
use Rattle.gq_rules.proofs.memory_rules.is_in_heap.Goals as goal

pub returns-in_default : goal.returns-in_default
returns-in_default c = search rules
