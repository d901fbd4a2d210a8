use Rattle.std.proofs.Common.{rules}
use Rattle.gq_resolve.proofs.start_after.is_bad_after.Goals as goal

pub returns-else-is_taken : goal.returns-else-is_taken
returns-else-is_taken c = search rules
