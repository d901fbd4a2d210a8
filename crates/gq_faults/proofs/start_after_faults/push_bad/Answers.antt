use Rattle.std.proofs.Common.{rules}
use Rattle.gq_faults.proofs.start_after_faults.push_bad.Goals as goal

pub returns-then-not-is_bad_after : goal.returns-then-not-is_bad_after
returns-then-not-is_bad_after c = search rules
