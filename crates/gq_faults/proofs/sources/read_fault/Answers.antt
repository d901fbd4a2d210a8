use Rattle.std.proofs.Common.{rules}
use Rattle.gq_faults.proofs.sources.read_fault.Goals as goal

pub returns-in_ok-reported-in-Err : goal.returns-in_ok-reported-in-Err
returns-in_ok-reported-in-Err c = search rules
