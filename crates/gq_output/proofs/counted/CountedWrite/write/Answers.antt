use Rattle.std.proofs.Common.{rules}
use Rattle.gq_output.proofs.counted.CountedWrite.write.Goals as goal

pub returns-then-failed-clause-failures : goal.returns-then-failed-clause-failures
returns-then-failed-clause-failures g c = search rules
