use Rattle.std.proofs.Common.{length}
use Rattle.gq_code.proofs.coded_operands.+little.Given as goal

abbrev pub decreases-little : goal.decreases-little
decreases-little l = length l.bytes.now
