use Rattle.std.proofs.Common.{length}
use Rattle.gq_code.proofs.program_code.+local_bits.Given as goal

abbrev pub decreases-local_bits : goal.decreases-local_bits
decreases-local_bits l = length l.locals.now
