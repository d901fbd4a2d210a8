use Rattle.std.proofs.Common.{length}
use Rattle.gq_fit.proofs.same_programs.+same_programs.Given as goal

abbrev pub decreases-same_programs : goal.decreases-same_programs
decreases-same_programs l = length l.a.now
