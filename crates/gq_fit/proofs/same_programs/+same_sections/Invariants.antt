use Rattle.std.proofs.Common.{length}
use Rattle.gq_fit.proofs.same_programs.+same_sections.Given as goal

abbrev pub decreases-same_sections : goal.decreases-same_sections
decreases-same_sections l = length l.a.now
