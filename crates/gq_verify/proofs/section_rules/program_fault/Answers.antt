use Rattle.std.proofs.Common.{rules}
use Rattle.gq_verify.proofs.section_rules.program_fault.Goals as goal

pub returns-in-None : goal.returns-in-None
returns-in-None c = search rules
