use Rattle.std.proofs.Common.{rules}
use Rattle.gq_verify.proofs.section_rules.is_wanted.Goals as goal

pub returns-in-Some-Opening : goal.returns-in-Some-Opening
returns-in-Some-Opening c = search rules
