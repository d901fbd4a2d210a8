use Rattle.std.proofs.Common.{rules}
use Rattle.gq_rules.proofs.broken.at.Goals as goal

pub returns-in-Err : goal.returns-in-Err
returns-in-Err c = search rules
