use Rattle.std.proofs.Common.{rules}
use Rattle.gq_resolve.proofs.routes.server_of.Goals as goal

pub returns-in-Err : goal.returns-in-Err
returns-in-Err c = search rules
