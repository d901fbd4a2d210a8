use Rattle.std.proofs.Common.{rules}
use Rattle.gq_command.proofs.status.Status.code.Goals as goal

pub returns-in-HostMemory : goal.returns-in-HostMemory
returns-in-HostMemory c = search rules
