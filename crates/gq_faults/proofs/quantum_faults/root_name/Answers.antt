use Rattle.std.proofs.Common.{rules}
use Rattle.gq_faults.proofs.quantum_faults.root_name.Goals as goal

pub returns : goal.returns
returns c = search rules
