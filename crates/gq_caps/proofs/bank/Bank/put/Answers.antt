use Rattle.std.proofs.Common.{rules}
use Rattle.gq_caps.proofs.bank.Bank.put.Goals as goal

pub returns : goal.returns
returns g c = search rules
