use Rattle.std.proofs.Common.{rules}
use Rattle.gq_ram.proofs.accounts.Accounts.load4.Goals as goal

pub returns : goal.returns
returns c = search rules
