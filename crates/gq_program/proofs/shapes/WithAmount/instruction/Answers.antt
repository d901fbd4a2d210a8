use Rattle.std.proofs.Common.{rules}
use Rattle.gq_program.proofs.shapes.WithAmount.instruction.Goals as goal

pub returns-in-Upgrade : goal.returns-in-Upgrade
returns-in-Upgrade c = search rules
