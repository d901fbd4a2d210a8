use Rattle.std.proofs.Common.{rules}
use Rattle.gq_asm.proofs.text_numbers.number_in.Goals as goal

pub returns-clause-number : goal.returns-clause-number
returns-clause-number c = search rules
