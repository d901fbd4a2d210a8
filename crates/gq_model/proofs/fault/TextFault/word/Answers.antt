use Rattle.std.proofs.Common.{rules}
use Rattle.gq_model.proofs.fault.TextFault.word.Goals as goal

pub returns-in-Unclosed : goal.returns-in-Unclosed
returns-in-Unclosed c = search rules
