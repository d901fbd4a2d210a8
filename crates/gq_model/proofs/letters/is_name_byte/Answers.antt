use Rattle.std.proofs.Common.{rules}
use Rattle.gq_model.proofs.letters.is_name_byte.Goals as goal

pub returns-in_default-3 : goal.returns-in_default-3
returns-in_default-3 c = search rules
