use Rattle.std.proofs.Common.{rules}
use Rattle.gq_model.proofs.letters.is_digit.Goals as goal

pub returns : goal.returns
returns c = search rules
