use Rattle.std.proofs.Common.{rules}
use Rattle.gq_model.proofs.letters.is_said_byte.Goals as goal

pub returns-then-matches : goal.returns-then-matches
returns-then-matches c = search rules
