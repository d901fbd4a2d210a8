use Rattle.std.proofs.Common.{length}
use Rattle.gq_fit.proofs.lexer.+is_any.Given as goal

abbrev pub decreases-is_any : goal.decreases-is_any
decreases-is_any l = length l.keys.now
