use Rattle.std.proofs.Common.{rules}
use Rattle.gq_scenario.proofs.key.Key.word.Goals as goal

pub returns-in-Caps : goal.returns-in-Caps
returns-in-Caps c = search rules
