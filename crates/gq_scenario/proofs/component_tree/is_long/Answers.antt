use Rattle.std.proofs.Common.{rules}
use Rattle.gq_scenario.proofs.component_tree.is_long.Goals as goal

pub returns-in-Some : goal.returns-in-Some
returns-in-Some c = search rules
