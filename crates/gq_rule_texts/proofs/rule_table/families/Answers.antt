-- The table is computed.
use Rattle.std.proofs.Common.{refl}
use Rattle.gq_rule_texts.proofs.rule_table.families.Goals as goal

pub returns : goal.returns
returns c = refl
