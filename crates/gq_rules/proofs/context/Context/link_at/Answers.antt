use Rattle.std.proofs.Common.{rules}
use Rattle.gq_rules.proofs.context.Context.link_at.Goals as goal

pub returns-in-Some-Link : goal.returns-in-Some-Link
returns-in-Some-Link c = search rules
