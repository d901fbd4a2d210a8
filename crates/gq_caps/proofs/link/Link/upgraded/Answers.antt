use Rattle.std.proofs.Common.{rules}
use Rattle.gq_caps.proofs.link.Link.upgraded.Goals as goal

pub returns-clause-given : goal.returns-clause-given
returns-clause-given c = search rules
