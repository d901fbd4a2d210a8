use Rattle.std.proofs.Common.{rules}
use Rattle.gq_caps.proofs.link.Link.is_same.Goals as goal

pub returns-then-self-other-2 : goal.returns-then-self-other-2
returns-then-self-other-2 c = search rules
