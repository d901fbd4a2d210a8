use Rattle.std.proofs.Common.{rules}
use Rattle.gq_contents.proofs.content.Content.size.Goals as goal

pub returns-in-Space : goal.returns-in-Space
returns-in-Space c = search rules
