use Rattle.std.proofs.Common.{rules}
use Rattle.gq_leaf.proofs.leaf.Leaf.resume.Goals as goal

pub returns : goal.returns
returns c = search rules
