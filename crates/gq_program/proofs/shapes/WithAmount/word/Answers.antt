use Rattle.std.proofs.Common.{rules}
use Rattle.gq_program.proofs.shapes.WithAmount.word.Goals as goal

pub returns-in-Make-Slice : goal.returns-in-Make-Slice
returns-in-Make-Slice c = search rules
