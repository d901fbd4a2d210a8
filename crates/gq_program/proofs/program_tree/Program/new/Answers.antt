use Rattle.std.proofs.Common.{rules}
use Rattle.gq_program.proofs.program_tree.Program.new.Goals as goal

pub from_parts-requires : goal.from_parts-requires
from_parts-requires c = search rules
