use Rattle.std.proofs.Common.{rules}
use Rattle.gq_faults.proofs.document_walk.report_keys.Goals as goal

pub returns-then-has : goal.returns-then-has
returns-then-has g c = search rules
