use Rattle.std.proofs.Common.{rules}
use Rattle.gq_reader.proofs.rules.table_fault.Goals as goal

pub returns : goal.returns
returns c = search rules

pub returns-in-Some : goal.returns-in-Some
returns-in-Some c = search rules
