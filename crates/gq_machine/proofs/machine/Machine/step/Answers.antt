use Rattle.std.proofs.Common.{rules}
use Rattle.gq_machine.proofs.machine.Machine.step.Goals as goal

pub returns-clause-no_line : goal.returns-clause-no_line
returns-clause-no_line c = search rules

pub returns-clause-stepped : goal.returns-clause-stepped
returns-clause-stepped c = search rules
