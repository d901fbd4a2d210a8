use Rattle.gq_command.proofs.Stored_laws.{border-short, border-long}
use Rattle.gq_command.proofs.stored.is_border.Goals as goal

pub returns-in_default : goal.returns-in_default
returns-in_default c = border-short c.args.line.now c.in_default.len_below

pub returns-in_default-7 : goal.returns-in_default-7
returns-in_default-7 c = border-long c.args.line.now c.in_default.len_at_least
