use Rattle.gq_command.proofs.Stored_laws.{lines-at_start}
use Rattle.gq_command.proofs.stored.first_line.Goals as goal

pub loop-i-init : goal.loop-i-init
loop-i-init c = lines-at_start c.args.text.now
