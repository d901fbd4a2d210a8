use Rattle.gq_command.proofs.Number_word_reading.{number_not_read, number_read}
use Rattle.gq_command.proofs.command_line.number_of.Goals as goal

pub returns-in-Ok : goal.returns-in-Ok
returns-in-Ok c = number_read c.args.text.now c.in-Ok.number c.in-Ok.ensures.value.0.0 c.in-Ok.ensures.value.0.1

pub returns-in-Err : goal.returns-in-Err
returns-in-Err c = number_not_read c.args.text.now c.in-Err.ensures.value.0
