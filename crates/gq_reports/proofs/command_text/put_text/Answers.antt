-- The text was written, or a prefix of it.
use Rattle.gq_reports.proofs.Command_text_endings.{all_written, cut_short}
use Rattle.gq_reports.proofs.command_text.put_text.Goals as goal

pub returns-in-Ok : goal.returns-in-Ok
returns-in-Ok g c w given = all_written g.W.Write.contents w c.args.text.now given _ _ c.put.result _ _ c.in-Ok.is c.put.ensures

pub returns-in-Err : goal.returns-in-Err
returns-in-Err g c w given = cut_short g.W.Write.contents w c.args.text.now given _ _ c.put.result _ c.in-Err.is c.put.ensures
