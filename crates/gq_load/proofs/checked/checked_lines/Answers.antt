use Rattle.gq_load.proofs.First_refusal_reason.{refuses_so}
use Rattle.gq_load.proofs.checked.checked_lines.Goals as goal

pub returns-in-Ok-clause-refused : goal.returns-in-Ok-clause-refused
returns-in-Ok-clause-refused c = refuses_so c.args.text.now c.in-Ok.scenario c.scenario_lines.result c.in-Ok.ensures c.scenario_lines.ensures.refused
