use Rattle.gq_sizes.proofs.Sized_texts.{refuses_so}
use Rattle.gq_sizes.proofs.size.judged_text.Goals as goal

pub returns-clause-refused : goal.returns-clause-refused
returns-clause-refused c =
    refuses_so c.args.text.now c.in_ok-scenario.scenario c.scenario_text-text.result c.in_ok-scenario.ensures.read c.scenario_text-text.ensures.refused
