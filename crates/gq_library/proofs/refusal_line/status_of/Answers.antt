-- A fault of the definition is no accepted scenario.
use Rattle.std.proofs.Common.{subst}
use Rattle.gq_load.specs.Load.{loaded}
use Rattle.gq_reports.specs.Command_outcomes.{GivesOf}
use Rattle.gq_library.proofs.Faulty_text_unloaded.{not_loaded}
use Rattle.gq_library.proofs.refusal_line.status_of.Goals as goal

pub returns-in-Load-clause-refused : goal.returns-in-Load-clause-refused
returns-in-Load-clause-refused c = λ _. not_loaded _ (loaded c.args.text.now) (subst (λ f. GivesOf f c.args.text.now) c.in-Load.is c.requires)
