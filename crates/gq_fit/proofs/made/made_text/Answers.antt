-- Where the edits can't be made, no quantity is to blame.
use Rattle.std.proofs.Common.{[]}
use Rattle.std.proofs.lemmas.Result.{IfErr-weaker}
use Rattle.gq_fit.specs.Reasons.{quantities_by}
use Rattle.gq_fit.proofs.Due_quantities.{error_first}
use Rattle.gq_fit.proofs.made.made_text.Goals as goal

pub returns-clause-due : goal.returns-clause-due
returns-clause-due c =
    let least = c.args.leasts.now in
    let all = quantities_by c.args.scenario.now least.interfaces.items least.nodes.items in
    IfErr-weaker c.edited_in_order.result _ _ (λ e due. error_first e [] all due) c.edited_in_order.ensures.due
