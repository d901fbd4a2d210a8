-- For which leaves no number of capabilities is enough, by the sessions of their links.
use Rattle.std.proofs.Common.{◌∙◌, ap, sym}
use Rattle.std.proofs.lemmas.Result.{IfOk-weaker}
use Rattle.gq_model.specs.machine.Scenario.{system}
use Rattle.gq_sizes.specs.Passing.{endless_from}
use Rattle.gq_sizes.proofs.Session_chain_rounds.{given_endless}
use Rattle.gq_sizes.proofs.least_quantities.unending_leaves.Goals as goal

pub returns : goal.returns
returns c =
    let free = c.args.free.now in
    let all = system free in
    let are = c.requires.leaves in
    let given =
    given_endless all c.args.components.now c.args.leaves.now free.interfaces are c.levels_are_low.ensures c.interfaces.result.now c.as_slice.result.now
    c.interfaces.ensures (c.as_slice.ensures.value ∙ c.requires.endless) in
    let owns = c.as_slice-2.ensures.value ∙ c.in_ok-owns.ensures all are.leaves given in
    IfOk-weaker c.endless_leaves.result _ _ (λ endless e. e ∙ ap (endless_from all 0) (sym are.components))
    (c.endless_leaves.ensures all are.components owns)
