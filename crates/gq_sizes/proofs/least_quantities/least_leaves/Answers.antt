-- What leaves need at least, by the least capabilities of sessions.
use Rattle.std.proofs.Common.{◌∙◌, ap, map, sym}
use Rattle.std.proofs.lemmas.Result.{IfOk-weaker}
use Rattle.gq_model.specs.machine.Scenario.{components, system}
use Rattle.gq_model.specs.rules.Accept.{Budget}
use Rattle.gq_sizes.specs.Saturated_tables.{leasts_from}
use Rattle.gq_sizes.proofs.Least_leaves.{budgets_own}
use Rattle.gq_sizes.proofs.Capability_need_rounds.{given_least}
use Rattle.gq_sizes.proofs.least_quantities.least_leaves.Goals as goal

pub returns : goal.returns
returns c =
    let free = c.args.free.now in
    let all = system free in
    let are = c.requires.leaves in
    let given =
    given_least all c.args.components.now c.args.leaves.now free.interfaces are c.levels_are_low.ensures c.interfaces.result.now c.as_slice.result.now
    c.interfaces.ensures (c.as_slice.ensures.value ∙ c.requires.caps) in
    let budgets = ap (map (λ (b : Budget). b.own.ram)) c.requires.budgets ∙ budgets_own free.version all 0 (components free) in
    let owns = c.as_slice-2.ensures.value ∙ c.in_ok-owns.ensures all are.leaves budgets given in
    IfOk-weaker c.least_of_leaves.result _ _ (λ least e. e ∙ ap (leasts_from all 0) (sym are.components))
    (c.least_of_leaves.ensures all are.components owns)
