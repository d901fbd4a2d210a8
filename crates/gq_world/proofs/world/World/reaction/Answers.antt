-- The budgets of an accepted scenario are small.
use Rattle.std.proofs.Common.{◌≡◌, ◌∙◌, true, ap, sym, subst}
use Rattle.gq_load.specs.internal.Small_budgets.{all_small}
use Rattle.gq_world.proofs.World_turn_facts.{budgets_few, budgets_small}
use Rattle.gq_world.proofs.world.World.reaction.Goals as goal

pub reaction_of-requires-clause-small : goal.reaction_of-requires-clause-small
reaction_of-requires-clause-small c =
    let m = c.self.inside.machine in
    subst (λ l. all_small l ≡ true) (sym (c.as_slice.ensures.value ∙ c.self.invariant.budgeted.budgets_are))
    (budgets_small c.accepted_laws.ensures.promises m.scenario m.world c.self.invariant.budgeted.stands)

pub reaction_of-requires-clause-few : goal.reaction_of-requires-clause-few
reaction_of-requires-clause-few c =
    let m = c.self.inside.machine in
    budgets_few m.scenario c.scenario.result.now c.as_slice.result.now
    (c.scenario.ensures ∙ (c.table.ensures ∙ sym (ap (λ w. w.scenario) c.self.view_is)))
    (c.as_slice.ensures.value ∙ c.self.invariant.budgeted.budgets_are)
    c.bounds.ensures.leaves
