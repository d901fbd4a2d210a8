use Rattle.std.proofs.Common.{◌≡◌, ◌∙◌, [], sym, ap}
use Rattle.std.specs.Prelude.{slice_index, slice_index_or}
use Rattle.gq_model.specs.rules.Accept.{steps_of_signal}
use Rattle.gq_model.specs.machine.Step_budgets.{StepBudget}
use Rattle.gq_world.proofs.Stored_step_budgets.{got, not_got, steps_of_none, steps_of_some}
use Rattle.gq_world.proofs.world.reaction_of.Goals as goal
use Rattle.gq_world.proofs.world.reaction_of.Goals.{in-Some, in-None}

pub returns-clause-steps : goal.returns-clause-steps
returns-clause-steps c =
    let all = c.args.budgets.now in
    let k = c.index-place.result in
    let i = c.args.signal in
    let found : c.match-get.steps ≡ slice_index (steps_of_signal k i all) k = elim c.match-get.branch [
      | in-Some w ↦ (let look = w.in-Some.ensures.lookup in
          w.steps-is ∙ (w.for_signal-steps.ensures ∙ (ap (λ (b : StepBudget). slice_index (slice_index_or b.for_signals k []) i) w.steps.ensures
          ∙ steps_of_some k i all k w.in-Some.budget.now (got all k w.in-Some.budget.now look.3.0 look.1))))
      | in-None w ↦ w.steps-is ∙ sym (steps_of_none k i all k (not_got all k w.in-None.ensures.lookup.3))
    ] in
    found ∙ ap (λ n. slice_index (steps_of_signal n i all) n) c.index-place.ensures
