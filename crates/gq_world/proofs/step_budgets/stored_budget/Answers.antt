use Rattle.std.proofs.Common.{◌∙◌, ap, sym}
use Rattle.std.specs.Prelude.{slice_index}
use Rattle.gq_model.specs.machine.Accounts.{shown}
use Rattle.gq_model.specs.machine.Step_budgets.{steps_in}
use Rattle.gq_model.specs.rules.Accept.{step_budgets}
use Rattle.gq_world.specs.Account_lines.{stored_budgets}
use Rattle.gq_world.proofs.Stored_step_budgets.{got, not_got}
use Rattle.gq_world.proofs.World_account_lines.{stored_of, stored_past}
use Rattle.gq_world.proofs.step_budgets.stored_budget.Goals as goal

pub returns-in-Some : goal.returns-in-Some
returns-in-Some c =
    let w = c.args.machine.now.world in
    let all = c.args.budgets.now in
    let look = c.in-Some.ensures.lookup in
    c.steps_in.ensures ∙ ap (λ b. shown (steps_in w b)) c.steps.ensures
    ∙ sym (stored_of w all c.index.result c.in-Some.budget.now (got all c.index.result c.in-Some.budget.now look.3.0 look.1))
    ∙ ap (slice_index (stored_budgets w (step_budgets all))) c.index.ensures

pub returns-in-None : goal.returns-in-None
returns-in-None c =
    let w = c.args.machine.now.world in
    let all = c.args.budgets.now in
    sym (stored_past w all c.index.result (not_got all c.index.result c.in-None.ensures.lookup.3))
    ∙ ap (slice_index (stored_budgets w (step_budgets all))) c.index.ensures
