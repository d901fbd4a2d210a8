use Rattle.std.proofs.Common.{◌≡◌, ◌∙◌, ap, arith, get_or, length, subst, sym}
use Rattle.std.proofs.lemmas.Option.{slice_get_within}
use Rattle.gq_model.specs.machine.Scenario.{Scenario, components, system}
use Rattle.gq_model.specs.machine.Step_budgets.{StepBudget}
use Rattle.gq_model.specs.rules.Accept.{budgets}
use Rattle.gq_model.specs.rules.Use.{Cause, steps_for}
use Rattle.std.specs.Prelude.{[], slice_index, slice_index_or}
use Rattle.gq_budget.specs.Causes.{cause_of}
use Rattle.gq_why.specs.internal.Step_parts.{IsCauseOf}
use Rattle.gq_why.proofs.Known_steps.{budget_there, signal_steps, start_steps}
use Rattle.gq_why.proofs.step_sums.StepCounts.steps.Goals as goal

pub index-requires-2 : goal.index-requires-2
index-requires-2 c =
    let f = c.self.inside in
    let within = slice_get_within (components c.args.self.now) c.args.leaf c.args.component.now c.requires.there in
    let same = ap (λ (s : Scenario). length (components s)) c.self.view_is in
    let less = budget_there f.free.now f.found.now.budgets.items c.args.leaf c.self.invariant.budgets (omega (arith, within, same)) in
    omega (arith, less, c.index.ensures)

pub returns-in-Start : goal.returns-in-Start
returns-in-Start c =
    let s = c.args.self.now in
    let bs = c.self.inside.found.now.budgets.items in
    let b = c.index-2.result.now in
    let known : bs ≡ budgets s = c.self.invariant.budgets ∙ ap budgets c.self.view_is in
    let read = c.index-2.ensures ∙ ap (λ x. get_or bs x b) c.index.ensures in
    let steps = start_steps s bs c.args.leaf c.args.component.now b known c.requires.there read in
    c.from_start.ensures
    ∙ (ap (λ (n : StepBudget). n.from_start) c.steps-steps.ensures ∙ (steps
    ∙ ap (λ (k : Cause). steps_for k (system s) c.args.leaf c.args.component.now) (sym (ap cause_of c.in-Start.is))))

pub returns-in-Signal : goal.returns-in-Signal
returns-in-Signal c =
    let s = c.args.self.now in
    let bs = c.self.inside.found.now.budgets.items in
    let b = c.index-2.result.now in
    let y = c.in-Signal.reacting in
    let i = c.in-Signal.signal in
    let known : bs ≡ budgets s = c.self.invariant.budgets ∙ ap budgets c.self.view_is in
    let read = c.index-2.ensures ∙ ap (λ x. get_or bs x b) c.index.ensures in
    let cause = subst (λ (k : Cause). IsCauseOf (components s) k) (ap cause_of c.in-Signal.is) c.requires.cause in
    let steps = signal_steps s bs c.args.leaf c.args.component.now b known c.requires.there read y i cause in
    c.for_signal.ensures
    ∙ (ap (λ (n : StepBudget). slice_index (slice_index_or n.for_signals y []) i) c.steps-steps.ensures ∙ (steps
    ∙ ap (λ (k : Cause). steps_for k (system s) c.args.leaf c.args.component.now) (sym (ap cause_of c.in-Signal.is))))
