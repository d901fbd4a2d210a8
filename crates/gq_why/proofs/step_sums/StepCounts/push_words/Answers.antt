use Rattle.std.proofs.Common.{◌≡◌, ◌∙◌, ◌++◌, OnOk, ap, codes, subst, sym}
use Rattle.std.specs.Prelude.{decimal}
use Rattle.gq_model.specs.machine.Scenario.{Scenario, components}
use Rattle.gq_model.specs.rules.Use.{Cause}
use Rattle.gq_budget.specs.Causes.{cause_of}
use Rattle.gq_why.specs.Why.{cause_words}
use Rattle.gq_why.specs.internal.Step_parts.{IsCauseOf}
use Rattle.gq_why.proofs.Known_steps.{signal_label}
use Rattle.gq_why.proofs.step_sums.StepCounts.push_words.Goals as goal

pub returns-in-Signal : goal.returns-in-Signal
returns-in-Signal c =
    let s = c.args.self.now in
    let f = c.self.inside in
    let t = c.args.text.now.items in
    let i = c.in-Signal.signal in
    let cause = subst (λ (k : Cause). IsCauseOf (components s) k) (ap cause_of c.in-Signal.is) c.requires in
    let leaves = c.self.invariant.leaves ∙ ap components c.self.view_is in
    let item = c.index-self-reacting.result in
    let label = c.label.ensures ∙ signal_label s f.components.now c.in-Signal.reacting i item leaves cause in
    let words = ap (λ l. t ++ (codes " for signal " ++ decimal i ++ codes " of " ++ l)) label
    ∙ ap (λ (k : Cause). t ++ cause_words (components s) k) (sym (ap cause_of c.in-Signal.is)) in
    subst (λ l. OnOk c.push_signal_words.result (c.push_signal_words.new.text.items ≡ l)) words c.push_signal_words.ensures
