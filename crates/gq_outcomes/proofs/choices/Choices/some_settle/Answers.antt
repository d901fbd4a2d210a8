use Rattle.std.proofs.Common.{◌<◌, ◌∙◌, ap, sym, subst, length}
use Rattle.gq_model.specs.machine.Scenario.{components, system}
use Rattle.gq_outcomes.specs.Choices.{can_settle, racy_servers}
use Rattle.gq_outcomes.proofs.Choice_lists.{settle_here, settle_past}
use Rattle.gq_outcomes.proofs.choices.Choices.some_settle.Goals as goal

pub returns-then-can_settle : goal.returns-then-can_settle
returns-then-can_settle c =
    let m = c.args.machine.now in
    let s = system m.scenario in
    let n = c.loop-number.number in
    let less = subst (λ k. n < k) (c.leaf_count-number-end.ensures.count ∙ ap (λ s. length (components s)) c.table.ensures) c.loop-number-test.true in
    let can = ap (λ x. can_settle s (racy_servers s) m.world x) (sym c.new.ensures) ∙ sym c.can_settle.ensures ∙ c.if-can_settle.true in
    sym (settle_here s (racy_servers s) m.world (components m.scenario) n less can) ∙ c.loop-number.invariant

pub loop-number-preserved : goal.loop-number-preserved
loop-number-preserved c =
    let m = c.args.machine.now in
    let s = system m.scenario in
    let n = c.loop-number.number in
    let less = subst (λ k. n < k) (c.leaf_count-number-end.ensures.count ∙ ap (λ s. length (components s)) c.table.ensures) c.loop-number-test.true in
    let can = ap (λ x. can_settle s (racy_servers s) m.world x) (sym c.new.ensures) ∙ sym c.can_settle.ensures ∙ c.if-can_settle.false in
    sym (settle_past s (racy_servers s) m.world (components m.scenario) n less can) ∙ c.loop-number.invariant
