use Rattle.std.proofs.Common.{◌≡◌, ◌∙◌, Some, ap, sym, subst, true, false}
use Rattle.gq_model.specs.machine.Scenario.{system}
use Rattle.gq_library.specs.C_turns.{can_take}
use Rattle.gq_library.proofs.Tour_turns.{able_here, able_later}
use Rattle.gq_library.proofs.tour.first_able.Goals as goal

pub loop-number-preserved : goal.loop-number-preserved
loop-number-preserved c =
    let w = c.args.world.now in
    let l = c.loop-number in
    l.invariant ∙ able_later (system w.scenario) w.world l.number c.args.end c.loop-number-test.true
    (subst (λ n. can_take (system w.scenario) w.world n ≡ false) c.new-leaf.ensures (sym c.can_take.ensures ∙ c.if-can_take.false))

pub returns-then-can_take-clause-able : goal.returns-then-can_take-clause-able
returns-then-can_take-clause-able c =
    let w = c.args.world.now in
    let l = c.loop-number in
    ap Some c.new-leaf.ensures ∙ sym (l.invariant ∙ able_here (system w.scenario) w.world l.number c.args.end c.loop-number-test.true
    (subst (λ n. can_take (system w.scenario) w.world n ≡ true) c.new-leaf.ensures (sym c.can_take.ensures ∙ c.if-can_take.true)))
