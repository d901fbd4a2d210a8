-- The leaves so far can't go on, and the next one can or can't.
use Rattle.std.proofs.Common.{◌≡◌, ◌∙◌, ℕ, false, true, not, ap, refl, sym, subst, add-one, arith, length}
use Rattle.gq_model.specs.machine.Scenario.{Scenario, components, system}
use Rattle.gq_model.specs.machine.Rest.{can_run}
use Rattle.gq_world.proofs.Resting_worlds.{NoneBefore, none_end, none_on, one_can}
use Rattle.gq_world.proofs.world.World.is_at_rest.Goals as goal

pub loop-number-init : goal.loop-number-init
loop-number-init c = refl

pub returns-then-can_run : goal.returns-then-can_run
returns-then-can_run c =
    let w = c.args.self.now in
    let l = c.loop-number in
    let count = c.leaf_count-number-end.ensures.count ∙ ap (λ (s : Scenario). length (components s)) c.table.ensures in
    ap not (sym (one_can (system w.scenario) l.number w.world (omega (arith, c.loop-number-test.true, count)) l.invariant
    (subst (λ (n : ℕ). can_run (system w.scenario) w.world n ≡ true) c.new.ensures (sym c.can_run.ensures ∙ c.if-can_run.true))))

pub loop-number-preserved : goal.loop-number-preserved
loop-number-preserved c =
    let w = c.args.self.now in
    let l = c.loop-number in
    let count = c.leaf_count-number-end.ensures.count ∙ ap (λ (s : Scenario). length (components s)) c.table.ensures in
    subst (λ (n : ℕ). NoneBefore (system w.scenario) n w.world) (sym (add-one l.number))
    (none_on (system w.scenario) l.number w.world (omega (arith, c.loop-number-test.true, count)) l.invariant
    (subst (λ (n : ℕ). can_run (system w.scenario) w.world n ≡ false) c.new.ensures (sym c.can_run.ensures ∙ c.if-can_run.false)))

pub returns : goal.returns
returns c =
    let w = c.args.self.now in
    let l = c.loop-number in
    let count = c.leaf_count-number-end.ensures.count ∙ ap (λ (s : Scenario). length (components s)) c.table.ensures in
    ap not (sym (none_end (system w.scenario) l.number w.world (omega (arith, c.loop-number-test.false, count)) l.invariant))
