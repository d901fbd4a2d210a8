-- The next leaf can take a turn, and is found, or it can't.
use Rattle.std.proofs.Common.{◌≡◌, ◌∙◌, ℕ, Bool, Some, ap, arith, length, sym, subst, add-one}
use Rattle.gq_model.specs.machine.Rest.{can_run}
use Rattle.gq_model.specs.machine.Scenario.{Scenario, components, system}
use Rattle.gq_model.specs.machine.World.{World}
use Rattle.gq_traces.specs.internal.Next_able.{first_able}
use Rattle.gq_traces.proofs.First_able.{able_here, able_later, able_none}
use Rattle.gq_traces.proofs.Leaf_number_bounds.{below}
use Rattle.gq_traces.proofs.rests.first_able.Goals as goal

can_at : (s : Scenario) (w : World) (n k : ℕ) (b c : Bool) → k ≡ n → b ≡ can_run (system s) w k → b ≡ c → can_run (system s) w n ≡ c
can_at s w n k b c at can is = subst (λ (m : ℕ). can_run (system s) w m ≡ c) at (sym can ∙ is)

pub returns-then-can_run : goal.returns-then-can_run
returns-then-can_run c =
    let w = c.args.world.now in
    let l = c.loop-number in
    let count = c.leaf_count-number-end in
    let less = below c.table.result.now w.scenario c.table.ensures count.result l.number count.ensures.count c.loop-number-test.true in
    let can = can_at w.scenario w.world l.number c.new-leaf.result c.can_run.result _ c.new-leaf.ensures c.can_run.ensures c.if-can_run.true in
    sym (l.invariant ∙ (able_here (system w.scenario) w.world (components w.scenario) l.number less can ∙ (λ i. Some (sym c.new-leaf.ensures i))))

pub loop-number-preserved : goal.loop-number-preserved
loop-number-preserved c =
    let w = c.args.world.now in
    let l = c.loop-number in
    let s = system w.scenario in
    let can = can_at w.scenario w.world l.number c.new-leaf.result c.can_run.result _ c.new-leaf.ensures c.can_run.ensures c.if-can_run.false in
    l.invariant ∙ (able_later s w.world (components w.scenario) l.number can
    ∙ (λ i. first_able s w.world (sym (add-one l.number) i) (components w.scenario)))

pub returns : goal.returns
returns c =
    let w = c.args.world.now in
    let l = c.loop-number in
    let count = c.leaf_count-number-end in
    let over = c.loop-number-test.false in
    let end = count.ensures.count in
    let all = ap (λ (r : Scenario). length (components r)) c.table.ensures in
    sym (l.invariant ∙ able_none (system w.scenario) w.world (components w.scenario) l.number (omega (arith, over, end, all)))
