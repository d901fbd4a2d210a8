-- The round goes on with the next leaf.
use Rattle.std.proofs.Common.{◌≡◌, ◌∙◌, ◌-◌, ◌++◌, ℕ, List, refl, sym, subst, add-one, arith, length}
use Rattle.gq_model.specs.declared.act.TurnLine.{TurnLine}
use Rattle.gq_model.specs.machine.Scenario.{Scenario, components, system}
use Rattle.gq_model.specs.machine.World.{World}
use Rattle.gq_model.specs.machine.Rest.{round, reported_turns, while_can}
use Rattle.gq_traces.specs.Schedule.{as_lines}
use Rattle.gq_traces.proofs.Leaf_number_bounds.{at_end, below}
use Rattle.gq_traces.proofs.Round_schedule_text.{GoesRound, IsThrough, round_end, round_first, round_on}
use Rattle.gq_traces.proofs.schedule.list_round.Goals as goal

-- the turns that the next leaf takes, by the number that it has in the loop
takes_at : (s t : Scenario) (w v : World) (n k left taken : ℕ) → t ≡ s → k ≡ n → while_can left (system t) w k ≡ (taken, v)
    → while_can left (system s) w n ≡ (taken, v)
takes_at s t w v n k left taken same at takes =
    subst (λ (r : Scenario). while_can left (system r) w n ≡ (taken, v)) same (subst (λ (m : ℕ). while_can left (system t) w m ≡ (taken, v)) at takes)

pub loop-number-init : goal.loop-number-init
loop-number-init c =
    let old = c.args.world.now in
    record {
      scenario = refl;
      running = c.requires.running;
      signals = refl;
      goes = round_first (system old.scenario) (components old.scenario) c.args.most old.world c.args.list.now.items;
    }

pub loop-number-preserved : goal.loop-number-preserved
loop-number-preserved c =
    let old = c.args.world.now in
    let l = c.loop-number in
    let t = c.take_turns-taken in
    let count = c.leaf_count-number-end in
    let a = c.args.list.now.items in
    let b = l.list.items in
    let d = c.list_taken.new.list.items in
    let less = below c.table.result.now old.scenario c.table.ensures count.result l.number count.ensures.count c.loop-number-test.true in
    let takes = takes_at old.scenario l.world.scenario l.world.world t.new.world.world l.number c.new-leaf.result l.left t.result l.invariant.scenario
    c.new-leaf.ensures t.ensures.taken in
    let listed = subst (λ (n : ℕ). d ≡ b ++ as_lines (reported_turns n t.result)) c.new-leaf.ensures c.in_ok-list_taken.ensures in
    let goes = round_on (system old.scenario) (components old.scenario) c.args.most l.number l.left t.result old.world l.world.world t.new.world.world a b
    d less takes l.invariant.goes listed in
    record {
      scenario = t.ensures.scenario ∙ l.invariant.scenario;
      running = t.ensures.running;
      signals = t.ensures.signals ∙ l.invariant.signals;
      goes = subst (λ (n : ℕ). GoesRound (system old.scenario) (components old.scenario) c.args.most n (l.left - t.result) old.world t.new.world.world a d)
          (sym (add-one l.number)) goes;
    }

through : (s t : Scenario) (same : t ≡ s) (count n : ℕ) → count ≡ length (components t) → n ≡ count → (most left : ℕ) (old now : World)
    (before after : List TurnLine) → GoesRound (system s) (components s) most n left old now before after
    → IsThrough (round (system s) most old 0 (components s)) left now before after
through s t same count n is end most left old now before after =
    round_end (system s) (components s) most n left old now before after (at_end t s same count n is end)

pub returns : goal.returns
returns c =
    let old = c.args.world.now in
    let l = c.loop-number in
    let count = c.leaf_count-number-end in
    let over = c.loop-number-test.false in
    let end = l.auto.number-end in
    let all = through old.scenario c.table.result.now c.table.ensures count.result l.number count.ensures.count (omega (arith, over, end)) c.args.most l.left
    old.world l.world.world c.args.list.now.items l.list.items l.invariant.goes in
    record {
      scenario = l.invariant.scenario;
      running = l.invariant.running;
      signals = l.invariant.signals;
      left = all.left_is;
      world = all.world_is;
      lists = all.listed;
    }
