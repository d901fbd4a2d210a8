use Rattle.std.proofs.Common.{◌≡◌, ◌∙◌, ◌+◌, ◌<◌, [], IfSome, drop, length, ap, sym, subst, arith}
use Rattle.std.specs.Prelude.{slice_get, slice_index_or}
use Rattle.gq_model.specs.machine.Accounts.{shown}
use Rattle.gq_model.specs.machine.Step_budgets.{reaction_steps, taken_steps}
use Rattle.gq_model.specs.machine.Scenario.{Scenario, components}
use Rattle.gq_world.proofs.Stored_step_budgets.{reacts_at, reacts_end, shown_small, signals_there, stored_next, sum_end, sum_next}
use Rattle.gq_world.proofs.step_budgets.steps_in.Goals as goal

pub loop-number-init : goal.loop-number-init
loop-number-init c =
    let b = c.args.budget.now in
    record {
      left = ap (λ n. shown (n + reaction_steps c.args.machine.now.world.leaves b.for_signals)) c.from_start-sum.ensures;
      stored = shown_small c.from_start-sum.result c.from_start-sum.type_inv;
    }

pub loop-number-preserved : goal.loop-number-preserved
loop-number-preserved c =
    let l = c.loop-number in
    let leaves = c.args.machine.now.world.leaves in
    let all = c.args.budget.now.for_signals in
    let count = c.leaf_count-number-end.ensures.count ∙ ap (λ (s : Scenario). length (components s)) c.table.ensures in
    let less : l.number < length leaves = omega (arith, c.loop-number-test.true, count, c.requires) in
    let there = signals_there leaves l.number c.signals-signals.result.now less
    (subst (λ n. IfSome (slice_get leaves n) (λ k. c.signals-signals.result.now ≡ k.signals)) c.new.ensures c.signals-signals.ensures) in
    let part = taken_steps c.signals-signals.result.now (slice_index_or all l.number []) in
    let split = reacts_at leaves all l.number there.0 there.1 ∙ ap (λ s. taken_steps s (slice_index_or all l.number [])
    + reaction_steps (drop (l.number + 1) leaves) (drop (l.number + 1) all)) (sym there.2) in
    record {
      left = sum_next l.sum part (reaction_steps (drop (l.number + 1) leaves) (drop (l.number + 1) all)) (reaction_steps (drop l.number leaves)
          (drop l.number all)) _ c.with_taken-sum.result c.with_taken-sum.ensures split l.invariant.left;
      stored = stored_next (l.sum + part) c.with_taken-sum.result c.with_taken-sum.ensures;
    }

pub returns : goal.returns
returns c =
    let l = c.loop-number in
    let leaves = c.args.machine.now.world.leaves in
    let all = c.args.budget.now.for_signals in
    let count = c.leaf_count-number-end.ensures.count ∙ ap (λ (s : Scenario). length (components s)) c.table.ensures in
    sum_end l.sum (reaction_steps (drop l.number leaves) (drop l.number all)) _
    (reacts_end leaves (drop l.number all) l.number (omega (arith, c.loop-number-test.false, count, c.requires))) l.invariant.stored l.invariant.left
