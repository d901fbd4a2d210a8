-- The next leaf can, and is found, or it can't.
use Rattle.std.proofs.Common.{◌≡◌, ◌∙◌, ◌≤◌, ◌+◌, ◌++◌, ◌∷◌, [], ℕ, suc, List, Bool, true, false, length, length-append, ap, sym, subst, add-one, arith}
use Rattle.gq_model.specs.machine.Scenario.{Scenario, components, system}
use Rattle.gq_model.specs.machine.World.{World}
use Rattle.gq_model.specs.machine.Rest.{can_run}
use Rattle.gq_traces.proofs.Random_turn_schedule.{FoundSoFar, found_all, found_none, found_one}
use Rattle.gq_traces.proofs.Leaf_number_bounds.{at_end, below}
use Rattle.gq_traces.proofs.chance.able.Goals as goal
use Rattle.gq_traces.proofs.chance.able.Goals.{then-can_run, else-can_run}

-- the leaves so far, as an invariant
record Found (s : Scenario) (w : World) (n : ℕ) (leaves : List ℕ) : Type 0 where
  found : FoundSoFar (system s) (components s) n w leaves
  few : length leaves ≤ n

can_at : (s : Scenario) (w : World) (n k : ℕ) (b c : Bool) → k ≡ n → b ≡ can_run (system s) w k → b ≡ c → can_run (system s) w n ≡ c
can_at s w n k b c at can is = subst (λ (m : ℕ). can_run (system s) w m ≡ c) at (sym can ∙ is)

pub loop-number-preserved : goal.loop-number-preserved
loop-number-preserved c =
    let w = c.args.world.now in
    let l = c.loop-number in
    let s = w.scenario in
    let count = c.leaf_count-number-end in
    let less = below c.table.result.now s c.table.ensures count.result l.number count.ensures.count c.loop-number-test.true in
    let before = l.invariant.few in
    let next : Found s w.world (l.number + 1) c.if-can_run.leaves.items = elim c.if-can_run.branch [
      | then-can_run t ↦
          let can = can_at s w.world l.number c.new.result c.can_run.result true c.new.ensures c.can_run.ensures t.if-can_run.true in
          let items : c.if-can_run.leaves.items ≡ l.leaves.items ++ l.number ∷ [] = ap (λ v. v.items) t.leaves-is ∙ t.push.ensures.items in
          let long = ap length items ∙ length-append l.leaves.items (l.number ∷ []) in
          record {
            found = subst (λ (n : ℕ). FoundSoFar (system s) (components s) n w.world c.if-can_run.leaves.items) (sym (add-one l.number))
                (subst (FoundSoFar (system s) (components s) (suc l.number) w.world) (sym items)
                (found_one (system s) (components s) l.number w.world l.leaves.items less l.invariant.found can));
            few = omega (arith, before, long);
          }
      | else-can_run t ↦
          let can = can_at s w.world l.number c.new.result c.can_run.result false c.new.ensures c.can_run.ensures t.if-can_run.false in
          let items : c.if-can_run.leaves.items ≡ l.leaves.items = ap (λ v. v.items) t.leaves-is in
          let long = ap length items in
          record {
            found = subst (λ (n : ℕ). FoundSoFar (system s) (components s) n w.world c.if-can_run.leaves.items) (sym (add-one l.number))
                (subst (FoundSoFar (system s) (components s) (suc l.number) w.world) (sym items)
                (found_none (system s) (components s) l.number w.world l.leaves.items less l.invariant.found can));
            few = omega (arith, before, long);
          }
    ] in
    record { found = next.found; few = next.few }

pub returns-clause-able : goal.returns-clause-able
returns-clause-able c =
    let w = c.args.world.now in
    let l = c.loop-number in
    let count = c.leaf_count-number-end in
    let over = c.loop-number-test.false in
    let end = l.auto.number-end in
    found_all (system w.scenario) (components w.scenario) l.number w.world l.leaves.items
    (at_end c.table.result.now w.scenario c.table.ensures count.result l.number count.ensures.count (omega (arith, over, end))) l.invariant.found
