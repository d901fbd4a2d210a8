-- The signals of one leaf more are submitted and listed.
use Rattle.std.proofs.Common.{◌≡◌, ◌∙◌, ◌++◌, ℕ, List, subst, refl, arith}
use Rattle.std.specs.Prelude.{slice_get}
use Rattle.gq_model.specs.declared.act.TurnLine.{TurnLine}
use Rattle.gq_model.specs.machine.Scenario.{Scenario, components}
use Rattle.gq_model.specs.machine.World.{World}
use Rattle.gq_model.specs.texts.Turns.{signals_at}
use Rattle.gq_traces.specs.Schedule.{signals_from, with_signals_from}
use Rattle.gq_traces.proofs.Leaf_number_bounds.{at_end, below}
use Rattle.gq_traces.proofs.Listed_signals.{leaves_end, leaves_first, leaves_next}
use Rattle.gq_traces.proofs.reactions.list_signals.Goals as goal

-- the leaf of a number, in the scenario that the world had first
module _ (s t : Scenario) (n k : ℕ) (same : t ≡ s) (at : k ≡ n) where
  world_at : (w v : World) → v ≡ with_signals_from k 0 (signals_at (slice_get (components t) k)) w
      → v ≡ with_signals_from n 0 (signals_at (slice_get (components s) n)) w
  world_at w v h =
      subst (λ (r : Scenario). v ≡ with_signals_from n 0 (signals_at (slice_get (components r) n)) w) same
      (subst (λ (m : ℕ). v ≡ with_signals_from m 0 (signals_at (slice_get (components t) m)) w) at h)

  lines_at : (a b : List TurnLine) → b ≡ a ++ signals_from k 0 (signals_at (slice_get (components t) k))
      → b ≡ a ++ signals_from n 0 (signals_at (slice_get (components s) n))
  lines_at a b h =
      subst (λ (r : Scenario). b ≡ a ++ signals_from n 0 (signals_at (slice_get (components r) n))) same
      (subst (λ (m : ℕ). b ≡ a ++ signals_from m 0 (signals_at (slice_get (components t) m))) at h)

pub loop-number-init : goal.loop-number-init
loop-number-init c =
    let old = c.args.world.now in
    record {
      scenario = refl;
      running = c.requires.running;
      signals = omega arith;
      counted = omega arith;
      goes = leaves_first (components old.scenario) old.world c.args.list.now.items;
    }

pub loop-number-preserved : goal.loop-number-preserved
loop-number-preserved c =
    let old = c.args.world.now in
    let l = c.loop-number in
    let e = c.in_ok-list_signals_of.ensures in
    let count = c.leaf_count-number-end in
    let before = l.invariant.signals in
    let counted = l.invariant.counted in
    let more = e.signals in
    let further = e.counted in
    let less = below c.table.result.now old.scenario c.table.ensures count.result l.number count.ensures.count c.loop-number-test.true in
    record {
      scenario = e.scenario ∙ l.invariant.scenario;
      running = e.running;
      signals = omega (arith, before, more);
      counted = omega (arith, counted, further);
      goes = leaves_next (components old.scenario) l.number old.world l.world.world c.list_signals_of.new.world.world c.args.list.now.items l.list.items
          c.list_signals_of.new.list.items less
          (world_at old.scenario l.world.scenario l.number c.new.result l.invariant.scenario c.new.ensures l.world.world c.list_signals_of.new.world.world
          e.world)
          (lines_at old.scenario l.world.scenario l.number c.new.result l.invariant.scenario c.new.ensures l.list.items c.list_signals_of.new.list.items
          e.lists) l.invariant.goes;
    }

pub returns : goal.returns
returns c =
    let old = c.args.world.now in
    let l = c.loop-number in
    let count = c.leaf_count-number-end in
    let over = c.loop-number-test.false in
    let end = l.auto.number-end in
    let all = leaves_end (components old.scenario) l.number old.world l.world.world c.args.list.now.items l.list.items
    (at_end c.table.result.now old.scenario c.table.ensures count.result l.number count.ensures.count (omega (arith, over, end))) l.invariant.goes in
    record {
      scenario = l.invariant.scenario;
      running = l.invariant.running;
      counted = l.invariant.counted;
      world = all.0;
      lists = all.1;
    }
