use Rattle.std.proofs.Common.{◌-◌}
use Rattle.gq_model.specs.machine.Scenario.{system}
use Rattle.gq_traces.specs.Trace.{after_turns, turns_text}
use Rattle.gq_traces.specs.Traces_written.{prints_all}
use Rattle.gq_traces.specs.internal.Noted.{IsUse}
use Rattle.gq_traces.specs.internal.Printed_steps.{PrintsTurns, budgets_of}
use Rattle.gq_traces.proofs.Repeated_leaf_turns.{HasCome}
use Rattle.gq_traces.proofs.trace.report_able.Given as goal

-- the turns so far were reported, each of which is a step, and it is known what the leaf holds and does
abbrev pub invariant-loop-done : goal.invariant-loop-done
invariant-loop-done g l = record {
  come : HasCome (system l.fn.world.scenario) l.leaf l.most l.done l.fn.world.world l.world.world;
  reported : PrintsTurns 0 g.W.Write.contents
      (turns_text (prints_all l.reporting) l.fn.world.scenario (budgets_of l.fn.world.scenario) l.leaf l.done)
      (after_turns (system l.fn.world.scenario) l.leaf l.done) l.turns l.done l.fn.world l.world l.fn.tracing l.tracing l.fn.out l.out l.fn.going l.going;
  before : IsUse l.world.scenario l.world.world l.leaf l.before;
}

abbrev pub decreases-loop-done : goal.decreases-loop-done
decreases-loop-done g l = l.most - l.done
