-- The text of the definition was written, or a prefix of it.
use Rattle.std.proofs.Common.{sym, subst}
use Rattle.gq_reports.specs.Command_outcomes.{WritesAs}
use Rattle.gq_traces.specs.Traces_written.{prints_all}
use Rattle.gq_traces.proofs.Traced_whole.{scenario_given}
use Rattle.gq_traces.proofs.trace.trace.Goals as goal

pub returns : goal.returns
returns g c =
    let same = scenario_given (prints_all c.args.reporting) c.args.scenario.now c.args.turns.now c.in_ok-world.world.scenario c.in_ok-world.ensures.loaded in
    subst (λ w. WritesAs g.W.Write.contents w c.args.out.now c.trace_world-traced.new.out c.trace_world-traced.result) (sym same) c.trace_world-traced.ensures
