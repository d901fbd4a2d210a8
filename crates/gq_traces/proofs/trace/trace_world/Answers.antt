-- Turns that are read, and reported.
use Rattle.std.proofs.Common.{List, ap, arith, length, refl, subst, sym}
use Rattle.gq_model.specs.declared.act.TurnLine.{TurnLine}
use Rattle.gq_model.specs.machine.Scenario.{components}
use Rattle.gq_reports.specs.Command_outcomes.{WritesAs}
use Rattle.gq_world.specs.World_between_turns.{AreOf}
use Rattle.gq_world.proofs.Run_text.{lines_are_few, lines_of_leaves}
use Rattle.gq_traces.specs.internal.Lines_given.{AreFew}
use Rattle.gq_traces.proofs.Turns_few.{few_of}
use Rattle.gq_traces.specs.Traces_written.{prints_all}
use Rattle.gq_traces.proofs.Traced_whole.{acts_given}
use Rattle.gq_traces.proofs.trace.trace_world.Goals as goal

pub write_trace-requires-clause-leaves : goal.write_trace-requires-clause-leaves
write_trace-requires-clause-leaves g c =
    let s = c.args.world.now.scenario in
    subst (λ (t : List TurnLine). AreOf (length (components s)) t) (sym c.as_slice.ensures.value)
    (lines_of_leaves s s c.args.turns.now c.in_ok-turns.turns.items refl c.in_ok-turns.ensures.read)

pub write_trace-requires-clause-each : goal.write_trace-requires-clause-each
write_trace-requires-clause-each g c =
    let s = c.args.world.now.scenario in
    subst AreFew (sym c.as_slice.ensures.value) (few_of s c.args.turns.now c.in_ok-turns.turns.items c.in_ok-turns.ensures.read)

pub write_trace-requires-clause-signals : goal.write_trace-requires-clause-signals
write_trace-requires-clause-signals g c =
    let s = c.args.world.now.scenario in
    let none = c.requires.signals in
    let few = lines_are_few s c.args.turns.now c.in_ok-turns.turns.items c.in_ok-turns.ensures.read in
    let same = ap length c.as_slice.ensures.value in
    omega (arith, none, few, same)

pub returns : goal.returns
returns g c =
    let s = c.args.world.now.scenario in
    subst (λ w. WritesAs g.W.Write.contents w c.args.out.now c.write_trace.new.out c.write_trace.result)
    (acts_given (prints_all c.args.reporting) s c.args.turns.now c.in_ok-turns.turns.items c.as_slice.result.now c.requires.same c.in_ok-turns.ensures.read
    c.as_slice.ensures.value)
    c.write_trace.ensures
