-- At the start.
use Rattle.std.proofs.Common.{sym, subst, List}
use Rattle.gq_model.specs.machine.Scenario.{Scenario, components}
use Rattle.gq_traces.specs.Step_positions.{start_aheads}
use Rattle.gq_traces.specs.declared.numbered_program.NumberedProgram.{NumberedProgram as Entries}
use Rattle.gq_traces.specs.internal.Flat.{AreAheads, ArePrograms, programs_of}
use Rattle.gq_traces.proofs.Leaves_standing.{all_stand}
use Rattle.gq_traces.proofs.trace.Tracing.new.Goals as goal

pub returns-clause-can : goal.returns-clause-can
returns-clause-can c =
    let s = c.args.world.now.scenario in
    let all = c.in_ok-programs.programs.items in
    let stands = c.in_ok-aheads.aheads.items in
    let programs = subst (λ (r : Scenario). ArePrograms all (programs_of r)) c.table.ensures c.in_ok-programs.ensures in
    let first = c.in_ok-aheads.ensures (components s) (subst (λ (l : List Entries). ArePrograms l (programs_of s)) (sym c.as_slice.ensures.value) programs) in
    record {
      programs = programs;
      stands = all_stand all stands (start_aheads (components s))
          (subst (λ (l : List Entries). AreAheads l stands (start_aheads (components s))) c.as_slice.ensures.value first);
      noted = c.in_ok-notes.ensures;
      running = c.requires.running;
    }
