-- One turn.
use Rattle.std.proofs.Common.{[], ◌+◌, arith, sym, refl, subst}
use Rattle.gq_model.specs.machine.Scenario.{Scenario, system}
use Rattle.gq_traces.specs.Trace.{after_turn}
use Rattle.gq_traces.specs.internal.Flat.{AllStand, ArePrograms, programs_of}
use Rattle.gq_traces.specs.Traces_written.{prints_all}
use Rattle.gq_traces.specs.internal.Printed_steps.{IsOn, PrintsDue, budgets_of}
use Rattle.gq_traces.proofs.Sequential_text_writes.{goes_nothing, goes_text}
use Rattle.gq_traces.proofs.Printed_turns.{idle_on, idle_text, items_then, stand_then, step_on, step_text_is, printed_due, printed_stands}
use Rattle.gq_traces.proofs.trace.print_any.Goals as goal

pub returns-in_default : goal.returns-in_default
returns-in_default g c =
    let w = c.args.world.now in
    let s = w.scenario in
    let before = c.args.tracing.now in
    let due = printed_due c.as_slice-programs.result.now before.programs.items c.as_slice-stands.result.now before.aheads.items c.machine.result.now w
    c.args.leaf c.next_due.result c.as_slice-programs.ensures.value c.as_slice-stands.ensures.value c.machine.ensures.is c.next_due.ensures in
    let none = subst (λ o. PrintsDue before.programs.items before.aheads.items s w.world c.args.leaf o) c.in_default.is due in
    record {
      scenario = refl;
      signals = omega arith;
      can = c.requires.can;
      written = λ t on.
          goes_text g.W.Write.contents c.args.out.now c.args.out.now c.args.going c.args.going [] _
          (idle_text (prints_all c.args.reporting) s (budgets_of s) c.args.leaf before.programs.items before.aheads.items w c.args.turns t on
          (none t.aheads on.aheads)) (goes_nothing g.W.Write.contents c.args.out.now c.args.going);
      on = λ t on.
          idle_on (prints_all c.args.reporting) s (budgets_of s) c.args.leaf before.programs.items before.aheads.items w c.args.turns t on
          (none t.aheads on.aheads) w refl;
    }

pub returns : goal.returns
returns g c =
    let w = c.args.world.now in
    let s = w.scenario in
    let x = c.args.leaf in
    let before = c.args.tracing.now in
    let all = prints_all c.args.reporting in
    let b = budgets_of s in
    let step = c.print_step in
    let due = printed_due c.as_slice-programs.result.now before.programs.items c.as_slice-stands.result.now before.aheads.items c.machine.result.now w x
    c.next_due.result c.as_slice-programs.ensures.value c.as_slice-stands.ensures.value c.machine.ensures.is c.next_due.ensures in
    let some = subst (λ o. PrintsDue before.programs.items before.aheads.items s w.world x o) c.in-Some.is due in
    let goes = printed_stands c.as_slice-programs.result.now before.programs.items c.as_mut_slice.result.now before.aheads.items c.go_on.new.aheads
    c.machine-2.result.now w x c.as_slice-programs.ensures.value c.as_mut_slice.ensures.value c.machine-2.ensures.is c.go_on.ensures in
    let stands_now = stand_then before.programs.items before.aheads.items c.go_on.new.aheads w x c.in-Some.due c.requires.can.stands some goes in
    let is_now = items_then before.programs.items before.aheads.items c.go_on.new.aheads before.aheads.len before.aheads.ok.0 c.requires.can.stands
    stands_now in
    record {
      scenario = step.ensures.scenario;
      signals = (let signals = step.ensures.signals in omega (arith, signals));
      can = record {
        programs = subst (λ (r : Scenario). ArePrograms before.programs.items (programs_of r)) (sym step.ensures.scenario) c.requires.can.programs;
        stands = subst (AllStand before.programs.items) (sym is_now) stands_now;
        noted = step.ensures.noted;
        running = step.ensures.running;
      };
      written = λ t on.
          goes_text g.W.Write.contents c.args.out.now step.new.out c.args.going step.result _ _
          (step_text_is all s b x before.programs.items before.aheads.items w c.args.turns t on c.in-Some.due (some t.aheads on.aheads) step.new.world
          step.ensures.event step.ensures.goes) step.ensures.reports;
      on = λ t on.
          subst (λ l. IsOn before.programs.items l step.new.world (c.args.turns + 1) (after_turn (system s) x t)) (sym is_now)
          (step_on all s b x before.programs.items before.aheads.items w c.args.turns t on c.in-Some.due (some t.aheads on.aheads) step.new.world
          step.ensures.event step.ensures.goes c.go_on.new.aheads (λ e is. goes t.aheads e on.aheads is));
    }
