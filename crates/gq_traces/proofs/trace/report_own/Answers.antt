-- A step of a leaf's own, reported.
use Rattle.std.proofs.Common.{◌+◌, ◌<◌, arith, false, length, subst, sym}
use Rattle.gq_machine.specs.Events.{event_of}
use Rattle.gq_model.specs.machine.Scenario.{Scenario, components, system}
use Rattle.gq_traces.specs.Trace.{after_turn}
use Rattle.gq_traces.specs.internal.Flat.{AllStand, ArePrograms, programs_of}
use Rattle.gq_traces.specs.internal.Printed_steps.{IsOn, budgets_of}
use Rattle.gq_traces.proofs.Sequential_text_writes.{goes_text}
use Rattle.gq_traces.proofs.Own_turns.{own_due, own_goes, own_stand, own_within, passes_as, place_as}
use Rattle.gq_traces.proofs.Printed_turns.{items_then, step_on, step_text_is}
use Rattle.gq_traces.proofs.trace.report_own.Goals as goal

pub due_in-due-requires-clause-leaf : goal.due_in-due-requires-clause-leaf
due_in-due-requires-clause-leaf g c =
    let own = c.requires.taken.1 in
    subst (λ l. c.args.own.now.leaf < length l) (sym c.as_slice-programs.ensures.value)
    (own_within c.requires.taken.0 c.args.world.now c.args.own.now.leaf c.args.tracing.now.programs.items own.taken.scenario c.requires.leaf own.can.programs)

pub due_in-due-requires-clause-aheads : goal.due_in-due-requires-clause-aheads
due_in-due-requires-clause-aheads g c =
    subst (λ l. AllStand l c.as_slice.result.now) (sym c.as_slice-programs.ensures.value)
    (subst (AllStand c.args.tracing.now.programs.items) (sym c.as_slice.ensures.value) c.requires.taken.1.can.stands)

pub pass_by-requires-clause-leaf : goal.pass_by-requires-clause-leaf
pass_by-requires-clause-leaf g c =
    let own = c.requires.taken.1 in
    subst (λ l. c.args.own.now.leaf < length l) (sym c.as_slice-programs.ensures.value)
    (own_within c.requires.taken.0 c.args.world.now c.args.own.now.leaf c.args.tracing.now.programs.items own.taken.scenario c.requires.leaf own.can.programs)

pub pass_by-requires-clause-aheads : goal.pass_by-requires-clause-aheads
pass_by-requires-clause-aheads g c =
    subst (λ l. AllStand l c.as_mut_slice.result.now) (sym c.as_slice-programs.ensures.value)
    (subst (AllStand c.args.tracing.now.programs.items) (sym c.as_mut_slice.ensures.value) c.requires.taken.1.can.stands)

pub print_taken-requires-clause-leaves : goal.print_taken-requires-clause-leaves
print_taken-requires-clause-leaves g c = c.requires.taken.1.taken.leaves

pub print_taken-requires-clause-noted : goal.print_taken-requires-clause-noted
print_taken-requires-clause-noted g c = c.requires.taken.1.noted

pub returns : goal.returns
returns g c old own =
    let w = c.args.world.now in
    let s = old.scenario in
    let o = c.args.own.now in
    let x = o.leaf in
    let before = c.args.tracing.now in
    let b = budgets_of s in
    let text = c.args.text.now.items in
    let event = event_of o.taken.event text in
    let taken = own.taken in
    let less = subst (λ (r : Scenario). x < length (components r)) taken.scenario c.requires.leaf in
    let some = own_due old x o.taken.before taken.before own.own less taken.leaves_before before.programs.items before.aheads.items own.can.programs
    c.due_in-due.result o.section
    (place_as c.as_slice-programs.result.now before.programs.items c.as_slice.result.now before.aheads.items x o.section c.due_in-due.result
    c.as_slice-programs.ensures.value c.as_slice.ensures.value c.due_in-due.ensures) own.section in
    let goes = own_goes old x o.taken.before taken.before own.own less taken.leaves_before before.programs.items before.aheads.items own.can.programs
    c.pass_by.new.aheads o.top
    (passes_as c.as_slice-programs.result.now before.programs.items c.as_mut_slice.result.now before.aheads.items c.pass_by.new.aheads x o.top
    c.as_slice-programs.ensures.value c.as_mut_slice.ensures.value c.pass_by.ensures) own.top in
    let stands_now = own_stand old x o.taken.before taken.before own.own less taken.leaves_before before.programs.items before.aheads.items own.can.programs
    c.pass_by.new.aheads own.can.stands goes in
    let is_now = items_then before.programs.items before.aheads.items c.pass_by.new.aheads before.aheads.len before.aheads.ok.0 own.can.stands stands_now in
    let reported = c.print_taken.ensures old taken own.can.noted in
    record {
      scenario = taken.scenario;
      signals = (let signals = taken.signals in omega (arith, signals));
      can = record {
        programs = subst (λ (r : Scenario). ArePrograms before.programs.items (programs_of r)) (sym taken.scenario) own.can.programs;
        stands = subst (AllStand before.programs.items) (sym is_now) stands_now;
        noted = reported.noted;
        running = taken.running;
      };
      written = λ t on.
          goes_text g.W.Write.contents c.args.out.now c.print_taken.new.out c.args.going c.print_taken.result.going _ _
          (step_text_is false s b x before.programs.items before.aheads.items old o.turns t on c.due_in-due.result (some t.aheads on.aheads) w event
          taken.goes) reported.reports.goes;
      on = λ t on.
          subst (λ l. IsOn before.programs.items l w (o.turns + 1) (after_turn (system s) x t)) (sym is_now)
          (step_on false s b x before.programs.items before.aheads.items old o.turns t on c.due_in-due.result (some t.aheads on.aheads) w event taken.goes
          c.pass_by.new.aheads (λ e is. goes t.aheads e on.aheads is));
    }
