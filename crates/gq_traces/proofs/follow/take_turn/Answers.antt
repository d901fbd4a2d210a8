-- One turn.
use Rattle.std.proofs.Common.{◌∙◌, refl, subst, sym}
use Rattle.std.proofs.lemmas.List.{with_items_is}
use Rattle.std.specs.Vec.{with_items}
use Rattle.gq_machine.specs.Events.{event_of}
use Rattle.gq_traces.specs.internal.Printed_steps.{GoesOn}
use Rattle.gq_traces.proofs.Unprinted_turns.{due_printed, goes_as, none_taken, none_reported, one_taken}
use Rattle.gq_traces.proofs.Sound_world_leaves.{leaves_in}
use Rattle.gq_traces.proofs.follow.take_turn.Goals as goal

pub next_due-requires-clause-leaves : goal.next_due-requires-clause-leaves
next_due-requires-clause-leaves c =
    let w = c.args.world.now in leaves_in c.machine-machine.result.now w.scenario w.world c.machine-machine.ensures.is c.machine-machine.ensures.stands

pub go_on-requires-clause-leaves : goal.go_on-requires-clause-leaves
go_on-requires-clause-leaves c =
    let w = c.args.world.now in leaves_in c.machine-machine.result.now w.scenario w.world c.machine-machine.ensures.is c.machine-machine.ensures.stands

pub returns-in-None : goal.returns-in-None
returns-in-None c =
    let w = c.args.world.now in
    let f = c.args.followed.now in
    none_taken w.scenario c.args.leaf w f refl c.requires.followed
    (none_reported c.machine-machine.result.now w c.args.leaf c.as_slice-programs.result.now f.programs.items c.as_slice.result.now f.aheads.items
    c.next_due.result c.machine-machine.ensures.is c.as_slice-programs.ensures.value c.as_slice.ensures.value c.in-None.is c.next_due.ensures)

pub returns-in-Some : goal.returns-in-Some
returns-in-Some c =
    let w = c.args.world.now in
    let f = c.args.followed.now in
    let m = c.machine-machine.result.now in
    let long = c.go_on.auto.aheads ∙ c.as_mut_slice.ensures.len in
    one_taken w.scenario c.args.leaf w c.step-event.new.self f
    (record { programs = f.programs; aheads = with_items f.aheads c.go_on.new.aheads }) (event_of c.step-event.result c.step-event.new.line.items)
    c.in-Some._due
    c.step-event.ensures.scenario c.step-event.ensures.stopped c.step-event.ensures.signals refl c.requires.followed
    (due_printed m w c.args.leaf c.as_slice-programs.result.now f.programs.items c.as_slice.result.now f.aheads.items c.next_due.result c.in-Some._due
    c.machine-machine.ensures.is c.as_slice-programs.ensures.value c.as_slice.ensures.value c.in-Some.is c.next_due.ensures)
    c.step-event.ensures.stepped
    (subst (λ l. GoesOn f.programs.items f.aheads.items l w.scenario w.world c.args.leaf) (sym (with_items_is f.aheads c.go_on.new.aheads long)) (goes_as m w
    c.args.leaf c.as_slice-programs.result.now f.programs.items c.as_mut_slice.result.now f.aheads.items c.go_on.new.aheads
    c.machine-machine.ensures.is c.as_slice-programs.ensures.value c.as_mut_slice.ensures.value c.go_on.ensures))
