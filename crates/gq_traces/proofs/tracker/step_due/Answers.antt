-- The place of the next step.
use Rattle.std.proofs.Common.{◌≡◌, ◌∙◌, ap, arith}
use Rattle.std.specs.Prelude.{slice_get}
use Rattle.gq_model.specs.machine.Scenario.{components}
use Rattle.gq_statements.specs.Slot_statements.{current_seen}
use Rattle.gq_traces.specs.Step_positions.{next_place}
use Rattle.gq_model.specs.machine.World.{section_of}
use Rattle.gq_traces.proofs.Leaves_standing.{from_some, programs_long}
use Rattle.gq_traces.proofs.tracker.step_due.Goals as goal

pub due_in-requires-clause-leaf : goal.due_in-requires-clause-leaf
due_in-requires-clause-leaf c =
    let long = programs_long c.args.programs.now (components c.args.machine.now.scenario) c.requires.programs in
    let less = c.requires.leaf in
    omega (arith, less, long)

pub returns : goal.returns
returns c d l ts t there leaf aheads at =
    let m = c.args.machine.now in
    let current = from_some (slice_get m.world.leaves c.args.leaf) (λ z. current_seen c.current.result ≡ z.current) l leaf c.current.ensures in
    let reacting = from_some (slice_get m.world.leaves c.args.leaf) (λ z. c.reacting.result ≡ z.reacting) l leaf c.reacting.ensures in
    c.due_in.ensures (components m.scenario) d ts t c.requires.programs there aheads at
    ∙ ap (λ s. next_place d s t.todo t.loops)
    (c.section_of-section.ensures ∙ (ap (λ z. section_of z c.reacting.result) current ∙ ap (section_of l.current) reacting))
