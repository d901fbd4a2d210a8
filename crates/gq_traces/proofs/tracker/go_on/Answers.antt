-- Where the leaf stands then.
use Rattle.std.proofs.Common.{◌≡◌, inl, inr, ◌∙◌, arith, sym, subst}
use Rattle.std.specs.Prelude.{slice_set}
use Rattle.gq_model.specs.declared.phase.Phase.{Phase}
use Rattle.gq_model.specs.declared.phase.Phase.TheVariants.{Pending, Running, Blocked, Serving, Handling, Exited}
use Rattle.gq_model.specs.machine.Scenario.{components}
use Rattle.gq_model.proofs.Small_facts.{none_some}
use Rattle.gq_traces.specs.Step_positions.{Ahead}
use Rattle.gq_traces.specs.internal.Flat.{AreAheads}
use Rattle.gq_traces.proofs.Leaf_next_step.{due_then, handling_ahead, no_start, parts, running_ahead, section_read, start_ahead, start_due}
use Rattle.gq_traces.proofs.Leaves_standing.{programs_long, stand_long}
use Rattle.gq_traces.proofs.tracker.go_on.Goals as goal

pub start_section-requires-clause-leaf : goal.start_section-requires-clause-leaf
start_section-requires-clause-leaf c =
    let long = programs_long c.args.programs.now (components c.args.machine.now.scenario) c.requires.programs in
    let less = c.requires.leaf in
    omega (arith, less, long)

pub start_section-requires-clause-aheads : goal.start_section-requires-clause-aheads
start_section-requires-clause-aheads c = stand_long c.args.programs.now c.args.aheads.now c.requires.aheads

pub returns-in-Running : goal.returns-in-Running
returns-in-Running c ts d aheads is =
    let p = parts c.args.machine.now.scenario c.args.machine.now.world c.args.leaf c.requires.leaf c.requires.leaves c.args.programs.now c.args.aheads.now
    c.requires.programs ts aheads in
    subst (λ (a : Ahead). AreAheads c.args.programs.now c.pass_own.new.aheads (slice_set ts c.args.leaf a))
    (running_ahead c.args.machine.now.scenario c.args.machine.now.world c.args.leaf c.requires.leaf c.requires.leaves c.args.programs.now c.args.aheads.now
    c.requires.programs ts aheads p d
    (sym (due_then c.args.machine.now.scenario c.args.machine.now.world c.args.leaf c.requires.leaf c.requires.leaves c.args.programs.now c.args.aheads.now
    c.requires.programs ts aheads p
    c.phase.result c.phase.ensures Running c.in-Running.is) ∙ is))
    (c.pass_own.ensures p.leaf ts p.ahead p.leaf_is aheads p.ahead_is)

pub returns-in-Handling : goal.returns-in-Handling
returns-in-Handling c ts d aheads is =
    let p = parts c.args.machine.now.scenario c.args.machine.now.world c.args.leaf c.requires.leaf c.requires.leaves c.args.programs.now c.args.aheads.now
    c.requires.programs ts aheads in
    subst (λ (a : Ahead). AreAheads c.args.programs.now c.pass_own-in-Handling.new.aheads (slice_set ts c.args.leaf a))
    (handling_ahead c.args.machine.now.scenario c.args.machine.now.world c.args.leaf c.requires.leaf c.requires.leaves c.args.programs.now c.args.aheads.now
    c.requires.programs ts aheads p d
    (sym (due_then c.args.machine.now.scenario c.args.machine.now.world c.args.leaf c.requires.leaf c.requires.leaves c.args.programs.now c.args.aheads.now
    c.requires.programs ts aheads p
    c.phase.result c.phase.ensures Handling c.in-Handling.is) ∙ is))
    (c.pass_own-in-Handling.ensures p.leaf ts p.ahead p.leaf_is aheads p.ahead_is)

pub returns-in-Some : goal.returns-in-Some
returns-in-Some c ts d aheads is =
    let p = parts c.args.machine.now.scenario c.args.machine.now.world c.args.leaf c.requires.leaf c.requires.leaves c.args.programs.now c.args.aheads.now
    c.requires.programs ts aheads in
    let at = section_read c.args.machine.now.scenario c.args.machine.now.world c.args.leaf c.requires.leaf c.requires.leaves c.args.programs.now
    c.args.aheads.now c.requires.programs ts aheads p
    c.next_section.result c.next_section.ensures ∙ c.in-Some.is in
    subst (λ (a : Ahead). AreAheads c.args.programs.now c.start_section.new.aheads (slice_set ts c.args.leaf a))
    (start_ahead c.args.machine.now.scenario c.args.machine.now.world c.args.leaf c.requires.leaf c.requires.leaves c.args.programs.now
    c.args.aheads.now c.requires.programs ts aheads p c.in-Some.section d
    (sym (due_then c.args.machine.now.scenario c.args.machine.now.world c.args.leaf c.requires.leaf c.requires.leaves c.args.programs.now
    c.args.aheads.now c.requires.programs ts aheads p
    c.phase.result c.phase.ensures Serving c.in-Serving.is
    ∙ start_due c.args.machine.now.scenario c.args.machine.now.world c.args.leaf c.requires.leaf c.requires.leaves c.args.programs.now
    c.args.aheads.now c.requires.programs ts aheads p
    c.in-Some.section at) ∙ is))
    (c.start_section.ensures (components c.args.machine.now.scenario) p.component ts c.requires.programs p.component_is aheads)

pub returns-in-None : goal.returns-in-None
returns-in-None c ts d aheads is =
    let p = parts c.args.machine.now.scenario c.args.machine.now.world c.args.leaf c.requires.leaf c.requires.leaves c.args.programs.now c.args.aheads.now
    c.requires.programs ts aheads in
    let at = section_read c.args.machine.now.scenario c.args.machine.now.world c.args.leaf c.requires.leaf c.requires.leaves c.args.programs.now
    c.args.aheads.now c.requires.programs ts aheads p
    c.next_section.result c.next_section.ensures ∙ c.in-None.is in
    absurd (none_some (sym (due_then c.args.machine.now.scenario c.args.machine.now.world c.args.leaf c.requires.leaf c.requires.leaves c.args.programs.now
    c.args.aheads.now c.requires.programs ts aheads p
    c.phase.result c.phase.ensures Serving c.in-Serving.is
    ∙ no_start c.args.machine.now.scenario c.args.machine.now.world c.args.leaf c.requires.leaf c.requires.leaves c.args.programs.now
    c.args.aheads.now c.requires.programs ts aheads p
    at) ∙ is))

pub returns-in-Pending : goal.returns-in-Pending
returns-in-Pending c ts d aheads is =
    let p = parts c.args.machine.now.scenario c.args.machine.now.world c.args.leaf c.requires.leaf c.requires.leaves c.args.programs.now c.args.aheads.now
    c.requires.programs ts aheads in
    let by = λ (q : Phase) (e : c.phase.result ≡ q). due_then c.args.machine.now.scenario c.args.machine.now.world c.args.leaf c.requires.leaf
    c.requires.leaves c.args.programs.now c.args.aheads.now c.requires.programs ts aheads p
    c.phase.result c.phase.ensures q e in
    elim c.in-Pending.is [
      | inl e ↦ absurd (none_some (sym (by Pending e) ∙ is))
      | inr f ↦ elim f [
        | inl e ↦ absurd (none_some (sym (by Blocked e) ∙ is))
        | inr e ↦ absurd (none_some (sym (by Exited e) ∙ is))
      ]
    ]
