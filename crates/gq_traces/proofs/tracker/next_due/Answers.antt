-- The step that a leaf can take.
use Rattle.std.proofs.Common.{◌≡◌, inl, inr, ◌∙◌, sym, subst, Some, None}
use Rattle.gq_model.specs.declared.phase.Phase.{Phase}
use Rattle.gq_traces.specs.internal.Printed_steps.{IsDue}
use Rattle.gq_model.specs.declared.phase.Phase.TheVariants.{Pending, Running, Blocked, Serving, Handling, Exited}
use Rattle.gq_traces.proofs.Leaf_next_step.{due_then, no_start, own_due, parts, section_read, start_due}
use Rattle.gq_traces.proofs.tracker.next_due.Goals as goal

pub returns-in-Running : goal.returns-in-Running
returns-in-Running c ts aheads =
    let p = parts c.args.machine.now.scenario c.args.machine.now.world c.args.leaf c.requires.leaf c.requires.leaves c.args.programs.now c.args.aheads.now
    c.requires.programs ts aheads in
    subst (IsDue (Some c.step_due.result)) (sym (due_then c.args.machine.now.scenario c.args.machine.now.world c.args.leaf c.requires.leaf c.requires.leaves
    c.args.programs.now c.args.aheads.now c.requires.programs ts aheads p
    c.phase.result c.phase.ensures Running c.in-Running.is))
    (own_due c.args.machine.now.scenario c.args.machine.now.world c.args.leaf c.requires.leaf c.requires.leaves c.args.programs.now c.args.aheads.now
    c.requires.programs ts aheads p
    c.step_due.result c.step_due.ensures)

pub returns-in-Handling : goal.returns-in-Handling
returns-in-Handling c ts aheads =
    let p = parts c.args.machine.now.scenario c.args.machine.now.world c.args.leaf c.requires.leaf c.requires.leaves c.args.programs.now c.args.aheads.now
    c.requires.programs ts aheads in
    subst (IsDue (Some c.step_due-in-Handling.result)) (sym (due_then c.args.machine.now.scenario c.args.machine.now.world c.args.leaf c.requires.leaf
    c.requires.leaves c.args.programs.now c.args.aheads.now c.requires.programs ts aheads p
    c.phase.result c.phase.ensures Handling c.in-Handling.is))
    (own_due c.args.machine.now.scenario c.args.machine.now.world c.args.leaf c.requires.leaf c.requires.leaves c.args.programs.now c.args.aheads.now
    c.requires.programs ts aheads p
    c.step_due-in-Handling.result c.step_due-in-Handling.ensures)

pub returns-in-Some : goal.returns-in-Some
returns-in-Some c ts aheads =
    let p = parts c.args.machine.now.scenario c.args.machine.now.world c.args.leaf c.requires.leaf c.requires.leaves c.args.programs.now c.args.aheads.now
    c.requires.programs ts aheads in
    let is = section_read c.args.machine.now.scenario c.args.machine.now.world c.args.leaf c.requires.leaf c.requires.leaves c.args.programs.now
    c.args.aheads.now c.requires.programs ts aheads p
    c.next_section.result c.next_section.ensures ∙ c.in-Some.is in
    subst (IsDue (Some c.start_due.result)) (sym (due_then c.args.machine.now.scenario c.args.machine.now.world c.args.leaf c.requires.leaf c.requires.leaves
    c.args.programs.now
    c.args.aheads.now c.requires.programs ts aheads p
    c.phase.result c.phase.ensures Serving c.in-Serving.is
    ∙ start_due c.args.machine.now.scenario c.args.machine.now.world c.args.leaf c.requires.leaf c.requires.leaves c.args.programs.now
    c.args.aheads.now c.requires.programs ts aheads p
    c.in-Some.section is))
    c.start_due.ensures

pub returns-in-None : goal.returns-in-None
returns-in-None c ts aheads =
    let p = parts c.args.machine.now.scenario c.args.machine.now.world c.args.leaf c.requires.leaf c.requires.leaves c.args.programs.now c.args.aheads.now
    c.requires.programs ts aheads in
    let is = section_read c.args.machine.now.scenario c.args.machine.now.world c.args.leaf c.requires.leaf c.requires.leaves c.args.programs.now
    c.args.aheads.now c.requires.programs ts aheads p
    c.next_section.result c.next_section.ensures ∙ c.in-None.is in
    subst (IsDue None) (sym (due_then c.args.machine.now.scenario c.args.machine.now.world c.args.leaf c.requires.leaf c.requires.leaves c.args.programs.now
    c.args.aheads.now c.requires.programs ts aheads p
    c.phase.result c.phase.ensures Serving c.in-Serving.is
    ∙ no_start c.args.machine.now.scenario c.args.machine.now.world c.args.leaf c.requires.leaf c.requires.leaves c.args.programs.now
    c.args.aheads.now c.requires.programs ts aheads p
    is)) tt

pub returns-in-Pending : goal.returns-in-Pending
returns-in-Pending c ts aheads =
    let p = parts c.args.machine.now.scenario c.args.machine.now.world c.args.leaf c.requires.leaf c.requires.leaves c.args.programs.now c.args.aheads.now
    c.requires.programs ts aheads in
    let by = λ (q : Phase) (e : c.phase.result ≡ q). due_then c.args.machine.now.scenario c.args.machine.now.world c.args.leaf c.requires.leaf
    c.requires.leaves c.args.programs.now c.args.aheads.now c.requires.programs ts aheads p
    c.phase.result c.phase.ensures q e in
    elim c.in-Pending.is [
      | inl e ↦ subst (IsDue None) (sym (by Pending e)) tt
      | inr f ↦ elim f [
        | inl e ↦ subst (IsDue None) (sym (by Blocked e)) tt
        | inr e ↦ subst (IsDue None) (sym (by Exited e)) tt
      ]
    ]
