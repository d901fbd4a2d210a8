-- Steps that a leaf takes alone, where changes alone are reported.
use Rattle.std.proofs.Common.{◌∙◌, ap, refl, subst, sym}
use Rattle.std.proofs.lemmas.List.{with_items_is}
use Rattle.std.specs.Vec.{with_items}
use Rattle.gq_traces.specs.Traces_written.{prints_all}
use Rattle.gq_traces.specs.declared.trace.Tracing.{Tracing}
use Rattle.gq_traces.specs.internal.Printed_steps.{IsSilent}
use Rattle.gq_traces.proofs.Steps_taken_alone.{no_silent, silent, steps_as}
use Rattle.gq_traces.proofs.trace.silent_turns.Goals as goal

pub returns-in-All-clause-silent : goal.returns-in-All-clause-silent
returns-in-All-clause-silent c = no_silent _ c.args.world.now c.args.tracing.now c.args.leaf c.requires.can

pub returns-in-Changes-clause-silent : goal.returns-in-Changes-clause-silent
returns-in-Changes-clause-silent c =
    let w = c.args.world.now in
    let t = c.args.tracing.now in
    let took = c.steps_alone in
    let after : Tracing = record { programs = t.programs; aheads = with_items t.aheads took.new.aheads; notes = t.notes } in
    let long = took.auto.aheads ∙ c.as_mut_slice.ensures.len in
    subst (λ all. IsSilent all c.args.leaf took.result w took.new.world t after) (sym (ap prints_all c.in-Changes.is))
    (silent w took.new.world t after c.args.leaf took.result took.ensures.scenario took.ensures.running took.ensures.signals c.requires.leaf
    c.counted.ensures.stands c.counted.ensures.leaves
    c.requires.can refl refl
    (steps_as w.scenario c.as_slice.result.now t.programs.items c.as_mut_slice.result.now t.aheads.items took.new.aheads after.aheads.items c.args.leaf
    took.result w.world took.new.world.world c.as_slice.ensures.value c.as_mut_slice.ensures.value (sym (with_items_is t.aheads took.new.aheads long))
    took.ensures.steps))
