use Rattle.std.proofs.Common.{◌∙◌, ◌≡◌, List, get_or, sym, ap, subst, arith}
use Rattle.std.specs.Prelude.{slice_get}
use Rattle.gq_model.specs.machine.Scenario.{Component, Interfaces, system}
use Rattle.gq_model.specs.rules.Verdict.{program_fault}
use Rattle.gq_verify.specs.Subjects.{subject_of}
use Rattle.gq_why.proofs.Leaf_texts.{at_place, breaks_none, leaf_within, lines_are, parts_put, program_within, subject_is}
use Rattle.gq_why.proofs.why.text_of.Goals as goal

pub bounds-components-index : goal.bounds-components-index
bounds-components-index c =
    let r = c.requires in
    let less = leaf_within c.args.scenario.now c.args.free.now c.args.components.now c.args.leaf r.free r.components r.there in
    let is = c.index.ensures in omega (arith, less, is)

pub bounds-programs-index : goal.bounds-programs-index
bounds-programs-index c =
    let r = c.requires in
    let cs = c.args.components.now in
    let less = leaf_within c.args.scenario.now c.args.free.now cs c.args.leaf r.free r.components r.there in
    let is = c.index-2.ensures in
    program_within cs c.as_slice-programs.result.now c.index-2.result (c.as_slice-programs.ensures.value ∙ r.programs) (omega (arith, less, is))

pub verified-verified-requires : goal.verified-verified-requires
verified-verified-requires c =
    let r = c.requires in
    let cs = c.args.components.now in
    let x = c.args.leaf in
    let component = c.index-components-index.result in
    let program = c.index-programs-index.result in
    let less = leaf_within c.args.scenario.now c.args.free.now cs x r.free r.components r.there in
    let there = at_place cs x component less (c.index-components-index.is ∙ ap (λ k. get_or cs k component) c.index.ensures) in
    let read = c.index-programs-index.is ∙ ap (λ k. get_or c.as_slice-programs.result.now k program) c.index-2.ensures in
    subst (λ (l : Interfaces). program_fault (subject_of program component.node.provides l component.node.inputs component.node.signals) ≡ _)
    (sym c.interfaces.ensures)
    (breaks_none c.args.free.now cs c.as_slice-programs.result.now x component program r.components (c.as_slice-programs.ensures.value ∙ r.programs) there read
    r.faultless)

pub push_steps-requires-clause-there : goal.push_steps-requires-clause-there
push_steps-requires-clause-there c =
    let r = c.requires in leaf_within c.args.scenario.now c.args.free.now c.args.components.now c.args.leaf r.free r.components r.there

pub returns : goal.returns
returns c =
    let r = c.requires in
    let s = c.args.scenario.now in
    let free = c.args.free.now in
    let cs = c.args.components.now in
    let x = c.args.leaf in
    let component = c.index-components-index.result in
    let program = c.index-programs-index.result in
    let less = leaf_within s free cs x r.free r.components r.there in
    let there = at_place cs x component less (c.index-components-index.is ∙ ap (λ k. get_or cs k component) c.index.ensures) in
    let read = c.index-programs-index.is ∙ ap (λ k. get_or c.as_slice-programs.result.now k program) c.index-2.ensures in
    let judged = c.verified-verified.ensures
    ∙ (ap (λ (l : Interfaces). subject_of program component.node.provides l component.node.inputs component.node.signals) c.interfaces.ensures
    ∙ subject_is free cs c.as_slice-programs.result.now x component program r.components (c.as_slice-programs.ensures.value ∙ r.programs) there read) in
    let node = c.leaf.result.now in
    parts_put s (system free) x component c.verified-verified.result _ c.quantum-quantum.result node.quantum _ _ _ _ c.version.ensures judged
    c.quantum-quantum.ensures c.new-text.ensures.items c.in_ok-push_owns.ensures c.in_ok-push_needs.ensures (c.in_ok-push_steps.ensures component there)
    ∙ sym (lines_are s free x component node r.free (ap (λ (l : List Component). slice_get l x) (sym r.components) ∙ there) c.leaf.ensures)
