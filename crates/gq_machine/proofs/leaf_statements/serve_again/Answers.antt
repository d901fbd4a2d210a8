-- The end of the section for a signal.
use Rattle.std.proofs.Common.{◌≡◌, Some, None, refl, sym, ap, ◌∙◌}
use Rattle.std.specs.Prelude.{slice_get, slice_set}
use Rattle.gq_model.specs.machine.Doing.{Quiet}
use Rattle.gq_model.specs.machine.Scenario.{components, system}
use Rattle.gq_bytecode.specs.declared.operation.Operation.TheVariants as operation
use Rattle.gq_bytecode.specs.Nexts.{Active}
use Rattle.gq_statements.specs.Systems.{stage_in}
use Rattle.gq_leaf.specs.Leaf_states.{leaf_of}
use Rattle.gq_leaf.specs.Coded.{Coded, operation_of}
use Rattle.gq_leaf.proofs.Section_end_step.{reaction_ends}
use Rattle.gq_machine.specs.Machine_world.{frame_of}
use Rattle.gq_machine.proofs.Machine_leaf_frames.{elsewhere, leaf_set}
use Rattle.gq_machine.proofs.Machine_invariant_step.{kept_one}
use Rattle.gq_machine.proofs.Slot_system_kept.{scene_self}
use Rattle.gq_machine.proofs.Stepping_leaf_facts.{active_live, item_there, of_leaf, standing}
use Rattle.gq_machine.proofs.leaf_statements.serve_again.Goals as goal

pub returns-clause-step : goal.returns-clause-step
returns-clause-step c =
    let can = c.requires.ends.can in
    let f = c.args.fixed.now in
    let m = c.args.state.now in
    let ls = m.leaves.items in
    let x = c.args.number in
    let old = c.index_mut-leaf.result.now in
    let new = c.serve.new.self in
    let there = item_there ls x can.leaf old can.leaf_is c.index_mut-leaf.ensures.value in
    reaction_ends (system f.table) (frame_of f.table ls) m.slots x can.component old f.services.buffers c.lawful.ensures
    (standing f m can.holds c.lawful.ensures x can.component old can.component_is there)
    (of_leaf (λ l. Active l.state.phase) (slice_get ls x) old there c.requires.ends.next.active)
    (of_leaf (λ l. operation_of l ≡ Some operation.End) (slice_get ls x) old there c.requires.ends.next.next) (frame_of f.table (slice_set ls x new))
    c.requires.ends.i
    (of_leaf (λ l. l.state.current ≡ None) (slice_get ls x) old there c.requires.ends.no_request)
    (of_leaf (λ l. l.state.reacting ≡ Some c.requires.ends.i) (slice_get ls x) old there c.requires.ends.signal) (elsewhere f.table ls x new)
    (leaf_set f.table ls x can.component old new can.component_is there
    ∙ ap (λ (l : Coded). leaf_of can.component.node.program l.state) c.serve.ensures)

pub returns-clause-holds : goal.returns-clause-holds
returns-clause-holds c =
    let can = c.requires.ends.can in
    let f = c.args.fixed.now in
    let m = c.args.state.now in
    let x = c.args.number in
    let old = c.index_mut-leaf.result.now in
    let new = c.serve.new.self in
    let there = item_there m.leaves.items x can.leaf old can.leaf_is c.index_mut-leaf.ensures.value in
    let active = of_leaf (λ l. Active l.state.phase) (slice_get m.leaves.items x) old there c.requires.ends.next.active in
    kept_one f m _ x can.component old new Quiet can.holds c.lawful.ensures c.lawful.ensures can.component_is there refl
    (ap (λ (l : Coded). l.code) c.serve.ensures)
    (ap (λ (l : Coded). stage_in l.state.phase) c.serve.ensures ∙ sym (active_live old.state.phase active)) (scene_self m.slots) (returns-clause-step c)
