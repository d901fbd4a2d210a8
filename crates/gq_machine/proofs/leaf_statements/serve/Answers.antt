-- The end of `main` of a leaf that provides a service or has signals.
use Rattle.std.proofs.Common.{◌≡◌, ℕ, true, List, Option, Some, None, refl, sym, ap, ◌∙◌}
use Rattle.std.specs.Prelude.{slice_get, slice_set}
use Rattle.gq_model.specs.machine.Doing.{Quiet}
use Rattle.gq_model.specs.machine.Scenario.{Component, components, system}
use Rattle.gq_model.proofs.Small_facts.{some_same}
use Rattle.gq_laws.specs.Leaf_phases.{serves}
use Rattle.gq_bytecode.specs.declared.operation.Operation.TheVariants as operation
use Rattle.gq_bytecode.specs.Nexts.{Active}
use Rattle.gq_statements.specs.Systems.{stage_in}
use Rattle.gq_leaf.specs.Leaf_states.{leaf_of}
use Rattle.gq_leaf.specs.Coded.{Coded, operation_of}
use Rattle.gq_leaf.proofs.Section_end_step.{main_serves}
use Rattle.gq_machine.specs.Machine_world.{frame_of}
use Rattle.gq_machine.specs.internal.Machine_invariant.{ServesOn}
use Rattle.gq_machine.proofs.Machine_leaf_frames.{elsewhere, leaf_set}
use Rattle.gq_machine.proofs.Machine_invariant_step.{kept_one}
use Rattle.gq_machine.proofs.Slot_system_kept.{scene_self}
use Rattle.gq_machine.proofs.Stepping_leaf_facts.{active_live, item_there, of_leaf, standing}
use Rattle.gq_machine.proofs.leaf_statements.serve.Goals as goal

serves_on : (o : Option Component) (c : Component) → o ≡ Some c → ServesOn o → serves c.node.provides c.node.signals ≡ true
serves_on None c e h = absurd h
serves_on (Some d) c e h = ap (λ (b : Component). serves b.node.provides b.node.signals) (sym (some_same e)) ∙ h

pub returns-clause-step : goal.returns-clause-step
returns-clause-step c =
    let can = c.requires.does.can in
    let f = c.args.fixed.now in
    let m = c.args.state.now in
    let ls = m.leaves.items in
    let x = c.args.number in
    let old = c.index_mut-leaf.result.now in
    let new = c.serve.new.self in
    let there = item_there ls x can.leaf old can.leaf_is c.index_mut-leaf.ensures.value in
    let some = serves_on (slice_get (components f.table) x) can.component can.component_is c.requires.provides.provides in
    main_serves (system f.table) (frame_of f.table ls) m.slots x can.component old f.services.buffers c.lawful.ensures
    (standing f m can.holds c.lawful.ensures x can.component old can.component_is there)
    (of_leaf (λ l. Active l.state.phase) (slice_get ls x) old there c.requires.does.next.active)
    (of_leaf (λ l. operation_of l ≡ Some operation.End) (slice_get ls x) old there c.requires.does.next.next) (frame_of f.table (slice_set ls x new))
    (of_leaf (λ l. l.state.current ≡ None) (slice_get ls x) old there c.requires.provides.main.no_request)
    (of_leaf (λ l. l.state.reacting ≡ None) (slice_get ls x) old there c.requires.provides.main.no_signal) some (elsewhere f.table ls x new)
    (leaf_set f.table ls x can.component old new can.component_is there
    ∙ ap (λ (l : Coded). leaf_of can.component.node.program l.state) c.serve.ensures)

pub returns-clause-holds : goal.returns-clause-holds
returns-clause-holds c =
    let can = c.requires.does.can in
    let f = c.args.fixed.now in
    let m = c.args.state.now in
    let x = c.args.number in
    let old = c.index_mut-leaf.result.now in
    let new = c.serve.new.self in
    let there = item_there m.leaves.items x can.leaf old can.leaf_is c.index_mut-leaf.ensures.value in
    let active = of_leaf (λ l. Active l.state.phase) (slice_get m.leaves.items x) old there c.requires.does.next.active in
    kept_one f m _ x can.component old new Quiet can.holds c.lawful.ensures c.lawful.ensures can.component_is there refl
    (ap (λ (l : Coded). l.code) c.serve.ensures)
    (ap (λ (l : Coded). stage_in l.state.phase) c.serve.ensures ∙ sym (active_live old.state.phase active)) (scene_self m.slots) (returns-clause-step c)
