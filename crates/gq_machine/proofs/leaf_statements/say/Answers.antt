-- A text that is said.
use Rattle.std.proofs.Common.{◌≡◌, ◌<◌, ◌+◌, ◌^◌, ◌∙◌, refl, ap, subst, sym, Some}
use Rattle.std.specs.Prelude.{slice_get, slice_set}
use Rattle.gq_model.specs.declared.program.Instruction.TheVariants as instruction
use Rattle.gq_model.specs.machine.Doing.{Line}
use Rattle.gq_model.specs.machine.Scenario.{system}
use Rattle.gq_model.proofs.Small_facts.{some_same}
use Rattle.gq_bytecode.specs.Nexts.{Active}
use Rattle.gq_bytecode.specs.declared.operation.Operation.TheVariants as operation
use Rattle.gq_statements.specs.Systems.{stage_in}
use Rattle.gq_leaf.specs.Coded.{Coded, operation_of}
use Rattle.gq_machine.specs.Machine_world.{frame_of}
use Rattle.gq_machine.proofs.Machine_leaf_frames.{elsewhere, leaf_set}
use Rattle.gq_machine.proofs.Machine_invariant_step.{kept_one}
use Rattle.gq_machine.proofs.Slot_system_kept.{scene_self}
use Rattle.gq_machine.proofs.Stepping_leaf_facts.{item_there, of_leaf, standing}
use Rattle.gq_machine.proofs.leaf_statements.say.Goals as goal

pub returns-clause-step : goal.returns-clause-step
returns-clause-step c text said =
    let can = c.requires.does.can in
    let f = c.args.fixed.now in
    let m = c.args.state.now in
    let ls = m.leaves.items in
    let x = c.args.number in
    let old = c.index_mut-leaf.result.now in
    let new = c.said.new.self in
    let there = item_there ls x can.leaf old can.leaf_is c.index_mut-leaf.ensures.value in
    c.said.ensures.step text x f.services.buffers m.slots
    (of_leaf (λ l. slice_get l.code.longs c.args.statement ≡ Some (instruction.Say text)) (slice_get ls x) old there said) (system f.table)
    (frame_of f.table ls) (frame_of f.table (slice_set ls x new)) can.component c.lawful.ensures
    (standing f m can.holds c.lawful.ensures x can.component old can.component_is there)
    (of_leaf (λ l. Active l.state.phase) (slice_get ls x) old there c.requires.does.next.active) (elsewhere f.table ls x new)
    (leaf_set f.table ls x can.component old new can.component_is there)

pub returns-clause-holds : goal.returns-clause-holds
returns-clause-holds c text said =
    let can = c.requires.does.can in
    let f = c.args.fixed.now in
    let m = c.args.state.now in
    let x = c.args.number in
    let old = c.index_mut-leaf.result.now in
    let new = c.said.new.self in
    let there = item_there m.leaves.items x can.leaf old can.leaf_is c.index_mut-leaf.ensures.value in
    kept_one f m _ x can.component old new (Line text) can.holds c.lawful.ensures c.lawful.ensures can.component_is there refl
    (ap (λ (l : Coded). l.code) c.said.ensures.stays) (ap (λ (l : Coded). stage_in l.state.phase) c.said.ensures.stays) (scene_self m.slots)
    (returns-clause-step c text said)

pub said-requires : goal.said-requires
said-requires c =
    let can = c.requires.does.can in
    let m = c.args.state.now in
    let old = c.index_mut-leaf.result.now in
    let there = item_there m.leaves.items c.args.number can.leaf old can.leaf_is c.index_mut-leaf.ensures.value in
    record {
      due = record {
        next =
            of_leaf (λ l. operation_of l ≡ Some (operation.Long c.args.statement)) (slice_get m.leaves.items c.args.number) old there c.requires.does.next.next;
        countable =
            subst (λ (l : Coded). l.state.steps + 1 < 2 ^ 64) (some_same (sym can.leaf_is ∙ there)) can.countable;
      };
    }
