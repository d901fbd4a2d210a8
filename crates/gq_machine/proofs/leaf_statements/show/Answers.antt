-- The top operand that is written.
use Rattle.std.proofs.Common.{◌≡◌, ◌<◌, ◌+◌, ◌^◌, ◌∙◌, refl, ap, subst, sym, Some}
use Rattle.std.specs.Prelude.{decimal, slice_get, slice_set}
use Rattle.std.proofs.lemmas.Result.{on_err_weaker}
use Rattle.gq_model.specs.machine.Doing.{Line}
use Rattle.gq_model.specs.machine.Scenario.{system}
use Rattle.gq_model.proofs.Small_facts.{set_there, some_same}
use Rattle.gq_bytecode.specs.Nexts.{Active}
use Rattle.gq_bytecode.specs.declared.operation.Operation.TheVariants as operation
use Rattle.gq_statements.specs.Systems.{stage_in}
use Rattle.gq_leaf.specs.Coded.{Coded, operation_of}
use Rattle.gq_machine.specs.Machine_world.{frame_of}
use Rattle.gq_machine.proofs.Machine_leaf_frames.{elsewhere, leaf_set}
use Rattle.gq_machine.proofs.Machine_invariant_step.{kept_one}
use Rattle.gq_machine.proofs.Slot_system_kept.{scene_self}
use Rattle.gq_machine.proofs.Stepping_leaf_facts.{if_both, if_err, if_ok, item_there, of_leaf, on_if, standing}
use Rattle.gq_machine.proofs.leaf_statements.show.Goals as goal

pub returns-clause-step : goal.returns-clause-step
returns-clause-step c =
    let can = c.requires.does.can in
    let f = c.args.fixed.now in
    let m = c.args.state.now in
    let ls = m.leaves.items in
    let x = c.args.number in
    let old = c.index_mut-leaf.result.now in
    let new = c.show.new.self in
    let there = item_there ls x can.leaf old can.leaf_is c.index_mut-leaf.ensures.value in
    if_ok c.show.result _ _ (λ n led. led x f.services.buffers m.slots (system f.table) (frame_of f.table ls) (frame_of f.table (slice_set ls x new))
    can.component c.lawful.ensures (standing f m can.holds c.lawful.ensures x can.component old can.component_is there)
    (of_leaf (λ l. Active l.state.phase) (slice_get ls x) old there c.requires.does.next.active) (elsewhere f.table ls x new)
    (leaf_set f.table ls x can.component old new can.component_is there)) c.show.ensures.step

pub returns-clause-wrong : goal.returns-clause-wrong
returns-clause-wrong c =
    let can = c.requires.does.can in
    let f = c.args.fixed.now in
    let m = c.args.state.now in
    let ls = m.leaves.items in
    let x = c.args.number in
    let old = c.index_mut-leaf.result.now in
    let there = item_there ls x can.leaf old can.leaf_is c.index_mut-leaf.ensures.value in
    if_err c.show.result _ _ (λ w led. led x f.services.buffers m.slots (system f.table) (frame_of f.table ls) (frame_of f.table (slice_set ls x old))
    can.component c.lawful.ensures (standing f m can.holds c.lawful.ensures x can.component old can.component_is there)
    (of_leaf (λ l. Active l.state.phase) (slice_get ls x) old there c.requires.does.next.active) (elsewhere f.table ls x old)
    (leaf_set f.table ls x can.component old old can.component_is there)) c.show.ensures.wrong

pub returns-clause-holds : goal.returns-clause-holds
returns-clause-holds c =
    let can = c.requires.does.can in
    let f = c.args.fixed.now in
    let m = c.args.state.now in
    let x = c.args.number in
    let old = c.index_mut-leaf.result.now in
    let new = c.show.new.self in
    let there = item_there m.leaves.items x can.leaf old can.leaf_is c.index_mut-leaf.ensures.value in
    on_if c.show.result _ _ (λ n both.
    kept_one f m _ x can.component old new (Line (decimal n)) can.holds c.lawful.ensures c.lawful.ensures can.component_is there refl
    (ap (λ (l : Coded). l.code) both.1) (ap (λ (l : Coded). stage_in l.state.phase) both.1) (scene_self m.slots) both.0)
    (if_both c.show.result _ _ (returns-clause-step c) c.show.ensures.stays)

pub show-requires : goal.show-requires
show-requires c =
    let can = c.requires.does.can in
    let m = c.args.state.now in
    let old = c.index_mut-leaf.result.now in
    let there = item_there m.leaves.items c.args.number can.leaf old can.leaf_is c.index_mut-leaf.ensures.value in
    record {
      due = record {
        next =
            of_leaf (λ l. operation_of l ≡ Some (operation.Out)) (slice_get m.leaves.items c.args.number) old there c.requires.does.next.next;
        countable =
            subst (λ (l : Coded). l.state.steps + 1 < 2 ^ 64) (some_same (sym can.leaf_is ∙ there)) can.countable;
      };
    }

pub returns-clause-leaves : goal.returns-clause-leaves
returns-clause-leaves c =
    let can = c.requires.does.can in
    let m = c.args.state.now in
    let old = c.index_mut-leaf.result.now in
    let there = item_there m.leaves.items c.args.number can.leaf old can.leaf_is c.index_mut-leaf.ensures.value in
    on_err_weaker c.show.result (λ same. ap (slice_set m.leaves.items c.args.number) same ∙ set_there m.leaves.items c.args.number old there)
    c.show.ensures.unchanged
