-- A request of a leaf.
use Rattle.std.proofs.Common.{◌≡◌, ◌<◌, ◌+◌, ◌^◌, Some, refl, sym, ap, subst, ◌∙◌}
use Rattle.std.specs.Prelude.{slice_get, slice_set}
use Rattle.std.proofs.lemmas.Result.{on_err_weaker}
use Rattle.gq_model.specs.machine.Doing.{Quiet}
use Rattle.gq_model.specs.machine.Scenario.{system}
use Rattle.gq_model.proofs.Small_facts.{set_there, some_same}
use Rattle.gq_bytecode.specs.Nexts.{Active}
use Rattle.gq_bytecode.specs.declared.operation.Operation.TheVariants as operation
use Rattle.gq_statements.specs.Systems.{stage_in}
use Rattle.gq_statements.specs.Slot_statements.{done}
use Rattle.gq_leaf.specs.Coded.{Coded, operation_of}
use Rattle.gq_leaf.proofs.Blocked_leaf_world.{active_stage}
use Rattle.gq_machine.specs.Machine_world.{frame_of, world_of}
use Rattle.gq_machine.proofs.Machine_leaf_frames.{elsewhere, leaf_set}
use Rattle.gq_machine.proofs.Machine_invariant_step.{kept_one}
use Rattle.gq_machine.proofs.Stepping_leaf_facts.{active_awake, active_live, at_current, is_idle, item_there, live, of_leaf, on_ok, own_links, standing}
use Rattle.gq_machine.proofs.Stepping_leaf_facts.{waits_to}
use Rattle.gq_machine.proofs.Slot_system_kept.{scene_asked}
use Rattle.gq_machine.proofs.leaf_statements.close.Goals as goal

pub close-done-requires-clause-linked : goal.close-done-requires-clause-linked
close-done-requires-clause-linked c = own_links c.args.fixed.now c.args.state.now c.requires.does.can.holds c.lawful.ensures c.args.number

pub returns-clause-step : goal.returns-clause-step
returns-clause-step c =
    let can = c.requires.does.can in
    let f = c.args.fixed.now in
    let ls = c.args.state.now.leaves.items in
    let x = c.args.number in
    let old = c.index_mut-leaf.result.now in
    let new = c.close-done.new.self in
    let there = item_there ls x can.leaf old can.leaf_is c.index_mut-leaf.ensures.value in
    c.close-done.ensures.step f.services.buffers (system f.table) (frame_of f.table ls) (frame_of f.table (slice_set ls x new)) can.component c.lawful.ensures
    (standing f c.args.state.now can.holds c.lawful.ensures x can.component old can.component_is there)
    (of_leaf (λ l. Active l.state.phase) (slice_get ls x) old there c.requires.does.next.active) (elsewhere f.table ls x new)
    (leaf_set f.table ls x can.component old new can.component_is there)

pub close-done-requires-clause-due : goal.close-done-requires-clause-due
close-done-requires-clause-due c =
    let can = c.requires.does.can in
    let m = c.args.state.now in
    let old = c.index_mut-leaf.result.now in
    let there = item_there m.leaves.items c.args.number can.leaf old can.leaf_is c.index_mut-leaf.ensures.value in
    record {
      next =
          of_leaf (λ l. operation_of l ≡ Some (operation.Close c.args.place)) (slice_get m.leaves.items c.args.number) old there c.requires.does.next.next;
      countable =
          subst (λ (l : Coded). l.state.steps + 1 < 2 ^ 64) (some_same (sym can.leaf_is ∙ there)) can.countable;
    }

pub close-done-requires-clause-asks : goal.close-done-requires-clause-asks
close-done-requires-clause-asks c =
    let can = c.requires.does.can in
    let m = c.args.state.now in
    record {
      live =
          live c.args.fixed.now m can.holds c.lawful.ensures c.args.number can.component can.leaf can.component_is can.leaf_is
          (active_live can.leaf.state.phase (of_leaf (λ l. Active l.state.phase) (slice_get m.leaves.items c.args.number) can.leaf can.leaf_is
          c.requires.does.next.active));
      current =
          let there = item_there m.leaves.items c.args.number can.leaf c.index_mut-leaf.result.now can.leaf_is c.index_mut-leaf.ensures.value in
          at_current c.args.fixed.now m can.holds c.lawful.ensures c.args.number can.component c.index_mut-leaf.result.now can.component_is there;
      idle =
          let old = c.index_mut-leaf.result.now in
          let there = item_there m.leaves.items c.args.number can.leaf old can.leaf_is c.index_mut-leaf.ensures.value in
          is_idle c.args.fixed.now m can.holds c.lawful.ensures c.args.number can.component old can.component_is there
          (active_awake old.state.phase (of_leaf (λ l. Active l.state.phase) (slice_get m.leaves.items c.args.number) old there c.requires.does.next.active));
    }

pub returns-clause-leaves : goal.returns-clause-leaves
returns-clause-leaves c =
    let can = c.requires.does.can in
    let m = c.args.state.now in
    let old = c.index_mut-leaf.result.now in
    record {
      holds = on_ok c.close-done.result _ (λ e.
          let f = c.args.fixed.now in
          let x = c.args.number in
          let new = c.close-done.new.self in
          let there = item_there m.leaves.items x can.leaf old can.leaf_is c.index_mut-leaf.ensures.value in
          let active = of_leaf (λ l. Active l.state.phase) (slice_get m.leaves.items x) old there c.requires.does.next.active in
          let to = waits_to c.close-done.result _ e c.close-done.ensures.waits.waits in
          kept_one f m _ x can.component old new Quiet can.holds c.lawful.ensures c.lawful-2.ensures can.component_is there refl
          (ap (λ (l : Coded). l.code) to) (ap (λ (l : Coded). stage_in l.state.phase) to ∙ active_stage old.state.phase active)
          (scene_asked m.slots c.close-done.new.slots c.close-done.ensures.waits.stays)
          (returns-clause-step c ∙ ap (λ r. done r (world_of f.table (slice_set m.leaves.items x new) c.close-done.new.slots)) e));
      leaves =
          let there = item_there m.leaves.items c.args.number can.leaf old can.leaf_is c.index_mut-leaf.ensures.value in
          on_err_weaker c.close-done.result (λ same. ap (slice_set m.leaves.items c.args.number) same ∙ set_there m.leaves.items c.args.number old there)
          c.close-done.ensures.waits.same;
      slots = c.close-done.ensures.waits.unchanged;
    }
