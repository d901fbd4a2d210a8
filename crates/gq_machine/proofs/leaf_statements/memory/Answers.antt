-- A statement on memory.
use Rattle.std.proofs.Common.{◌≡◌, ◌+◌, ◌<◌, ◌^◌, suc, Some, refl, sym, ap, subst, ◌∙◌, arith}
use Rattle.std.specs.Prelude.{OnOk, Result, slice_get, slice_set}
use Rattle.std.proofs.lemmas.Result.{on_err_weaker}
use Rattle.gq_model.specs.declared.fault.Wrong.{Wrong}
use Rattle.gq_statements.specs.Slot_statements.{done}
use Rattle.gq_model.specs.machine.Scenario.{system}
use Rattle.gq_model.specs.machine.Doing.{Quiet}
use Rattle.gq_model.proofs.Small_facts.{set_there, some_same}
use Rattle.gq_bytecode.specs.Nexts.{Active}
use Rattle.gq_laws.proofs.session_links.Written_world_links.{set_here}
use Rattle.gq_statements.specs.Systems.{stage_in}
use Rattle.gq_leaf.specs.Coded.{Coded, IsStanding, operation_of}
use Rattle.gq_leaf.specs.Leaf_steps.{on}
use Rattle.gq_machine.specs.Machine_world.{frame_of, world_of}
use Rattle.gq_machine.specs.internal.Machine_invariant.{OfLeaf}
use Rattle.gq_machine.proofs.Machine_leaf_frames.{elsewhere, leaf_set}
use Rattle.gq_machine.proofs.Machine_invariant_step.{kept_one}
use Rattle.gq_machine.proofs.Stepping_leaf_facts.{active_live, at_current, item_there, live, of_leaf, on_ok, standing}
use Rattle.gq_machine.proofs.Slot_system_kept.{scene_beside}
use Rattle.gq_machine.proofs.leaf_statements.memory.Goals as goal

pub returns-clause-step : goal.returns-clause-step
returns-clause-step c =
    let can = c.requires.does.can in
    let f = c.args.fixed.now in
    let ls = c.args.state.now.leaves.items in
    let x = c.args.number in
    let old = c.index_mut-leaf.result.now in
    let new = c.memory-done.new.self in
    let there = item_there ls x can.leaf old can.leaf_is c.index_mut-leaf.ensures.value in
    c.memory-done.ensures.step (system f.table) (frame_of f.table ls) (frame_of f.table (slice_set ls x new)) can.component c.lawful.ensures
    (subst (IsStanding (system f.table) (frame_of f.table ls) c.args.state.now.slots x can.component old) (sym c.addresses.ensures)
    (standing f c.args.state.now can.holds c.lawful.ensures x can.component old can.component_is there))
    (of_leaf (λ l. Active l.state.phase) (slice_get ls x) old there c.requires.does.next.active) (elsewhere f.table ls x new)
    (leaf_set f.table ls x can.component old new can.component_is there)

pub returns-clause-acts : goal.returns-clause-acts
returns-clause-acts c = on_ok c.memory-done.result _ (λ e.
    let can = c.requires.does.can in
    let ls = c.args.state.now.leaves.items in
    let x = c.args.number in
    let old = c.index_mut-leaf.result.now in
    let new = c.memory-done.new.self in
    let there = item_there ls x can.leaf old can.leaf_is c.index_mut-leaf.ensures.value in
    let to : new ≡ on old new.state.registers.operands = subst (λ (r : Result (Unit {0}) Wrong). OnOk r (new ≡ on old new.state.registers.operands)) e
    c.memory-done.ensures.stays in
    let new_there : slice_get (slice_set ls x new) x ≡ Some new = set_here ls x new old there in
    let steps : new.state.steps ≡ suc old.state.steps = ap (λ (l : Coded). l.state.steps) to in
    record {
      active = subst (OfLeaf (λ (l : Coded). Active l.state.phase)) (sym new_there) (subst Active (sym (ap (λ (l : Coded). l.state.phase) to))
          (of_leaf (λ l. Active l.state.phase) (slice_get ls x) old there c.requires.does.next.active));
      counted = λ n h.
          let less = of_leaf (λ l. l.state.steps + (n + 1) < 2 ^ 64) (slice_get ls x) old there h in
          subst (OfLeaf (λ (l : Coded). l.state.steps + n < 2 ^ 64)) (sym new_there) (omega (arith, less, steps));
    })

pub memory-done-requires-clause-memory : goal.memory-done-requires-clause-memory
memory-done-requires-clause-memory c = c.requires.memory

pub memory-done-requires-clause-due : goal.memory-done-requires-clause-due
memory-done-requires-clause-due c =
    let can = c.requires.does.can in
    let m = c.args.state.now in
    let old = c.index_mut-leaf.result.now in
    let there = item_there m.leaves.items c.args.number can.leaf old can.leaf_is c.index_mut-leaf.ensures.value in
    record {
      next =
          of_leaf (λ l. operation_of l ≡ Some (c.args.operation)) (slice_get m.leaves.items c.args.number) old there c.requires.does.next.next;
      countable =
          subst (λ (l : Coded). l.state.steps + 1 < 2 ^ 64) (some_same (sym can.leaf_is ∙ there)) can.countable;
    }

pub memory-done-requires-clause-acting : goal.memory-done-requires-clause-acting
memory-done-requires-clause-acting c =
    let can = c.requires.does.can in
    record {
      live =
          let m = c.args.state.now in
          live c.args.fixed.now m can.holds c.lawful.ensures c.args.number can.component can.leaf can.component_is can.leaf_is
          (active_live can.leaf.state.phase (of_leaf (λ l. Active l.state.phase) (slice_get m.leaves.items c.args.number) can.leaf can.leaf_is
          c.requires.does.next.active));
      current =
          let there = item_there c.args.state.now.leaves.items c.args.number can.leaf c.index_mut-leaf.result.now can.leaf_is c.index_mut-leaf.ensures.value in
          at_current c.args.fixed.now c.args.state.now can.holds c.lawful.ensures c.args.number can.component c.index_mut-leaf.result.now can.component_is
          there;
    }

pub returns-clause-leaves : goal.returns-clause-leaves
returns-clause-leaves c =
    let can = c.requires.does.can in
    let m = c.args.state.now in
    let old = c.index_mut-leaf.result.now in
    record {
      holds = on_ok c.memory-done.result _ (λ e.
          let f = c.args.fixed.now in
          let x = c.args.number in
          let new = c.memory-done.new.self in
          let there = item_there m.leaves.items x can.leaf old can.leaf_is c.index_mut-leaf.ensures.value in
          let to : new ≡ on old new.state.registers.operands = subst (λ (r : Result (Unit {0}) Wrong). OnOk r (new ≡ on old new.state.registers.operands)) e
          c.memory-done.ensures.stays in
          kept_one f m _ x can.component old new Quiet can.holds c.lawful.ensures c.lawful-2.ensures can.component_is there refl
          (ap (λ (l : Coded). l.code) to) (ap (λ (l : Coded). stage_in l.state.phase) to)
          (scene_beside m.slots c.memory-done.new.slots c.memory-done.ensures.leaves.beside)
          (returns-clause-step c ∙ ap (λ r. done r (world_of f.table (slice_set m.leaves.items x new) c.memory-done.new.slots)) e));
      leaves =
          let there = item_there m.leaves.items c.args.number can.leaf old can.leaf_is c.index_mut-leaf.ensures.value in
          on_err_weaker c.memory-done.result (λ same. ap (slice_set m.leaves.items c.args.number) same ∙ set_there m.leaves.items c.args.number old there)
          c.memory-done.ensures.same;
      slots = c.memory-done.ensures.leaves.unchanged;
    }
