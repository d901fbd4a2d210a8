-- A session that is opened.
use Rattle.std.proofs.Common.{◌≡◌, ◌<◌, ◌+◌, ◌^◌, ℕ, List, [], Option, Some, None, get_or, length, refl, sym, ap, subst, ◌∙◌, arith, rules}
use Rattle.std.specs.Prelude.{slice_get, slice_set}
use Rattle.std.proofs.lemmas.Result.{on_err_weaker}
use Rattle.gq_model.specs.declared.program.Instruction.TheVariants as instruction
use Rattle.gq_model.specs.machine.Amounts.{amount}
use Rattle.gq_model.specs.machine.Doing.{Quiet}
use Rattle.gq_model.specs.machine.Scenario.{Component, Scenario, components, interface_in, open_caps, system}
use Rattle.gq_model.proofs.Small_facts.{set_there}
use Rattle.gq_bytecode.specs.Nexts.{Active}
use Rattle.gq_bytecode.specs.declared.operation.Operation.TheVariants.{Long}
use Rattle.gq_prepared.specs.Prepared.{IsOpening, names_of}
use Rattle.gq_prepared.specs.declared.openings.Opening.{Opening}
use Rattle.gq_statements.specs.Systems.{stage_in}
use Rattle.gq_statements.specs.Slot_statements.{done}
use Rattle.gq_leaf.specs.Coded.{Coded, operation_of}
use Rattle.gq_leaf.proofs.Blocked_leaf_world.{active_stage}
use Rattle.gq_machine.specs.Machine_world.{frame_of, world_of}
use Rattle.gq_machine.specs.internal.Gifts.{LeadsBy}
use Rattle.gq_machine.proofs.Machine_leaf_frames.{elsewhere, leaf_set}
use Rattle.gq_machine.proofs.Request_donations.{no_open_caps, uncounted}
use Rattle.gq_machine.proofs.Machine_invariant_step.{kept_one}
use Rattle.gq_machine.proofs.Open_statement_targets.{opening_at, prepared_at}
use Rattle.gq_machine.proofs.Open_server_ready.{apart, few_there, server_live}
use Rattle.gq_machine.proofs.Stepping_leaf_facts.{active_awake, active_live, at_current, is_idle, item_there, live, of_leaf, on_ok, own_links, service_count}
use Rattle.gq_machine.proofs.Stepping_leaf_facts.{standing}
use Rattle.gq_machine.proofs.Stepping_leaf_facts.{waits_to}
use Rattle.gq_machine.proofs.Slot_system_kept.{scene_asked}
use Rattle.gq_machine.proofs.donating_requests.open.Goals as goal

led : (s : Scenario) (o : Option Component) (c : Component) (name : List ℕ) (p : Opening) → o ≡ Some c → LeadsBy s o name p → IsOpening s c name p
led s o c name p there h = subst (λ d. LeadsBy s d name p) there h

pub returns-in_default-clause-step : goal.returns-in_default-clause-step
returns-in_default-clause-step c =
    let can = c.requires.does.can in
    let f = c.args.fixed.now in
    let m = c.args.state.now in
    let ls = m.leaves.items in
    let x = c.args.number in
    let old = c.index_mut-leaf.result.now in
    let there = item_there ls x can.leaf old can.leaf_is c.index_mut-leaf.ensures.value in
    let opens = c.requires.opens in
    let long = of_leaf (λ l. slice_get l.code.longs c.args.statement ≡ Some (instruction.Open c.args.place opens.0 c.args.bytes)) (slice_get ls x) old there
    opens.1 in
    let is = led f.table (slice_get (components f.table) x) can.component opens.0 c.opening-opening.result can.component_is
    (c.opening-opening.ensures c.args.place opens.0 c.args.bytes opens.1) in
    c.opens_nowhere.ensures c.args.place opens.0 c.args.bytes x f.services.buffers m.slots long (system f.table) (frame_of f.table ls) can.component
    c.lawful.ensures (standing f m can.holds c.lawful.ensures x can.component old can.component_is there)
    (of_leaf (λ l. Active l.state.phase) (slice_get ls x) old there c.requires.does.next.active) (is.server ∙ c.in_default.is)

pub names_slot-requires-clause-next : goal.names_slot-requires-clause-next
names_slot-requires-clause-next c =
    let can = c.requires.does.can in
    let m = c.args.state.now in
    let old = c.index_mut-leaf.result.now in
    let there = item_there m.leaves.items c.args.number can.leaf old can.leaf_is c.index_mut-leaf.ensures.value in
    of_leaf (λ l. operation_of l ≡ Some (Long c.args.statement)) (slice_get m.leaves.items c.args.number) old there c.requires.does.next.next

pub opens_nowhere-requires : goal.opens_nowhere-requires
opens_nowhere-requires c =
    let can = c.requires.does.can in
    let m = c.args.state.now in
    let old = c.index_mut-leaf.result.now in
    let there = item_there m.leaves.items c.args.number can.leaf old can.leaf_is c.index_mut-leaf.ensures.value in
    of_leaf (λ l. operation_of l ≡ Some (Long c.args.statement)) (slice_get m.leaves.items c.args.number) old there c.requires.does.next.next

pub open-done-requires-clause-place : goal.open-done-requires-clause-place
open-done-requires-clause-place c =
    let can = c.requires.does.can in
    let m = c.args.state.now in
    let old = c.index_mut-leaf.result.now in
    let there = item_there m.leaves.items c.args.number can.leaf old can.leaf_is c.index_mut-leaf.ensures.value in
    let opens = c.requires.opens in
    let i = instruction.Open c.args.place opens.0 c.args.bytes in
    c.names_slot.ensures i c.args.place
    (of_leaf (λ l. slice_get l.code.longs c.args.statement ≡ Some i) (slice_get m.leaves.items c.args.number) old there opens.1) refl

pub open-done-requires-clause-due : goal.open-done-requires-clause-due
open-done-requires-clause-due c =
    let can = c.requires.does.can in
    let m = c.args.state.now in
    let old = c.index_mut-leaf.result.now in
    let there = item_there m.leaves.items c.args.number can.leaf old can.leaf_is c.index_mut-leaf.ensures.value in
    record {
      next =
          of_leaf (λ l. operation_of l ≡ Some (Long c.args.statement)) (slice_get m.leaves.items c.args.number) old there c.requires.does.next.next;
      countable =
          subst (λ (l : Coded). l.state.steps + 1 < 2 ^ 64) (Rattle.gq_model.proofs.Small_facts.some_same (sym can.leaf_is ∙ there)) can.countable;
    }

pub open-done-requires-clause-opens : goal.open-done-requires-clause-opens
open-done-requires-clause-opens c =
    let can = c.requires.does.can in
    let f = c.args.fixed.now in
    let opens = c.requires.opens in
    record {
      server =
          let m = c.args.state.now in
          let x = c.args.number in
          let ls = m.leaves.items in
          let is = led f.table (slice_get (components f.table) x) can.component opens.0 c.opening-opening.result can.component_is
          (c.opening-opening.ensures c.args.place opens.0 c.args.bytes opens.1) in
          let p = prepared_at f m can.holds x can.component can.leaf can.component_is can.leaf_is in
          let next = of_leaf (λ l. operation_of l ≡ Some (Long c.args.statement)) (slice_get ls x) can.leaf can.leaf_is c.requires.does.next.next in
          let long = of_leaf (λ l. slice_get l.code.longs c.args.statement ≡ Some (instruction.Open c.args.place opens.0 c.args.bytes)) (slice_get ls x)
          can.leaf
          can.leaf_is opens.1 in
          let o = opening_at f can.component can.leaf p.has p.is c.args.statement next c.args.place opens.0 c.args.bytes long in
          let routed = is.server ∙ c.in-Some.is in (
            server_live f m can.holds c.lawful.ensures x c.in-Some.server can.component opens.0 can.component_is routed,
            apart f.table can.holds.ready x c.in-Some.server can.component opens.0 can.component_is o.used routed,
          );
      service =
          let is = led f.table (slice_get (components f.table) c.args.number) can.component opens.0 c.opening-opening.result can.component_is
          (c.opening-opening.ensures c.args.place opens.0 c.args.bytes opens.1) in
          let less = (is.service c.in-Some.server c.in-Some.is).0 in
          let count = service_count f c.args.state.now can.holds c.lawful.ensures in
          omega (arith, less, count);
      counted = λ none.
          let is = led f.table (slice_get (components f.table) c.args.number) can.component opens.0 c.opening-opening.result can.component_is
          (c.opening-opening.ensures c.args.place opens.0 c.args.bytes opens.1) in
          is.caps ∙ no_open_caps f.table (uncounted f c.args.state.now can.holds none) opens.0;
      room =
          let few = few_there c.args.fixed.now c.args.state.now c.requires.does.can.holds c.lawful.ensures c.laws.ensures.sound in
          let room = c.requires.does.can.holds.room_is in
          omega (arith, few, room);
      small =
          let few = few_there c.args.fixed.now c.args.state.now c.requires.does.can.holds c.lawful.ensures c.laws.ensures.sound in omega (arith, few);
    }

pub open-done-requires-clause-asks : goal.open-done-requires-clause-asks
open-done-requires-clause-asks c =
    let can = c.requires.does.can in
    let m = c.args.state.now in
    let old = c.index_mut-leaf.result.now in
    let there = item_there m.leaves.items c.args.number can.leaf old can.leaf_is c.index_mut-leaf.ensures.value in
    record {
      live =
          live c.args.fixed.now m can.holds c.lawful.ensures c.args.number can.component can.leaf can.component_is can.leaf_is
          (active_live can.leaf.state.phase (of_leaf (λ l. Active l.state.phase) (slice_get m.leaves.items c.args.number) can.leaf can.leaf_is
          c.requires.does.next.active));
      current =
          at_current c.args.fixed.now m can.holds c.lawful.ensures c.args.number can.component old can.component_is there;
      idle =
          is_idle c.args.fixed.now m can.holds c.lawful.ensures c.args.number can.component old can.component_is there
          (active_awake old.state.phase (of_leaf (λ l. Active l.state.phase) (slice_get m.leaves.items c.args.number) old there c.requires.does.next.active));
    }

pub returns-clause-step : goal.returns-clause-step
returns-clause-step c =
    let can = c.requires.does.can in
    let f = c.args.fixed.now in
    let m = c.args.state.now in
    let ls = m.leaves.items in
    let x = c.args.number in
    let old = c.index_mut-leaf.result.now in
    let new = c.open-done.new.self in
    let there = item_there ls x can.leaf old can.leaf_is c.index_mut-leaf.ensures.value in
    let opens = c.requires.opens in
    let long = of_leaf (λ l. slice_get l.code.longs c.args.statement ≡ Some (instruction.Open c.args.place opens.0 c.args.bytes)) (slice_get ls x) old there
    opens.1 in
    let is = led f.table (slice_get (components f.table) x) can.component opens.0 c.opening-opening.result can.component_is
    (c.opening-opening.ensures c.args.place opens.0 c.args.bytes opens.1) in
    c.open-done.ensures.step opens.0 c.args.bytes f.services.buffers long (system f.table) (frame_of f.table ls) (frame_of f.table (slice_set ls x new))
    can.component c.lawful.ensures (standing f m can.holds c.lawful.ensures x can.component old can.component_is there)
    (of_leaf (λ l. Active l.state.phase) (slice_get ls x) old there c.requires.does.next.active) (elsewhere f.table ls x new)
    (leaf_set f.table ls x can.component old new can.component_is there) (sym (is.service c.in-Some.server c.in-Some.is).1) (is.server ∙ c.in-Some.is)
    (λ i. record { ram = c.from.ensures i; caps = is.caps i })

pub returns-clause-leaves : goal.returns-clause-leaves
returns-clause-leaves c =
    let can = c.requires.does.can in
    let m = c.args.state.now in
    let old = c.index_mut-leaf.result.now in
    record {
      holds = on_ok c.open-done.result _ (λ e.
          let f = c.args.fixed.now in
          let x = c.args.number in
          let new = c.open-done.new.self in
          let there = item_there m.leaves.items x can.leaf old can.leaf_is c.index_mut-leaf.ensures.value in
          let active = of_leaf (λ l. Active l.state.phase) (slice_get m.leaves.items x) old there c.requires.does.next.active in
          let to = waits_to c.open-done.result _ e c.open-done.ensures.waits.waits in
          kept_one f m _ x can.component old new Quiet can.holds c.lawful.ensures c.lawful-2.ensures can.component_is there refl
          (ap (λ (l : Coded). l.code) to) (ap (λ (l : Coded). stage_in l.state.phase) to ∙ active_stage old.state.phase active)
          (scene_asked m.slots c.open-done.new.slots c.open-done.ensures.waits.stays)
          (returns-clause-step c ∙ ap (λ r. done r (world_of f.table (slice_set m.leaves.items x new) c.open-done.new.slots)) e));
      leaves =
          let there = item_there m.leaves.items c.args.number can.leaf old can.leaf_is c.index_mut-leaf.ensures.value in
          on_err_weaker c.open-done.result (λ same. ap (slice_set m.leaves.items c.args.number) same ∙ set_there m.leaves.items c.args.number old there)
          c.open-done.ensures.waits.same;
      slots = c.open-done.ensures.waits.unchanged;
    }

pub returns-in_default-clause-leaves : goal.returns-in_default-clause-leaves
returns-in_default-clause-leaves c =
    record {
      holds = search rules;
      leaves =
          let can = c.requires.does.can in
          let m = c.args.state.now in
          let old = c.index_mut-leaf.result.now in
          let there = item_there m.leaves.items c.args.number can.leaf old can.leaf_is c.index_mut-leaf.ensures.value in
          set_there m.leaves.items c.args.number old there;
      slots = search rules;
    }
