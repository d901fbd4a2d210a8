-- A step that a leaf would take alone.
use Rattle.std.proofs.Common.{◌≡◌, ◌-◌, ◌≤◌, ℕ, zero, suc, refl, ◌∙◌, arith}
use Rattle.std.specs.Prelude.{slice_get}
use Rattle.std.specs.Vec.{with_item}
use Rattle.gq_bytecode.specs.Nexts.{Active}
use Rattle.gq_bytecode.specs.declared.operation.Operation.{Operation}
use Rattle.gq_leaf.specs.declared.leaf.Reached.{Reached}
use Rattle.gq_leaf.specs.declared.leaf.Reached.TheVariants as reached
use Rattle.gq_machine.specs.declared.machine_steps.Alone.TheVariants.{Shared}
use Rattle.gq_machine.specs.declared.machine_state.MachineState.{MachineState}
use Rattle.gq_machine.proofs.Paused_leaf_world.{still, still_active, still_can, still_holds, still_missing, still_next, took, took_holds}
use Rattle.gq_machine.proofs.Stepping_leaf_facts.{item_there, of_leaf}
use Rattle.gq_machine.proofs.machine_steps.step_alone.Goals as goal

one_left : (left : ℕ) → (left ≡ 0 → ⊥) → left ≤ 1 → 1 - left ≡ 0
one_left zero some le = absurd (some refl)
one_left (suc left) some le = omega (arith, le)

left_none : (left : ℕ) → left ≡ 0 → 1 - left ≡ 1
left_none left e = omega (arith, e)

pub returns-then-left-eq0-clause-taken : goal.returns-then-left-eq0-clause-taken
returns-then-left-eq0-clause-taken c taken =
    let f = c.args.fixed.now in
    let m = c.args.state.now in
    let x = c.args.number in
    let old = c.index_mut-leaf.result.now in
    let there = item_there m.leaves.items x c.requires.acts.can.leaf old c.requires.acts.can.leaf_is c.index_mut-leaf.ensures.value in
    let n : MachineState = record { leaves = with_item m.leaves x c.run-pause.new.self; slots = m.slots } in
    let active = of_leaf (λ l. Active l.state.phase) (slice_get m.leaves.items x) old there c.requires.acts.active in
    took f m n x c.requires.acts.can c.lawful.ensures old c.run-pause.new.self there active refl refl (1 - c.run-pause.result.1)
    c.run-pause.ensures.counts.stays
    (λ bs. c.run-pause.ensures.one (left_none c.run-pause.result.1 c.if-left-eq0.true) x bs m.slots)

pub returns-then-left-eq0-clause-holds : goal.returns-then-left-eq0-clause-holds
returns-then-left-eq0-clause-holds c =
    let f = c.args.fixed.now in
    let m = c.args.state.now in
    let x = c.args.number in
    let old = c.index_mut-leaf.result.now in
    let there = item_there m.leaves.items x c.requires.acts.can.leaf old c.requires.acts.can.leaf_is c.index_mut-leaf.ensures.value in
    let n : MachineState = record { leaves = with_item m.leaves x c.run-pause.new.self; slots = m.slots } in
    let active = of_leaf (λ l. Active l.state.phase) (slice_get m.leaves.items x) old there c.requires.acts.active in
    took_holds f m n x c.requires.acts.can c.lawful.ensures old c.run-pause.new.self there active refl refl (1 - c.run-pause.result.1)
    c.run-pause.ensures.counts.stays
    (λ bs. c.run-pause.ensures.one (left_none c.run-pause.result.1 c.if-left-eq0.true) x bs m.slots)

pub returns-then-left-eq0-clause-active : goal.returns-then-left-eq0-clause-active
returns-then-left-eq0-clause-active c =
    let f = c.args.fixed.now in
    let m = c.args.state.now in
    let x = c.args.number in
    let old = c.index_mut-leaf.result.now in
    let there = item_there m.leaves.items x c.requires.acts.can.leaf old c.requires.acts.can.leaf_is c.index_mut-leaf.ensures.value in
    let n : MachineState = record { leaves = with_item m.leaves x c.run-pause.new.self; slots = m.slots } in
    let active = of_leaf (λ l. Active l.state.phase) (slice_get m.leaves.items x) old there c.requires.acts.active in
    still_active f m n x c.requires.acts.can c.lawful.ensures old c.run-pause.new.self there active refl refl (1 - c.run-pause.result.1)
    c.run-pause.ensures.counts.stays

pub returns-in-Missing-clause-holds : goal.returns-in-Missing-clause-holds
returns-in-Missing-clause-holds c =
    let f = c.args.fixed.now in
    let m = c.args.state.now in
    let x = c.args.number in
    let old = c.index_mut-leaf.result.now in
    let there = item_there m.leaves.items x c.requires.acts.can.leaf old c.requires.acts.can.leaf_is c.index_mut-leaf.ensures.value in
    let n : MachineState = record { leaves = with_item m.leaves x c.run-pause.new.self; slots = m.slots } in
    let active = of_leaf (λ l. Active l.state.phase) (slice_get m.leaves.items x) old there c.requires.acts.active in
    still_holds f m n x c.requires.acts.can c.lawful.ensures old c.run-pause.new.self there active refl refl (1 - c.run-pause.result.1)
    c.run-pause.ensures.counts.stays
    (one_left c.run-pause.result.1 c.if-left-eq0.false c.run-pause.ensures.counts.within) c.run-pause.ensures.ran

pub returns-in-Missing-clause-stays : goal.returns-in-Missing-clause-stays
returns-in-Missing-clause-stays c other =
    let f = c.args.fixed.now in
    let m = c.args.state.now in
    let x = c.args.number in
    let old = c.index_mut-leaf.result.now in
    let there = item_there m.leaves.items x c.requires.acts.can.leaf old c.requires.acts.can.leaf_is c.index_mut-leaf.ensures.value in
    let n : MachineState = record { leaves = with_item m.leaves x c.run-pause.new.self; slots = m.slots } in
    let active = of_leaf (λ l. Active l.state.phase) (slice_get m.leaves.items x) old there c.requires.acts.active in
    still f m n x c.requires.acts.can c.lawful.ensures old c.run-pause.new.self there active refl refl (1 - c.run-pause.result.1)
    c.run-pause.ensures.counts.stays
    (one_left c.run-pause.result.1 c.if-left-eq0.false c.run-pause.ensures.counts.within) c.run-pause.ensures.ran

pub returns-in-Missing-clause-can : goal.returns-in-Missing-clause-can
returns-in-Missing-clause-can c other =
    let f = c.args.fixed.now in
    let m = c.args.state.now in
    let x = c.args.number in
    let old = c.index_mut-leaf.result.now in
    let there = item_there m.leaves.items x c.requires.acts.can.leaf old c.requires.acts.can.leaf_is c.index_mut-leaf.ensures.value in
    let n : MachineState = record { leaves = with_item m.leaves x c.run-pause.new.self; slots = m.slots } in
    let active = of_leaf (λ l. Active l.state.phase) (slice_get m.leaves.items x) old there c.requires.acts.active in
    still_can f m n x c.requires.acts.can c.lawful.ensures old c.run-pause.new.self there active refl refl (1 - c.run-pause.result.1)
    c.run-pause.ensures.counts.stays
    (one_left c.run-pause.result.1 c.if-left-eq0.false c.run-pause.ensures.counts.within) c.run-pause.ensures.ran

pub returns-in-Missing-clause-active : goal.returns-in-Missing-clause-active
returns-in-Missing-clause-active c =
    let f = c.args.fixed.now in
    let m = c.args.state.now in
    let x = c.args.number in
    let old = c.index_mut-leaf.result.now in
    let there = item_there m.leaves.items x c.requires.acts.can.leaf old c.requires.acts.can.leaf_is c.index_mut-leaf.ensures.value in
    let n : MachineState = record { leaves = with_item m.leaves x c.run-pause.new.self; slots = m.slots } in
    let active = of_leaf (λ l. Active l.state.phase) (slice_get m.leaves.items x) old there c.requires.acts.active in
    still_active f m n x c.requires.acts.can c.lawful.ensures old c.run-pause.new.self there active refl refl (1 - c.run-pause.result.1)
    c.run-pause.ensures.counts.stays

pub returns-in-Missing-clause-missing : goal.returns-in-Missing-clause-missing
returns-in-Missing-clause-missing c is =
    let f = c.args.fixed.now in
    let m = c.args.state.now in
    let x = c.args.number in
    let old = c.index_mut-leaf.result.now in
    let there = item_there m.leaves.items x c.requires.acts.can.leaf old c.requires.acts.can.leaf_is c.index_mut-leaf.ensures.value in
    let n : MachineState = record { leaves = with_item m.leaves x c.run-pause.new.self; slots = m.slots } in
    let active = of_leaf (λ l. Active l.state.phase) (slice_get m.leaves.items x) old there c.requires.acts.active in
    still_missing f m n x c.requires.acts.can c.lawful.ensures old c.run-pause.new.self there active refl refl (1 - c.run-pause.result.1)
    c.run-pause.ensures.counts.stays
    (one_left c.run-pause.result.1 c.if-left-eq0.false c.run-pause.ensures.counts.within) c.run-pause.ensures.ran
    (c.run-pause.ensures.reached.missing c.in-Missing.is)

pub returns-in-Shared-clause-holds : goal.returns-in-Shared-clause-holds
returns-in-Shared-clause-holds c =
    let f = c.args.fixed.now in
    let m = c.args.state.now in
    let x = c.args.number in
    let old = c.index_mut-leaf.result.now in
    let there = item_there m.leaves.items x c.requires.acts.can.leaf old c.requires.acts.can.leaf_is c.index_mut-leaf.ensures.value in
    let n : MachineState = record { leaves = with_item m.leaves x c.run-pause.new.self; slots = m.slots } in
    let active = of_leaf (λ l. Active l.state.phase) (slice_get m.leaves.items x) old there c.requires.acts.active in
    still_holds f m n x c.requires.acts.can c.lawful.ensures old c.run-pause.new.self there active refl refl (1 - c.run-pause.result.1)
    c.run-pause.ensures.counts.stays
    (one_left c.run-pause.result.1 c.if-left-eq0.false c.run-pause.ensures.counts.within) c.run-pause.ensures.ran

pub returns-in-Shared-clause-stays : goal.returns-in-Shared-clause-stays
returns-in-Shared-clause-stays c other =
    let f = c.args.fixed.now in
    let m = c.args.state.now in
    let x = c.args.number in
    let old = c.index_mut-leaf.result.now in
    let there = item_there m.leaves.items x c.requires.acts.can.leaf old c.requires.acts.can.leaf_is c.index_mut-leaf.ensures.value in
    let n : MachineState = record { leaves = with_item m.leaves x c.run-pause.new.self; slots = m.slots } in
    let active = of_leaf (λ l. Active l.state.phase) (slice_get m.leaves.items x) old there c.requires.acts.active in
    still f m n x c.requires.acts.can c.lawful.ensures old c.run-pause.new.self there active refl refl (1 - c.run-pause.result.1)
    c.run-pause.ensures.counts.stays
    (one_left c.run-pause.result.1 c.if-left-eq0.false c.run-pause.ensures.counts.within) c.run-pause.ensures.ran

pub returns-in-Shared-clause-can : goal.returns-in-Shared-clause-can
returns-in-Shared-clause-can c other =
    let f = c.args.fixed.now in
    let m = c.args.state.now in
    let x = c.args.number in
    let old = c.index_mut-leaf.result.now in
    let there = item_there m.leaves.items x c.requires.acts.can.leaf old c.requires.acts.can.leaf_is c.index_mut-leaf.ensures.value in
    let n : MachineState = record { leaves = with_item m.leaves x c.run-pause.new.self; slots = m.slots } in
    let active = of_leaf (λ l. Active l.state.phase) (slice_get m.leaves.items x) old there c.requires.acts.active in
    still_can f m n x c.requires.acts.can c.lawful.ensures old c.run-pause.new.self there active refl refl (1 - c.run-pause.result.1)
    c.run-pause.ensures.counts.stays
    (one_left c.run-pause.result.1 c.if-left-eq0.false c.run-pause.ensures.counts.within) c.run-pause.ensures.ran

pub returns-in-Shared-clause-active : goal.returns-in-Shared-clause-active
returns-in-Shared-clause-active c =
    let f = c.args.fixed.now in
    let m = c.args.state.now in
    let x = c.args.number in
    let old = c.index_mut-leaf.result.now in
    let there = item_there m.leaves.items x c.requires.acts.can.leaf old c.requires.acts.can.leaf_is c.index_mut-leaf.ensures.value in
    let n : MachineState = record { leaves = with_item m.leaves x c.run-pause.new.self; slots = m.slots } in
    let active = of_leaf (λ l. Active l.state.phase) (slice_get m.leaves.items x) old there c.requires.acts.active in
    still_active f m n x c.requires.acts.can c.lawful.ensures old c.run-pause.new.self there active refl refl (1 - c.run-pause.result.1)
    c.run-pause.ensures.counts.stays

is_too : (r : Reached) (a b : Operation) → r ≡ reached.Shared a → Shared a ≡ Shared b → r ≡ reached.Shared b
is_too r a b is same = is ∙ cc

pub returns-in-Shared-clause-shared : goal.returns-in-Shared-clause-shared
returns-in-Shared-clause-shared c does same =
    let is = is_too c.run-pause.result.0 c.in-Shared.operation does c.in-Shared.is same in
    c.run-pause.ensures.reached.shared does is does (c.run-pause.ensures.reached.next does is)

pub returns-in-Shared-clause-next : goal.returns-in-Shared-clause-next
returns-in-Shared-clause-next c does same =
    let f = c.args.fixed.now in
    let m = c.args.state.now in
    let x = c.args.number in
    let old = c.index_mut-leaf.result.now in
    let there = item_there m.leaves.items x c.requires.acts.can.leaf old c.requires.acts.can.leaf_is c.index_mut-leaf.ensures.value in
    let n : MachineState = record { leaves = with_item m.leaves x c.run-pause.new.self; slots = m.slots } in
    let active = of_leaf (λ l. Active l.state.phase) (slice_get m.leaves.items x) old there c.requires.acts.active in
    still_next f m n x c.requires.acts.can c.lawful.ensures old c.run-pause.new.self there active refl refl (1 - c.run-pause.result.1)
    c.run-pause.ensures.counts.stays
    (one_left c.run-pause.result.1 c.if-left-eq0.false c.run-pause.ensures.counts.within) c.run-pause.ensures.ran
    does (c.run-pause.ensures.reached.next does (is_too c.run-pause.result.0 c.in-Shared.operation does c.in-Shared.is same))
