-- Another value of an input of a leaf that lives; one that has exited keeps its inputs.
use Rattle.std.proofs.Common.{◌≡◌, ◌<◌, ◌⊎◌, inl, inr, ℕ, List, Some, refl, ap, sym, subst, ◌∙◌, length, arith}
use Rattle.std.specs.Prelude.{slice_get, slice_set}
use Rattle.std.specs.Vec.{with_item}
use Rattle.gq_model.specs.declared.phase.Phase.{Phase}
use Rattle.gq_model.specs.declared.phase.Phase.TheVariants as phase
use Rattle.gq_model.specs.machine.Run.{inputs_with}
use Rattle.gq_model.specs.machine.Scenario.{Component, components}
use Rattle.gq_model.proofs.Small_facts.{get_within, some_same}
use Rattle.gq_leaf.specs.Coded.{Coded}
use Rattle.gq_machine.specs.declared.machine_state.Fixed.{Fixed}
use Rattle.gq_machine.specs.declared.machine_state.MachineState.{MachineState}
use Rattle.gq_machine.specs.internal.Machine_invariant.{Holds}
use Rattle.gq_machine.proofs.Machine_input_setting.{holds_set, set_is, stays_exited, with_inputs}
use Rattle.gq_machine.proofs.Stepping_leaf_facts.{item_there}
use Rattle.gq_machine.proofs.input_settings.put_input.Goals as goal

-- the component and the leaf of this number
own : (f : Fixed) (m : MachineState) (x : ℕ) → x < length (components f.table) → (c : Component) × (slice_get (components f.table) x ≡ Some c)
own f m x less = get_within (components f.table) x less

leaf : (f : Fixed) (m : MachineState) → Holds f m → (x : ℕ) → x < length (components f.table) → (l : Coded) × (slice_get m.leaves.items x ≡ Some l)
leaf f m holds x less = let count = holds.count in get_within m.leaves.items x (omega (arith, less, count))

pub returns-in-Exited-clause-set : goal.returns-in-Exited-clause-set
returns-in-Exited-clause-set c =
    let f = c.args.fixed.now in
    let m = c.args.state.now in
    let x = c.args.leaf in
    let d = own f m x c.requires.leaf in
    let l = leaf f m c.requires.holds x c.requires.leaf in
    let there = item_there m.leaves.items x l.0 c.index.result.now l.1 c.index.ensures in
    stays_exited f m c.requires.holds c.requires.lawful x d.0 c.index.result.now d.1 there c.args.input c.args.number c.requires.within
    (sym c.phase.ensures ∙ c.in-Exited.is)

-- a leaf that lives has them set
live : (p : Phase) (inputs : List ℕ) (i n : ℕ)
    → (p ≡ phase.Pending) ⊎ ((p ≡ phase.Running) ⊎ ((p ≡ phase.Blocked) ⊎ ((p ≡ phase.Serving) ⊎ (p ≡ phase.Handling))))
    → inputs_with p inputs i n ≡ slice_set inputs i n
live p inputs i n (inl e) = ap (λ q. inputs_with q inputs i n) e
live p inputs i n (inr (inl e)) = ap (λ q. inputs_with q inputs i n) e
live p inputs i n (inr (inr (inl e))) = ap (λ q. inputs_with q inputs i n) e
live p inputs i n (inr (inr (inr (inl e)))) = ap (λ q. inputs_with q inputs i n) e
live p inputs i n (inr (inr (inr (inr e)))) = ap (λ q. inputs_with q inputs i n) e

pub returns-in-Pending : goal.returns-in-Pending
returns-in-Pending c =
    let f = c.args.fixed.now in
    let m = c.args.state.now in
    let x = c.args.leaf in
    let d = own f m x c.requires.leaf in
    let l = leaf f m c.requires.holds x c.requires.leaf in
    let old = item_there m.leaves.items x l.0 c.index.result.now l.1 c.index.ensures in
    let there = item_there m.leaves.items x l.0 c.index_mut.result.now l.1 c.index_mut.ensures.value in
    let same : c.index.result.now ≡ c.index_mut.result.now = some_same (sym old ∙ there) in
    let phase_is = c.phase.ensures ∙ ap (λ (k : Coded). k.state.phase) same in
    let now = c.index_mut.result.now in
    let sets = subst (λ p. inputs_with p now.state.registers.inputs c.args.input c.args.number
    ≡ slice_set now.state.registers.inputs c.args.input c.args.number) phase_is
    (live c.phase.result now.state.registers.inputs c.args.input c.args.number c.in-Pending.is) in
    let s : MachineState = record { leaves = with_item m.leaves x c.set_input.new.self; slots = m.slots } in
    let leaves : s.leaves.items ≡ slice_set m.leaves.items x (with_inputs now (slice_set now.state.registers.inputs c.args.input c.args.number)) =
    ap (λ k. slice_set m.leaves.items x k) c.set_input.ensures in
    record {
      holds = holds_set f m c.requires.holds c.requires.lawful x d.0 now d.1 there c.args.input c.args.number c.requires.within s leaves refl sets;
      set = set_is f m c.requires.holds c.requires.lawful x d.0 now d.1 there c.args.input c.args.number c.requires.within s leaves refl sets;
    }
