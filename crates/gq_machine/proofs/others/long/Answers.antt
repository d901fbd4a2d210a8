-- A statement that does not fit into eight bytes.
use Rattle.std.proofs.Common.{◌≡◌, ℕ, List, Some, Ok, refl, sym, ap, subst, ◌∙◌, rules}
use Rattle.std.specs.Prelude.{slice_get}
use Rattle.gq_model.specs.declared.program.Instruction.{Instruction}
use Rattle.gq_model.specs.declared.program.Instruction.TheVariants.{Open, Say}
use Rattle.gq_model.specs.declared.program.OperandSlot.{OperandSlot}
use Rattle.gq_model.specs.machine.Doing.{Line}
use Rattle.gq_bytecode.specs.declared.operation.Operation.TheVariants.{Long}
use Rattle.gq_leaf.specs.Coded.{Coded, operation_of}
use Rattle.gq_machine.specs.Machine_world.{world_of}
use Rattle.gq_machine.specs.declared.machine_state.MachineState.{MachineState}
use Rattle.gq_machine.specs.internal.Machine_invariant.{IsLong, OfLeaf}
use Rattle.gq_machine.specs.internal.Longs.{IsLongOne}
use Rattle.gq_machine.proofs.Open_statement_targets.{long_is, prepared_at}
use Rattle.gq_machine.proofs.Stepping_leaf_facts.{item_there, of_leaf}
use Rattle.gq_machine.proofs.others.long.Goals as goal

none_else : (i : Instruction) → IsLongOne i → ((text : List ℕ) → i ≡ Say text → ⊥) → ((place : OperandSlot) (name : List ℕ) (n : ℕ) → i ≡ Open place name n → ⊥)
    → ⊥
none_else (Say text) h says opens = says text refl
none_else (Open place name n) h says opens = opens place name n refl
none_else _ h says opens = absurd h

pub unreachable-requires : goal.unreachable-requires
unreachable-requires c =
    let can = c.requires.does.can in
    let f = c.args.fixed.now in
    let m = c.args.state.now in
    let x = c.args.number in
    let old = c.index-leaf.result.now in
    let there = item_there m.leaves.items x can.leaf old can.leaf_is c.index-leaf.ensures in
    let p = prepared_at f m can.holds x can.component old can.component_is there in
    let next = of_leaf (λ l. operation_of l ≡ Some (Long c.args.statement)) (slice_get m.leaves.items x) old there c.requires.does.next.next in
    none_else c.long.result.now (long_is f can.component old p.has p.is c.args.statement next c.long.result.now c.long.ensures) c.in_default.not-Say
    c.in_default.not-Open

is_long : (m : MachineState) (x statement : ℕ) (i : Instruction) (l : Coded) → slice_get m.leaves.items x ≡ Some l → slice_get l.code.longs statement ≡ Some i
    → IsLong m x statement i
is_long m x statement i l there e = subst (OfLeaf (λ (k : Coded). slice_get k.code.longs statement ≡ Some i)) (sym there) e

pub returns-in-Say-clause-step : goal.returns-in-Say-clause-step
returns-in-Say-clause-step c =
    let can = c.requires.does.can in
    let f = c.args.fixed.now in
    let m = c.args.state.now in
    let there = item_there m.leaves.items c.args.number can.leaf c.index-leaf.result.now can.leaf_is c.index-leaf.ensures in
    let long = is_long m c.args.number c.args.statement (Say c.in-Say.text) c.index-leaf.result.now there
    (c.long.ensures ∙ ap (λ i. Some i) c.in-Say.is) in
    c.say.ensures.step c.in-Say.text long
    ∙ ap (λ text. Ok (world_of f.table c.say.new.state.leaves.items c.say.new.state.slots, Line text)) (sym (c.write_line.ensures ∙ c.as_bytes.ensures.bytes))

pub returns-in-Say-clause-leaves : goal.returns-in-Say-clause-leaves
returns-in-Say-clause-leaves c =
    record {
      holds =
          let can = c.requires.does.can in
          let m = c.args.state.now in
          let there = item_there m.leaves.items c.args.number can.leaf c.index-leaf.result.now can.leaf_is c.index-leaf.ensures in
          c.say.ensures.holds c.in-Say.text
          (is_long m c.args.number c.args.statement (Say c.in-Say.text) c.index-leaf.result.now there (c.long.ensures ∙ ap (λ i. Some i) c.in-Say.is));
      leaves = search rules;
      slots = search rules;
    }
