-- Where the `open` at a leaf's place leads.
use Rattle.std.proofs.Common.{◌≡◌, ◌<◌, ℕ, true, List, length, Option, Some, None, refl, sym, ap, subst, ◌∙◌, arith}
use Rattle.std.specs.Prelude.{slice_get, is_some}
use Rattle.std.proofs.lemmas.Option.{slice_get_within}
use Rattle.gq_model.specs.declared.program.Instruction.{Instruction}
use Rattle.gq_model.specs.declared.program.Instruction.TheVariants as instruction
use Rattle.gq_model.specs.declared.program.OperandSlot.{OperandSlot}
use Rattle.gq_model.specs.machine.Lists.{any_of}
use Rattle.gq_model.specs.machine.Program.{Statements, body_of, section_in, text_eq}
use Rattle.gq_model.specs.machine.Scenario.{Component, components}
use Rattle.gq_model.specs.rules.Use.{services}
use Rattle.gq_model.proofs.Small_facts.{get_within}
use Rattle.gq_bytecode.specs.declared.operation.Operation.{Operation}
use Rattle.gq_bytecode.specs.declared.operation.Operation.TheVariants.{Long}
use Rattle.gq_bytecode.specs.Programs.{AreFound, code_in}
use Rattle.gq_bytecode.proofs.Shared_statement_operations.{stated}
use Rattle.gq_bytecode.proofs.Program_section_codes.{found_body}
use Rattle.gq_leaf.specs.Leaf_states.{section_at}
use Rattle.gq_prepared.specs.Prepared.{IsOpening}
use Rattle.gq_prepared.specs.declared.openings.Opening.{Opening}
use Rattle.gq_prepared.proofs.Opened_code_services.{opened}
use Rattle.gq_leaf.specs.Coded.{Coded, operation_in, operation_of}
use Rattle.gq_leaf.proofs.Sound_program_code.{code_found}
use Rattle.gq_machine.specs.declared.machine_state.Fixed.{Fixed}
use Rattle.gq_machine.specs.declared.machine_state.Prepared.{Prepared}
use Rattle.gq_machine.specs.declared.machine_state.MachineState.{MachineState}
use Rattle.gq_machine.specs.internal.Machine_invariant.{Holds, IsPrepared}
use Rattle.gq_machine.specs.internal.Longs.{IsLongOne}
use Rattle.gq_machine.proofs.Long_statement_kinds.{long_kind}

-- what is prepared of a leaf
pub record PreparedAt (f : Fixed) (x : ℕ) (c : Component) (l : Coded) : Type 0 where
  pub has : Prepared
  pub there : slice_get f.prepared.items x ≡ Some has
  pub is : IsPrepared f.table c l has

pub prepared_at : (f : Fixed) (m : MachineState) → Holds f m → (x : ℕ) (c : Component) (l : Coded) → slice_get (components f.table) x ≡ Some c
    → slice_get m.leaves.items x ≡ Some l → PreparedAt f x c l
prepared_at f m h x c l ec el =
    let within = slice_get_within (components f.table) x c ec in
    let count = h.count_prepared in
    let p = get_within f.prepared.items x (omega (arith, within, count)) in
    record { has = p.0; there = p.1; is = h.prepared x c l p.0 ec el p.1 }

-- there is code where a long statement is next
code_there : (o : Option (List Operation)) (p n : ℕ) → operation_in o p ≡ Some (Long n) → (ops : List Operation) × (o ≡ Some ops)
    × (slice_get ops p ≡ Some (Long n))
code_there None p n e = cc
code_there (Some ops) p n e = (ops, refl, e)

body_there : (ops : List Operation) (longs : List Instruction) (o : Option Statements) → AreFound (Some ops) longs o → (body : Statements) × (o ≡ Some body)
body_there ops longs None h = absurd h
body_there ops longs (Some body) h = (body, refl)

-- the `open` that is next has its opening
pub record OpeningAt (p : Prepared) (f : Fixed) (c : Component) (name : List ℕ) (statement : ℕ) : Type 0 where
  pub opening : Opening
  pub there : slice_get p.openings.items statement ≡ Some opening
  pub is : IsOpening f.table c name opening
  pub used : any_of (text_eq name) (services c) ≡ true

pub opening_at : (f : Fixed) (c : Component) (l : Coded) (p : Prepared) → IsPrepared f.table c l p → (statement : ℕ) → operation_of l ≡ Some (Long statement)
    → (place : OperandSlot) (name : List ℕ) (n : ℕ) → slice_get l.code.longs statement ≡ Some (instruction.Open place name n) → OpeningAt p f c name statement
opening_at f c l p is statement next place name n long =
    let section = section_at l.state.current l.state.reacting in
    let code = code_there (code_in section l.code.sections) l.state.registers.position statement next in
    let body = body_there code.0 l.code.longs (section_in section c.node.program.sections)
    (found_body l.code section (Some code.0) c.node.program.sections (sym code.1) is.code) in
    let o = is.openings section code.0 body.0 l.state.registers.position statement place name n code.1 body.1 code.2 long in
    record {
      opening = o.0;
      there = o.1;
      is = o.2;
      used = opened stated c l.code is.code section code.0 body.0 l.state.registers.position statement place name n code.1 body.1 code.2 long;
    }

-- the long statement that is next says a text or opens a session
pub long_is : (f : Fixed) (c : Component) (l : Coded) (p : Prepared) → IsPrepared f.table c l p → (statement : ℕ) → operation_of l ≡ Some (Long statement)
    → (i : Instruction) → slice_get l.code.longs statement ≡ Some i → IsLongOne i
long_is f c l p is statement next i long =
    let section = section_at l.state.current l.state.reacting in
    let code = code_there (code_in section l.code.sections) l.state.registers.position statement next in
    let found = code_found l.code section code.0 c.node.program code.1 is.code in
    long_kind code.0 l.code.longs (body_of (section_in section c.node.program.sections)) l.state.registers.position statement i found.is code.2 long
