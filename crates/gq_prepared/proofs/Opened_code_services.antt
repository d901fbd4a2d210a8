-- A service of an `open` that stands in the code of a program is among those that the program opens.
use Rattle.std.proofs.Common.{◌≡◌, ℕ, zero, suc, Bool, true, false, ◌||◌, cond, List, [], ◌∷◌, ◌++◌, length, Option, Some, None, refl, ap, sym, subst, ◌∙◌}
use Rattle.std.specs.Prelude.{slice_get}
use Rattle.gq_model.specs.declared.program.Instruction.{Instruction}
use Rattle.gq_model.specs.declared.program.Instruction.TheVariants.{Open}
use Rattle.gq_model.specs.declared.program.OperandSlot as declared
use Rattle.gq_model.specs.declared.section.Section.{Section}
use Rattle.gq_model.specs.machine.Lists.{any_of}
use Rattle.gq_model.specs.machine.Program.{Statements, Done, Do, If, Loop, ◌then◌, section_in, text_eq}
use Rattle.gq_model.specs.machine.Sections.{same_section}
use Rattle.gq_model.specs.machine.Scenario.{Component}
use Rattle.gq_model.specs.rules.Use.{opened_by, services, services_in, services_of}
use Rattle.gq_model.proofs.Small_facts.{none_some, some_same, text_self}
use Rattle.gq_bytecode.specs.declared.operation.Operation.{Operation}
use Rattle.gq_bytecode.specs.declared.operation.Operation.TheVariants as operation
use Rattle.gq_bytecode.specs.Alones.{LocalState}
use Rattle.gq_bytecode.specs.Cores.{Core}
use Rattle.gq_bytecode.specs.Bytecode_layout.{IsCodeOf, instruction_in, width}
use Rattle.gq_bytecode.specs.Code_positions.{OpenLoop, CodePosition, frame, place, place_or_end, places, section_places}
use Rattle.gq_bytecode.specs.Programs.{AreFound, IsCodeOfProgram, ProgramCode, code_in}
use Rattle.gq_bytecode.specs.Stated.{IsStated}
use Rattle.gq_bytecode.proofs.Program_section_codes.{found_body}
use Rattle.gq_laws.proofs.verified_programs.Linkless_flows.{none_append}
use Rattle.std.proofs.lemmas.Bool.{or_parts, or_from}

-- STATEMENTS THAT DO NOT OPEN A SERVICE

none_both : {A : Type 0} (test : A → Bool) (xs ys : List A) → any_of test xs ≡ false → any_of test ys ≡ false → any_of test (xs ++ ys) ≡ false
none_both test [] ys e f = f
none_both test (x ∷ xs) ys e f =
    let p = or_parts (test x) (any_of test xs) e in or_from (test x) (any_of test (xs ++ ys)) p.0 (none_both test xs ys p.1 f)

module _ (name : List ℕ) where
  abbrev test : List ℕ → Bool
  test = text_eq name

  -- no `open` of this service is among these
  abbrev pub OpensNone : Statements → Type 0
  OpensNone s = any_of test (services_of s) ≡ false

  then_none : (a b : Statements) → OpensNone a → OpensNone b → OpensNone (a then b)
  then_none Done b h k = k
  then_none (Do i rest) b h k =
      let p = none_append test (opened_by i) (services_of rest) h in
      none_both test (opened_by i) (services_of (rest then b)) p.0 (then_none rest b p.1 k)
  then_none (If arm other rest) b h k =
      let p = none_append test (services_of arm ++ services_of other) (services_of rest) h in
      none_both test (services_of arm ++ services_of other) (services_of (rest then b)) p.0 (then_none rest b p.1 k)
  then_none (Loop n body rest) b h k =
      let p = none_append test (services_of body) (services_of rest) h in
      none_both test (services_of body) (services_of (rest then b)) p.0 (then_none rest b p.1 k)

  abbrev AllNone : List CodePosition → Type 0
  AllNone [] = Unit {0}
  AllNone (q ∷ qs) = OpensNone q.todo × AllNone qs

  all_append : (ps qs : List CodePosition) → AllNone ps → AllNone qs → AllNone (ps ++ qs)
  all_append [] qs h k = k
  all_append (p ∷ ps) qs h k = (h.0, all_append ps qs h.1 k)

  none_get : (qs : List CodePosition) (p : ℕ) → AllNone qs → OpensNone (place_or_end (slice_get qs p)).todo
  none_get [] p h = refl
  none_get (q ∷ qs) zero h = h.0
  none_get (q ∷ qs) (suc p) h = none_get qs p h.1

  -- at no place of such statements is an `open` of it left to do
  all_none : (s after : Statements) (around : List OpenLoop) → OpensNone s → OpensNone after → AllNone (places s after around)
  all_none Done after around h k = tt
  all_none (Do i rest) after around h k =
      let p = none_append test (opened_by i) (services_of rest) h in (then_none (Do i rest) after h k, all_none rest after around p.1 k)
  all_none (If arm other rest) after around h k =
      let p = none_append test (services_of arm ++ services_of other) (services_of rest) h in
      let q = none_append test (services_of arm) (services_of other) p.0 in
      let on = rest then after in
      let later : OpensNone on = then_none rest after p.1 k in (
        then_none (If arm other rest) after h k,
        all_append (places arm on around) (place (operation.Jump (width other)) on around ∷ (places other on around ++ places rest after around))
            (all_none arm on around q.0 later)
            (later, all_append (places other on around) (places rest after around) (all_none other on around q.1 later) (all_none rest after around p.1 k)),
      )
  all_none (Loop n body rest) after around h k =
      let p = none_append test (services_of body) (services_of rest) h in
      let f = frame n body (rest then after) in (
        then_none (Loop n body rest) after h k,
        all_append (places body Done (f ∷ around)) (place (operation.Again (length around) n (width body)) Done (f ∷ around) ∷ places rest after around)
            (all_none body Done (f ∷ around) p.0 refl) (refl, all_none rest after around p.1 k),
      )

  section_none : (body : Statements) → OpensNone body → AllNone (section_places body)
  section_none body h = all_append (places body Done []) (place operation.End Done [] ∷ []) (all_none body Done [] h refl) (refl, tt)

  body_here : (b : Bool) (here : Statements) (there : Option Statements) (body : Statements) → cond b (Some here) there ≡ Some body → OpensNone here
      → (there ≡ Some body → OpensNone body) → OpensNone body
  body_here true here there body e h k = subst OpensNone (some_same e) h
  body_here false here there body e h k = k e

  -- the sections of a program that does not open it
  body_none : (section : Section) (sections : List (Section × Statements)) (body : Statements) → any_of test (services_in sections) ≡ false
      → section_in section sections ≡ Some body → OpensNone body
  body_none section [] body h e = absurd (none_some e)
  body_none section (p ∷ rest) body h e =
      let both = none_append test (services_of p.1) (services_in rest) h in
      body_here (same_section section p.0) p.1 (section_in section rest) body e both.0 (body_none section rest body both.1)

-- WHAT STANDS IN THE CODE

-- that an operation stands for an instruction which is left to do first
abbrev pub IsStatedLaw : Type 0
IsStatedLaw =
    (code : List Operation) → (longs : List Instruction) → (body : Statements) → (c : Core) → (does : Operation) → (i : Instruction) →
    IsCodeOf code longs body → slice_get code c.position ≡ Some does → instruction_in longs does ≡ Some i → IsStated body c i (length code)

code_found : (ops : List Operation) (longs : List Instruction) (body : Statements) (found : Option Statements) → found ≡ Some body
    → AreFound (Some ops) longs found → IsCodeOf ops longs body
code_found ops longs body None e h = absurd (none_some e)
code_found ops longs body (Some other) e h = subst (λ (b : Statements). IsCodeOf ops longs b) (some_same e) h.is

-- the service of an `open` that stands in the code of a section is one that the leaf opens
pub opened : IsStatedLaw → (c : Component) (code : ProgramCode) → IsCodeOfProgram code c.node.program.sections
    → (section : Section) (ops : List Operation) (body : Statements) (p number : ℕ) (at : declared.OperandSlot) (name : List ℕ) (n : ℕ)
    → code_in section code.sections ≡ Some ops → section_in section c.node.program.sections ≡ Some body → slice_get ops p ≡ Some (operation.Long number)
    → slice_get code.longs number ≡ Some (Open at name n) → any_of (text_eq name) (services c) ≡ true
opened law c code is section ops body p number at name n found has stands long = by (any_of (text_eq name) (services c)) refl
  where
    core : Core
    core = record { position = p; operands = []; locals = []; rounds = []; inputs = [] }

    code_of : IsCodeOf ops code.longs body
    code_of = code_found ops code.longs body (section_in section c.node.program.sections) has
        (found_body code section (Some ops) c.node.program.sections (sym found) is)

    stated : IsStated body core (Open at name n) (length ops)
    stated = law ops code.longs body core (operation.Long number) (Open at name n) code_of stands long

    todo : LocalState → Statements
    todo s = s.todo

    by : (b : Bool) → any_of (text_eq name) (services c) ≡ b → b ≡ true
    by true e = refl
    by false e =
        let none = section_none name body (body_none name section c.node.program.sections body e has) in
        let here : OpensNone name (Do (Open at name n) stated.rest) =
        subst (OpensNone name) (ap todo (stated.here 0)) (none_get name (section_places body) p none) in
        let first : (text_eq name name || any_of (text_eq name) (services_of stated.rest)) ≡ true =
        ap (λ b. b || any_of (text_eq name) (services_of stated.rest)) (text_self name) in
        sym here ∙ first
