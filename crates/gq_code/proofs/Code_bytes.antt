-- The code of a program is a list of bytes.
use Rattle.std.proofs.Common.{◌≡◌, ℕ, ◌+◌, ◌-◌, ◌^◌, ◌<◌, ◌≤◌, List, [], ◌∷◌, ◌++◌, length, true, if◌then◌else◌, ◌==◌, ap, arith, inl, inr}
use Rattle.std.specs.Prelude.{nat_lt, nat_le, ◌&&◌, ◌||◌, not}
use Rattle.std.proofs.lemmas.Bool.{and_parts, or_cases, leb-true, ltb-true, eqb-true, cond_both}
use Rattle.gq_model.specs.declared.program.OperandSlot.{OperandSlot}
use Rattle.gq_model.specs.declared.program.OperandSlot.TheVariants.{Own, Shared, Object}
use Rattle.gq_model.specs.declared.program.Instruction.{Instruction}
use Rattle.gq_model.specs.machine.Program.{Program, Statements, Done, Do, If, Loop, spelled}
use Rattle.gq_model.specs.machine.Lists.{all_of, between}
use Rattle.gq_model.specs.texts.Letters.{is_name_byte, is_said_byte, is_digit}
use Rattle.gq_model.proofs.Instruction_laws.{opcode_small}
use Rattle.gq_model.specs.texts.Operands.{Operand, Number, Slot, Bytes, Text, Service, opcode, operands, in_range, is_slot_or_object}
use Rattle.gq_model.specs.texts.Operands.{slot_code, operand_code, operands_code}
use Rattle.gq_model.specs.texts.Code.{IsProgram, is_body, body_code, body_length, are_sections, has_limit, limits_code, section_bits}
use Rattle.gq_model.specs.machine.Sections.{section_number}
use Rattle.gq_model.specs.texts.Code.{sections_code, code_of}
use Rattle.gq_model.proofs.Byte_number_spelling.{AreBytes, spelled_bytes}
use Rattle.gq_model.proofs.Section_laws.{first_of}
use Rattle.gq_code.proofs.Section_order_bits.{Sections}
use Rattle.gq_code.proofs.Limits_back.{local_bits_below}
use Rattle.gq_code.proofs.Programs_back.{parts_of}
use Rattle.gq_model.proofs.Assembled_instructions.{or_object}

bytes_then : (a b : List ℕ) → AreBytes a → AreBytes b → AreBytes (a ++ b)
bytes_then [] b h k = k
bytes_then (x ∷ a) b h k = (h.0, bytes_then a b h.1 k)

-- OPERANDS

slot_byte : (p : OperandSlot) → is_slot_or_object p ≡ true → slot_code p < 256
slot_byte (Own i) h = let k = ltb-true i 64 h in omega (arith, k)
slot_byte (Shared i) h = let k = ltb-true i 8 h in omega (arith, k)
slot_byte Object h = omega arith

below : (low high c : ℕ) → between low high c ≡ true → c ≤ high
below low high c h = leb-true c high ((and_parts (nat_le low c) (nat_le c high) h).1)

said_bytes : (text : List ℕ) → all_of is_said_byte text ≡ true → AreBytes text
said_bytes [] h = tt
said_bytes (c ∷ text) h =
    let p = and_parts (is_said_byte c) (all_of is_said_byte text) h in
    let low = below 32 126 c ((and_parts (between 32 126 c) (not (c == 34)) p.0).0) in (omega (arith, low), said_bytes text p.1)

name_byte : (c : ℕ) → is_name_byte c ≡ true → c < 256
name_byte c h =
    let letters = between 97 122 c in
    let capitals = between 65 90 c in
    elim (or_cases (letters || capitals || is_digit c || c == 45) (c == 95) h) [
      | inr e ↦ let k = eqb-true c 95 e in omega (arith, k)
      | inl h ↦
          elim (or_cases (letters || capitals || is_digit c) (c == 45) h) [
            | inr e ↦ let k = eqb-true c 45 e in omega (arith, k)
            | inl h ↦
                elim (or_cases (letters || capitals) (is_digit c) h) [
                  | inr e ↦ let k = below 48 57 c e in omega (arith, k)
                  | inl h ↦ elim (or_cases letters capitals h) [
                    | inl e ↦ let k = below 97 122 c e in omega (arith, k)
                    | inr e ↦ let k = below 65 90 c e in
                        omega (arith, k)
                  ]
                ]
          ]
    ]

name_bytes : (name : List ℕ) → all_of is_name_byte name ≡ true → AreBytes name
name_bytes [] h = tt
name_bytes (c ∷ name) h = let p = and_parts (is_name_byte c) (all_of is_name_byte name) h in (name_byte c p.0, name_bytes name p.1)

operand_bytes : (o : Operand) → in_range o ≡ true → AreBytes (operand_code o)
operand_bytes (Number width low high n) h = spelled_bytes width n
operand_bytes (Slot p) h = (slot_byte p (or_object p h), tt)
operand_bytes (Bytes p) h = (slot_byte p h, tt)
operand_bytes (Text text) h =
    let p =
    and_parts (nat_le (length text) 64) (all_of is_said_byte text) h in let short =
    leb-true (length text) 64 p.0 in (omega (arith, short), said_bytes text p.1)
operand_bytes (Service name) h =
    let p =
    and_parts (between 1 16 (length name)) (all_of is_name_byte name) h in let short =
    below 1 16 (length name) p.0 in (omega (arith, short), name_bytes name p.1)

operands_bytes : (ops : List Operand) → all_of in_range ops ≡ true → AreBytes (operands_code ops)
operands_bytes [] h = tt
operands_bytes (o ∷ rest) h =
    let p = and_parts (in_range o) (all_of in_range rest) h in bytes_then (operand_code o) (operands_code rest) (operand_bytes o p.0) (operands_bytes rest p.1)

opcode_byte : (i : Instruction) → opcode i < 256
opcode_byte i = let small = opcode_small i in omega (arith, small)

-- STATEMENTS

body_bytes : (n : ℕ) (b : Statements) → is_body n b ≡ true → AreBytes (body_code b)
body_bytes n Done h = tt
body_bytes n (Do i rest) h =
    let p = and_parts (all_of in_range (operands i)) (is_body n rest) h in
    (opcode_byte i, bytes_then (operands_code (operands i)) (body_code rest) (operands_bytes (operands i) p.0) (body_bytes n rest p.1))
body_bytes n (If arm other rest) h =
    let p = and_parts (nat_lt 0 n && is_body (n - 1) arm && is_body (n - 1) other) (is_body n rest) h in
    let q = and_parts (nat_lt 0 n && is_body (n - 1) arm) (is_body (n - 1) other) p.0 in
    let x = body_code arm in
    let y = body_code other in
    let z = body_code rest in
    let a = body_bytes (n - 1) arm ((and_parts (nat_lt 0 n) (is_body (n - 1) arm) q.0).1) in
    let lengths = bytes_then (body_length x) (body_length y) (spelled_bytes 4 (length x)) (spelled_bytes 4 (length y)) in (
      omega arith,
      bytes_then (body_length x ++ body_length y ++ x ++
          y) z (bytes_then (body_length x ++ body_length y ++
          x) y (bytes_then (body_length x ++ body_length y) x lengths a) (body_bytes (n - 1) other q.1)) (body_bytes n rest p.1),
    )
body_bytes n (Loop count body rest) h =
    let p = and_parts (nat_lt 0 n && between 1 65535 count && is_body (n - 1) body) (is_body n rest) h in
    let x = body_code body in
    let z = body_code rest in
    let a = body_bytes (n - 1) body ((and_parts (nat_lt 0 n && between 1 65535 count) (is_body (n - 1) body) p.0).1) in (
      omega arith,
      bytes_then (spelled 2 count ++ body_length x ++
          x) z (bytes_then (spelled 2 count ++
          body_length x) x (bytes_then (spelled 2 count) (body_length x) (spelled_bytes 2 count) (spelled_bytes 4 (length x))) a) (body_bytes n rest p.1),
    )

-- PROGRAMS

limits_bytes : (locals : List ℕ) → AreBytes (limits_code locals)
limits_bytes [] = tt
limits_bytes (n ∷ rest) =
    bytes_then (if has_limit n then spelled 4 n else []) (limits_code rest) (cond_both (has_limit n) (spelled 4 n) [] AreBytes (λ _. spelled_bytes 4 n) (λ _.
    tt)) (limits_bytes rest)

sections_bytes : (n : ℕ) (sections : Sections) → are_sections n sections ≡ true → AreBytes (sections_code sections)
sections_bytes n [] h = tt
sections_bytes n (p ∷ rest) h =
    let f = first_of n p rest h in
    let x = body_code p.1 in
    bytes_then (body_length x ++
    x) (sections_code rest) (bytes_then (body_length x) x (spelled_bytes 4 (length x)) (body_bytes 4 p.1 f.body)) (sections_bytes (1 +
    section_number p.0) rest f.rest)

pub code_bytes : (p : Program) → IsProgram p → AreBytes (code_of p)
code_bytes p h =
    let parts = parts_of p h in
    let limits = limits_code p.locals in
    let bits = spelled 2 (section_bits p.sections) in
    let below = local_bits_below p.locals in
    let eight = ap (λ n. 2 ^ n) parts.eight in (
      omega (arith, below, eight),
      bytes_then (limits ++ bits) (sections_code p.sections) (bytes_then limits bits (limits_bytes p.locals) (spelled_bytes 2 (section_bits p.sections)))
          (sections_bytes 0 p.sections parts.sections),
    )
