-- How long the code of statements is.
use Rattle.std.proofs.Common.{◌≡◌, ℕ, zero, suc, ◌-◌, ◌*◌, ◌/◌, ◌≤◌, List, [], ◌∷◌, ◌++◌, length, true, refl, ap, arith, length-append}
use Rattle.std.specs.Prelude.{nat_le, nat_lt, ◌&&◌}
use Rattle.std.proofs.lemmas.Bool.{and_parts, leb-true}
use Rattle.gq_model.specs.declared.program.Instruction.{Instruction}
use Rattle.gq_model.specs.declared.program.Instruction.TheVariants.{Say, Out, Operands, Make}
use Rattle.gq_model.specs.declared.program.Instruction.TheVariants.{MakePool, Load, Store, Free, Take, Give, Peek, Poke, Open, Upgrade, Call, Close}
use Rattle.gq_model.specs.declared.program.OperandStatement.TheVariants.{Plain, Numbered}
use Rattle.gq_model.specs.machine.Program.{Statements, Done, Do, If, Loop, size, spelled}
use Rattle.gq_model.specs.machine.Lists.{all_of, between}
use Rattle.gq_model.specs.texts.Letters.{is_name, is_said, is_name_byte, is_said_byte}
use Rattle.gq_model.specs.texts.Operands.{Service, number, number_entry, operands, in_range, is_slot, operand_code, instruction_code}
use Rattle.gq_model.specs.texts.Code.{is_body, body_code}
use Rattle.gq_model.proofs.Operand_laws.{IsWidth}
use Rattle.gq_model.proofs.Instruction_laws.{each_numbered}

text_short : (text : List ℕ) → is_said text ≡ true → length text ≤ 64
text_short text h = leb-true (length text) 64 ((and_parts (nat_le (length text) 64) (all_of is_said_byte text) h).0)

name_short : (name : List ℕ) → is_name name ≡ true → length name ≤ 16
name_short name h =
    let n =
    length name in let range = (and_parts (between 1 16 n) (all_of is_name_byte name) h).0 in leb-true n 16 ((and_parts (nat_le 1 n) (nat_le n 16) range).1)

number_length : (k v : ℕ) → length (spelled k v) ≡ k
number_length zero v = refl
number_length (suc k) v = ap suc (number_length k (v / 256))

-- a number takes at most four bytes
narrow : (w high : ℕ) → IsWidth w high → w ≤ 4
narrow (suc zero) high h = omega arith
narrow (suc (suc zero)) high h = omega arith
narrow (suc (suc (suc (suc zero)))) high h = omega arith
narrow _ high h = absurd h

-- at most 66 bytes, those of the longest text
instruction_short : (i : Instruction) → all_of in_range (operands i) ≡ true → length (instruction_code i) ≤ 66
instruction_short (Say text) h = let n = text_short text ((and_parts (is_said text) true h).0) in omega (arith, n, length-append text [])
instruction_short (Open p name n) h =
    let parts = and_parts (is_slot p) (all_of in_range (Service name ∷ number n ∷ [])) h in
    let k =
    name_short name ((and_parts (is_name name) (all_of in_range (number n ∷ [])) parts.1).0) in
    omega (arith, k, length-append name (operand_code (number n) ++ []))
instruction_short Out h = omega arith
instruction_short (Operands (Plain s)) h = omega arith
instruction_short (Operands (Numbered s n)) h =
    let w = (number_entry s).width in
    let count = number_length w n in
    let few = narrow w (number_entry s).high (each_numbered s).1 in
    omega (arith, count, few, length-append (spelled w n) [])
instruction_short (Make form p n) h = omega arith
instruction_short (MakePool p n m) h = omega arith
instruction_short (Load width p) h = omega arith
instruction_short (Store width p) h = omega arith
instruction_short (Free p) h = omega arith
instruction_short (Take p) h = omega arith
instruction_short (Give p) h = omega arith
instruction_short (Peek p) h = omega arith
instruction_short (Poke p) h = omega arith
instruction_short (Upgrade p n) h = omega arith
instruction_short (Call p) h = omega arith
instruction_short (Close p) h = omega arith

pub body_short : (n : ℕ) (b : Statements) → is_body n b ≡ true → length (body_code b) ≤ 66 * size b
body_short n Done h = omega arith
body_short n (Do i rest) h =
    let p = and_parts (all_of in_range (operands i)) (is_body n rest) h in
    let first = instruction_short i p.0 in let after = body_short n rest p.1 in omega (arith, first, after, length-append (instruction_code i) (body_code rest))
body_short n (If arm other rest) h =
    let p = and_parts (nat_lt 0 n && is_body (n - 1) arm && is_body (n - 1) other) (is_body n rest) h in
    let q = and_parts (nat_lt 0 n && is_body (n - 1) arm) (is_body (n - 1) other) p.0 in
    let a = body_short (n - 1) arm ((and_parts (nat_lt 0 n) (is_body (n - 1) arm) q.0).1) in
    let b = body_short (n - 1) other q.1 in
    let c = body_short n rest p.1 in
    let x = body_code arm in
    let y = body_code other in
    let z = body_code rest in
    omega (arith, a, b, c, length-append x y, length-append (x ++ y) z)
body_short n (Loop count body rest) h =
    let p = and_parts (nat_lt 0 n && between 1 65535 count && is_body (n - 1) body) (is_body n rest) h in
    let a = body_short (n - 1) body ((and_parts (nat_lt 0 n && between 1 65535 count) (is_body (n - 1) body) p.0).1) in
    let c = body_short n rest p.1 in omega (arith, a, c, length-append (body_code body) (body_code rest))
