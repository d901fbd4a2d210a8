-- Statements, operand by operand.
use Rattle.std.proofs.Common.{◌≡◌, ℕ, Bool, List, [], ◌∷◌, Option, Some, None, Result, Ok, Err, true, false, refl, ap, sym, ◌∙◌}
use Rattle.gq_model.specs.declared.program.OperandSlot.{OperandSlot}
use Rattle.gq_model.specs.declared.program.Instruction.TheVariants.{MakePool, Open}
use Rattle.gq_model.specs.texts.Operands.{greatest_number}
use Rattle.gq_program.specs.declared.shapes.WithBytes.{WithBytes}
use Rattle.gq_program.specs.declared.shapes.Shape.TheVariants as shapes
use Rattle.gq_program.specs.Statement_table.{shape_of, bytes_instruction}
use Rattle.gq_model.specs.declared.fault.TextFault.{TextFault}
use Rattle.gq_model.specs.declared.fault.TextFault.TheVariants.{BadNumber, BadSlot, BadText}
use Rattle.gq_model.specs.texts.Letters.{number_in}
use Rattle.gq_model.specs.texts.Spelling.{Shape, Made, Number, Slot, Service, number, found, slot_in, name_in, instruction_in}
use Rattle.gq_model.specs.declared.program.Instruction.{Instruction}
use Rattle.gq_asm.specs.internal.Operand_words.{nothing_at, number_at, slot_at, name_at}

-- what is found goes on
pub found_got : {A B : Type 0} (o : Option A) (fault : TextFault) (ws rest : List (List ℕ)) (a : A) (on : A → List (List ℕ) → Result B TextFault) →
    found {B = A × List (List ℕ)} o fault (λ x. Ok (x, ws)) ≡ Ok (a, rest) → found o fault (λ x. on x ws) ≡ on a rest
found_got None fault ws rest a on h = cc
found_got {A} (Some b) fault ws rest a on h = let e : ◌≡◌ {A = A × List (List ℕ)} (b, ws) (a, rest) = cc in ap (λ p. on p.0 p.1) e

-- what is not found is a fault
pub found_not : {A B : Type 0} (o : Option A) (fault f : TextFault) (ws : List (List ℕ)) (on : A → Result B TextFault) →
    found {B = A × List (List ℕ)} o fault (λ x. Ok (x, ws)) ≡ Err f → found o fault on ≡ Err f
found_not None fault f ws on h = cc
found_not (Some b) fault f ws on h = cc

-- NUMBERS

pub number_ok : (after : List ℕ) (width low high : ℕ) (go : ℕ → Shape) (ws : List (List ℕ)) (n : ℕ) (rest : List (List ℕ)) →
    number_at low high ws ≡ Ok (n, rest) → instruction_in after (Number width low high go) ws ≡ instruction_in after (go n) rest
number_ok after width low high go [] n rest h = cc
number_ok after width low high go (w ∷ ws) n rest h = found_got (number_in 10 low high w) BadNumber ws rest n (λ n more. instruction_in after (go n) more) h

pub number_err : (after : List ℕ) (width low high : ℕ) (go : ℕ → Shape) (ws : List (List ℕ)) (f : TextFault) → number_at low high ws ≡ Err f →
    instruction_in after (Number width low high go) ws ≡ Err f
number_err after width low high go [] f h = cc
number_err after width low high go (w ∷ ws) f h = found_not (number_in 10 low high w) BadNumber f ws (λ n. instruction_in after (go n) ws) h

-- SLOTS

pub slot_ok : (after : List ℕ) (object : Bool) (go : OperandSlot → Shape) (ws : List (List ℕ)) (s : OperandSlot) (rest : List (List ℕ)) → slot_at object ws ≡
    Ok (s, rest) →
    instruction_in after (Slot object go) ws ≡ instruction_in after (go s) rest
slot_ok after object go [] s rest h = cc
slot_ok after object go (w ∷ ws) s rest h = found_got (slot_in object w) BadSlot ws rest s (λ s more. instruction_in after (go s) more) h

pub slot_err : (after : List ℕ) (object : Bool) (go : OperandSlot → Shape) (ws : List (List ℕ)) (f : TextFault) → slot_at object ws ≡ Err f →
    instruction_in after (Slot object go) ws ≡ Err f
slot_err after object go [] f h = cc
slot_err after object go (w ∷ ws) f h = found_not (slot_in object w) BadSlot f ws (λ s. instruction_in after (go s) ws) h

-- SERVICES

pub name_ok : (after : List ℕ) (go : List ℕ → Shape) (ws : List (List ℕ)) (v : List ℕ) (rest : List (List ℕ)) → name_at ws ≡ Ok (v, rest) →
    instruction_in after (Service go) ws ≡ instruction_in after (go v) rest
name_ok after go [] v rest h = cc
name_ok after go (w ∷ ws) v rest h = found_got (name_in w) BadText ws rest v (λ v more. instruction_in after (go v) more) h

pub name_err : (after : List ℕ) (go : List ℕ → Shape) (ws : List (List ℕ)) (f : TextFault) → name_at ws ≡ Err f → instruction_in after (Service go) ws ≡ Err f
name_err after go [] f h = cc
name_err after go (w ∷ ws) f h = found_not (name_in w) BadText f ws (λ v. instruction_in after (go v) ws) h

-- THE END

pub end_ok : (after : List ℕ) (i : Instruction) (ws : List (List ℕ)) → nothing_at ws ≡ Ok tt → instruction_in after (Made i) ws ≡ Ok i
end_ok after i [] h = refl
end_ok after i (w ∷ ws) h = cc

pub end_err : (after : List ℕ) (i : Instruction) (ws : List (List ℕ)) (f : TextFault) → nothing_at ws ≡ Err f → instruction_in after (Made i) ws ≡ Err f
end_err after i [] f h = cc
end_err after i (w ∷ ws) f h = cc

-- WHOLE STATEMENTS

pub bytes_err : (after : List ℕ) (k : WithBytes) (ws : List (List ℕ)) (f : TextFault) → slot_at true ws ≡ Err f →
    Err f ≡ instruction_in after (shape_of (shapes.Bytes k)) ws
bytes_err after k ws f h = sym (slot_err after true (λ s. Made (bytes_instruction k s)) ws f h)

-- whatever is read after the slot that was found
pub bytes_then : (after : List ℕ) (k : WithBytes) (ws rest : List (List ℕ)) (s : OperandSlot) (x : Result Instruction TextFault) → slot_at true ws ≡ Ok
    (s, rest) →
    instruction_in after (Made (bytes_instruction k s)) rest ≡ x → x ≡ instruction_in after (shape_of (shapes.Bytes k)) ws
bytes_then after k ws rest s x h read = sym (slot_ok after true (λ s. Made (bytes_instruction k s)) ws s rest h ∙ read)

pub pool_after : (after : List ℕ) (ws rest more : List (List ℕ)) (s : OperandSlot) (n : ℕ) (x : Result Instruction TextFault) → slot_at false ws ≡ Ok
    (s, rest) →
    number_at 1 2048 rest ≡ Ok (n, more) → instruction_in after (number 2 1 1024 (MakePool s n)) more ≡ x → x ≡ instruction_in after (shape_of shapes.Pool) ws
pool_after after ws rest more s n x h k read =
    sym (slot_ok after false (λ s. Number 2 1 2048 (λ n. number 2 1 1024 (MakePool s n))) ws s rest h
    ∙ number_ok after 2 1 2048 (λ n. number 2 1 1024 (MakePool s n)) rest n more k
    ∙ read)

pub pool_err : (after : List ℕ) (ws rest more : List (List ℕ)) (s : OperandSlot) (n : ℕ) (f : TextFault) → slot_at false ws ≡ Ok (s, rest) →
    number_at 1 2048 rest ≡ Ok (n, more) → number_at 1 1024 more ≡ Err f → Err f ≡ instruction_in after (shape_of shapes.Pool) ws
pool_err after ws rest more s n f h k e =
    pool_after after ws rest more s n (Err f) h k (number_err after 2 1 1024 (λ m. Made (MakePool s n m)) more f e)

pub pool_then : (after : List ℕ) (ws rest more last : List (List ℕ)) (s : OperandSlot) (n m : ℕ) (x : Result Instruction TextFault) →
    slot_at false ws ≡ Ok (s, rest) → number_at 1 2048 rest ≡ Ok (n, more) → number_at 1 1024 more ≡ Ok (m, last) →
    instruction_in after (Made (MakePool s n m)) last ≡ x → x ≡ instruction_in after (shape_of shapes.Pool) ws
pool_then after ws rest more last s n m x h k e read =
    pool_after after ws rest more s n x h k (number_ok after 2 1 1024 (λ m. Made (MakePool s n m)) more m last e ∙ read)

pub service_err : (after : List ℕ) (ws rest : List (List ℕ)) (s : OperandSlot) (f : TextFault) → slot_at false ws ≡ Ok (s, rest) → name_at rest ≡ Err f →
    Err f ≡ instruction_in after (shape_of shapes.Open) ws
service_err after ws rest s f h k =
    sym (slot_ok after false (λ s. Service (λ v. number 4 0 greatest_number (Open s v))) ws s rest h
    ∙ name_err after (λ v. number 4 0 greatest_number (Open s v)) rest f k)

pub open_after : (after : List ℕ) (ws rest more : List (List ℕ)) (s : OperandSlot) (v : List ℕ) (x : Result Instruction TextFault) → slot_at false ws ≡ Ok
    (s, rest) →
    name_at rest ≡ Ok (v, more) → instruction_in after (number 4 0 greatest_number (Open s v)) more ≡ x → x ≡ instruction_in after (shape_of shapes.Open) ws
open_after after ws rest more s v x h k read =
    sym (slot_ok after false (λ s. Service (λ v. number 4 0 greatest_number (Open s v))) ws s rest h
    ∙ name_ok after (λ v. number 4 0 greatest_number (Open s v)) rest v more k
    ∙ read)

pub open_err : (after : List ℕ) (ws rest more : List (List ℕ)) (s : OperandSlot) (v : List ℕ) (f : TextFault) → slot_at false ws ≡ Ok (s, rest) →
    name_at rest ≡ Ok (v, more) → number_at 0 greatest_number more ≡ Err f → Err f ≡ instruction_in after (shape_of shapes.Open) ws
open_err after ws rest more s v f h k e =
    open_after after ws rest more s v (Err f) h k (number_err after 4 0 greatest_number (λ n. Made (Open s v n)) more f e)

pub open_then : (after : List ℕ) (ws rest more last : List (List ℕ)) (s : OperandSlot) (v : List ℕ) (n : ℕ) (x : Result Instruction TextFault) →
    slot_at false ws ≡ Ok (s, rest) → name_at rest ≡ Ok (v, more) → number_at 0 greatest_number more ≡ Ok (n, last) →
    instruction_in after (Made (Open s v n)) last ≡ x → x ≡ instruction_in after (shape_of shapes.Open) ws
open_then after ws rest more last s v n x h k e read =
    open_after after ws rest more s v x h k (number_ok after 4 0 greatest_number (λ n. Made (Open s v n)) more n last e ∙ read)
