-- Operands, one part after the other: where a part is read, what is left is read by the rest of the shape; where it is not, its fault is the whole's.
use Rattle.std.proofs.Common.{◌≡◌, ℕ, Bool, Option, Some, None, List, Ok, Err, refl, ◌∙◌}
use Rattle.gq_model.specs.declared.program.OperandSlot.{OperandSlot}
use Rattle.gq_model.specs.declared.fault.CodeFault.{CodeFault}
use Rattle.gq_model.specs.declared.fault.CodeFault.TheVariants.{BadNesting}
use Rattle.gq_model.specs.texts.Letters.{is_name_byte}
use Rattle.gq_model.specs.texts.Spelling.{Shape, Number, Slot, Service}
use Rattle.gq_model.specs.texts.Decode.{decoded_then, number_at, found, place_of, text_at, operands_at}
use Rattle.gq_code.specs.internal.Decoding.{ranged_at, place_at}
use Rattle.gq_code.proofs.Coded_body_decoding.{through, then_along}

found_through : (o : Option OperandSlot) (rest : List ℕ) (go : OperandSlot → Shape) →
    found o (λ s. operands_at (go s) rest) ≡ decoded_then (found {B = OperandSlot × List ℕ} o (λ s. Ok (s, rest))) (λ p. operands_at (go p.0) p.1)
found_through None rest go = refl
found_through (Some s) rest go = refl

slot_through : (object : Bool) (go : OperandSlot → Shape) (bytes : List ℕ) →
    operands_at (Slot object go) bytes ≡ decoded_then (place_at object bytes) (λ p. operands_at (go p.0) p.1)
slot_through object go bytes = through (number_at 1 BadNesting bytes) _ _ _ (λ p. found_through (place_of object p.0) p.1 go)

number_through : (width low high : ℕ) (go : ℕ → Shape) (bytes : List ℕ) →
    operands_at (Number width low high go) bytes ≡ decoded_then (ranged_at width low high bytes) (λ p. operands_at (go p.0) p.1)
number_through width low high go bytes = through (number_at width BadNesting bytes) _ _ _ (λ p. refl)

pub slot_ok : (object : Bool) (go : OperandSlot → Shape) (bytes rest : List ℕ) (place : OperandSlot) → place_at object bytes ≡ Ok (place, rest) →
    operands_at (Slot object go) bytes ≡ operands_at (go place) rest
slot_ok object go bytes rest place e = slot_through object go bytes ∙ then_along _ e

pub slot_err : (object : Bool) (go : OperandSlot → Shape) (bytes : List ℕ) (fault : CodeFault) → place_at object bytes ≡ Err fault →
    operands_at (Slot object go) bytes ≡ Err fault
slot_err object go bytes fault e = slot_through object go bytes ∙ then_along _ e

pub number_ok : (width low high : ℕ) (go : ℕ → Shape) (bytes rest : List ℕ) (number : ℕ) → ranged_at width low high bytes ≡ Ok (number, rest) →
    operands_at (Number width low high go) bytes ≡ operands_at (go number) rest
number_ok width low high go bytes rest number e = number_through width low high go bytes ∙ then_along _ e

pub number_err : (width low high : ℕ) (go : ℕ → Shape) (bytes : List ℕ) (fault : CodeFault) → ranged_at width low high bytes ≡ Err fault →
    operands_at (Number width low high go) bytes ≡ Err fault
number_err width low high go bytes fault e = number_through width low high go bytes ∙ then_along _ e

pub service_ok : (go : List ℕ → Shape) (bytes rest name : List ℕ) → text_at 1 16 is_name_byte bytes ≡ Ok (name, rest) →
    operands_at (Service go) bytes ≡ operands_at (go name) rest
service_ok go bytes rest name e = then_along _ e

pub service_err : (go : List ℕ → Shape) (bytes : List ℕ) (fault : CodeFault) → text_at 1 16 is_name_byte bytes ≡ Err fault →
    operands_at (Service go) bytes ≡ Err fault
service_err go bytes fault e = then_along _ e
