-- Parts of code, in the order in which they are read.
use Rattle.std.specs.Prelude.{◌≡◌, ℕ, nat_lt, if◌then◌else◌, Bool, List, ◌++◌, Result, Ok, Err}
use Rattle.gq_model.specs.declared.program.OperandSlot.{OperandSlot}
use Rattle.gq_model.specs.machine.Lists.{between}
use Rattle.gq_model.specs.declared.fault.CodeFault.{CodeFault}
use Rattle.gq_model.specs.declared.fault.CodeFault.TheVariants.{Truncated, BadNesting, BadOperand}
use Rattle.gq_model.specs.texts.Operands.{greatest_number}
use Rattle.gq_model.specs.texts.Decode.{Decoded, decoded_then, number_at, checked, found, place_of, cut}

-- What a function returned, seen by view, is the answer.
abbrev pub Answers : {X Y : Type 0} → (X → Y) → Result X CodeFault → Decoded Y → Type 0
Answers view (Ok x) answer = answer ≡ Ok (view x)
Answers view (Err fault) answer = answer ≡ Err fault

-- a number of so many bytes in a range
abbrev pub ranged_at : ℕ → ℕ → ℕ → List ℕ → Decoded (ℕ × List ℕ)
ranged_at width low high bytes = decoded_then (number_at width BadNesting bytes) (λ p. checked (between low high p.0) BadOperand p)

-- a slot, or the object where bytes are meant
abbrev pub place_at : Bool → List ℕ → Decoded (OperandSlot × List ℕ)
place_at object bytes = decoded_then (number_at 1 BadNesting bytes) (λ p. found (place_of object p.0) (λ s. Ok (s, p.1)))

-- the bytes of a text after their number, which is in a range
abbrev pub counted_at : ℕ → ℕ → List ℕ → Decoded (List ℕ × List ℕ)
counted_at low high bytes = decoded_then (ranged_at 1 low high bytes) (λ p. cut p.0 BadNesting p.1)

-- the greatest value of a local, which stands there where one is given
abbrev pub limit_at : Bool → List ℕ → Decoded (ℕ × List ℕ)
limit_at given bytes =
    if given
    then decoded_then (number_at 4 Truncated bytes) (λ p. checked (nat_lt p.0 greatest_number) BadOperand p)
    else Ok (greatest_number, bytes)

-- the values that follow these
abbrev pub after_limits : List ℕ → Decoded (List ℕ × List ℕ) → Decoded (List ℕ × List ℕ)
after_limits made rest = decoded_then rest (λ p. Ok (made ++ p.0, p.1))
