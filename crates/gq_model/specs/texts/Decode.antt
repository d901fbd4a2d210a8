-- The program that bytes spell, or their first fault.
use Rattle.std.specs.Prelude.{ℕ, zero, suc, ◌-◌, ◌/◌, ◌%◌, nat_lt, ◌==◌, if◌then◌else◌, Bool, true, false, ◌&&◌, List, [], ◌∷◌, length, Option, Some, None}
use Rattle.std.specs.Prelude.{Result, Ok, Err}
use Rattle.gq_model.specs.machine.Program.{OperandSlot, Own, Shared, Object, Instruction, Statements, Done, Do, If, Loop, Program}
use Rattle.gq_model.specs.machine.Sections.{Section, all_sections}
use Rattle.gq_model.specs.machine.Program.{little}
use Rattle.gq_model.specs.machine.Lists.{all_of, between}
use Rattle.gq_model.specs.texts.Letters.{is_name_byte, is_said_byte}
use Rattle.gq_model.specs.texts.Operands.{greatest_number}
use Rattle.gq_model.specs.texts.Code.{greatest_statements}
use Rattle.gq_model.specs.texts.Spelling.{Shape, Made, Number, Slot, Service, Said, spellings, shape_of_opcode}
pub use Rattle.gq_model.specs.declared.fault.CodeFault.{CodeFault}
pub use Rattle.gq_model.specs.declared.fault.CodeFault.TheVariants.{Truncated, UnknownOpcode, BadOperand, BadNesting, TooLong, TrailingBytes}

abbrev pub Decoded : Type 0 → Type 0
Decoded A = Result A CodeFault

-- goes on with what was decoded
abbrev pub decoded_then : {A B : Type 0} → Decoded A → (A → Decoded B) → Decoded B
decoded_then (Ok a) go = go a
decoded_then (Err fault) go = Err fault

-- a byte before the first part
abbrev pub first_onto : ℕ → Decoded (List ℕ × List ℕ) → Decoded (List ℕ × List ℕ)
first_onto b (Ok p) = Ok (b ∷ p.0, p.1)
first_onto b (Err fault) = Err fault

-- the first n bytes and what follows them
abbrev pub cut : ℕ → CodeFault → List ℕ → Decoded (List ℕ × List ℕ)
cut zero fault bytes = Ok ([], bytes)
cut (suc n) fault [] = Err fault
cut (suc n) fault (b ∷ bytes) = first_onto b (cut n fault bytes)

-- a number of so many bytes, the least first, and what follows it
abbrev pub number_at : ℕ → CodeFault → List ℕ → Decoded (ℕ × List ℕ)
number_at width fault bytes = decoded_then (cut width fault bytes) (λ p. Ok (little p.0, p.1))

-- what is there, if the test holds
abbrev pub checked : {A : Type 0} → Bool → CodeFault → A → Decoded A
checked true fault a = Ok a
checked false fault a = Err fault

-- OPERANDS

-- own slots, then those of a session, then the object where bytes are meant
abbrev pub place_of : Bool → ℕ → Option OperandSlot
place_of object n =
    if nat_lt n 64 then Some (Own n) else (if nat_lt n 72 then Some (Shared (n - 64)) else (if object && n == 72 then Some Object else None))

abbrev pub found : {A B : Type 0} → Option A → (A → Decoded B) → Decoded B
found None go = Err BadOperand
found (Some a) go = go a

-- a text after its length, both in range
abbrev pub text_at : ℕ → ℕ → (ℕ → Bool) → List ℕ → Decoded (List ℕ × List ℕ)
text_at low high test bytes =
    decoded_then (number_at 1 BadNesting bytes) (λ p. decoded_then (checked (between low high p.0) BadOperand p) (λ q.
    decoded_then (cut q.0 BadNesting q.1) (λ r. checked (all_of test r.0) BadOperand r)))

-- the instruction whose operands these bytes begin with, and what follows them
abbrev pub operands_at : Shape → List ℕ → Decoded (Instruction × List ℕ)
operands_at (Made i) bytes = Ok (i, bytes)
operands_at (Number width low high go) bytes =
    decoded_then (number_at width BadNesting bytes) (λ p. decoded_then (checked (between low high p.0) BadOperand p) (λ q. operands_at (go q.0) q.1))
operands_at (Slot object go) bytes = decoded_then (number_at 1 BadNesting bytes) (λ p. found (place_of object p.0) (λ s. operands_at (go s) p.1))
operands_at (Service go) bytes = decoded_then (text_at 1 16 is_name_byte bytes) (λ p. operands_at (go p.0) p.1)
operands_at (Said go) bytes = decoded_then (text_at 0 64 is_said_byte bytes) (λ p. operands_at (go p.0) p.1)

-- BODIES

-- statements, and how many there are with those before
abbrev pub Body : Type 0
Body = Statements × ℕ

-- one statement more after k, of at most 4096
abbrev pub one_more : {A : Type 0} → ℕ → (ℕ → Decoded A) → Decoded A
one_more k go = if nat_lt k greatest_statements then go (suc k) else Err TooLong

-- one block more where n are left
abbrev pub one_deeper : {A : Type 0} → ℕ → (ℕ → Decoded A) → Decoded A
one_deeper zero go = Err BadNesting
one_deeper (suc n) go = go n

abbrev pub plain : Option Shape → ℕ → List ℕ → (Instruction × List ℕ → ℕ → Decoded Body) → Decoded Body
plain None k bytes go = Err UnknownOpcode
plain (Some shape) k bytes go = one_more k (λ m. decoded_then (operands_at shape bytes) (λ p. go p m))

-- the statements of a body, of which this is the fuel, with n blocks to open, after k statements
abbrev pub body_at : ℕ → ℕ → ℕ → List ℕ → Decoded Body
body_at fuel n k [] = Ok (Done, k)
body_at zero n k (op ∷ bytes) = Err BadNesting
body_at (suc fuel) n k (op ∷ bytes) =
    let choice = one_deeper n (λ d. one_more k (λ m.
    decoded_then (number_at 4 BadNesting bytes) (λ a. decoded_then (number_at 4 BadNesting a.1) (λ b.
    decoded_then (cut a.0 BadNesting b.1) (λ arm. decoded_then (cut b.0 BadNesting arm.1) (λ other.
    decoded_then (body_at fuel d m arm.0) (λ x. decoded_then (body_at fuel d x.1 other.0) (λ y.
    decoded_then (body_at fuel n y.1 other.1) (λ z. Ok (If x.0 y.0 z.0, z.1)))))))))) in
    let round = one_deeper n (λ d. one_more k (λ m.
    decoded_then (number_at 2 BadNesting bytes) (λ c. decoded_then (checked (nat_lt 0 c.0) BadOperand c) (λ c.
    decoded_then (number_at 4 BadNesting c.1) (λ b. decoded_then (cut b.0 BadNesting b.1) (λ body.
    decoded_then (body_at fuel d m body.0) (λ x. decoded_then (body_at fuel n x.1 body.1) (λ z. Ok (Loop c.0 x.0 z.0, z.1))))))))) in
    let other = plain (shape_of_opcode op spellings) k bytes (λ p m. decoded_then (body_at fuel n m p.1) (λ z. Ok (Do p.0 z.0, z.1))) in
    if op == 0x40 then choice else (if op == 0x41 then round else other)

-- PROGRAMS

-- the limits of locals whose bits are set, from the lowest on; the greatest number is no limit
abbrev pub limits_at : ℕ → ℕ → List ℕ → Decoded (List ℕ × List ℕ)
limits_at zero bits bytes = Ok ([], bytes)
limits_at (suc n) bits bytes =
    let given = decoded_then (number_at 4 Truncated bytes) (λ p. decoded_then (checked (nat_lt p.0 greatest_number) BadOperand p) (λ q.
    decoded_then (limits_at n (bits / 2) q.1) (λ rest. Ok (q.0 ∷ rest.0, rest.1)))) in
    let absent = decoded_then (limits_at n (bits / 2) bytes) (λ rest. Ok (greatest_number ∷ rest.0, rest.1)) in
    if bits % 2 == 1 then given else absent

-- the sections whose bits are set, after k statements, up to the end of the bytes
abbrev pub sections_at : List Section → ℕ → ℕ → List ℕ → Decoded (List (Section × Statements))
sections_at [] bits k [] = Ok []
sections_at [] bits k (b ∷ bytes) = Err TrailingBytes
sections_at (s ∷ rest) bits k bytes =
    let given = decoded_then (number_at 4 Truncated bytes) (λ p. decoded_then (cut p.0 Truncated p.1) (λ body.
    decoded_then (body_at (length body.0) 4 k body.0) (λ x.
    decoded_then (sections_at rest (bits / 2) x.1 body.1) (λ sections. Ok ((s, x.0) ∷ sections))))) in
    let absent = sections_at rest (bits / 2) k bytes in
    if bits % 2 == 1 then given else absent

-- bits of limits, limits, bits of the 16 sections, sections
abbrev pub decoded : List ℕ → Decoded Program
decoded bytes =
    decoded_then (number_at 1 Truncated bytes) (λ bits. decoded_then (limits_at 8 bits.0 bits.1) (λ limits.
    decoded_then (number_at 2 Truncated limits.1) (λ present.
    decoded_then (sections_at all_sections present.0 0 present.1) (λ sections. Ok (record { sections = sections; locals = limits.0 })))))
