-- Bodies as bytes spell them, one statement after the other.
use Rattle.std.specs.Prelude.{◌≡◌, ℕ, nat_lt, ◌==◌, if◌then◌else◌, Option, Some, None, List, ◌++◌, length, Result, Ok, Err}
use Rattle.gq_model.specs.declared.program.Instruction.{Instruction}
use Rattle.gq_model.specs.declared.section.Section.{Section}
use Rattle.gq_model.specs.declared.fault.CodeFault.TheVariants.{Truncated, UnknownOpcode, BadNesting, BadOperand}
use Rattle.gq_model.specs.machine.Program.{Statements, Done, Do, If, Loop, ◌then◌}
use Rattle.gq_model.specs.texts.Spelling.{Shape, spellings, shape_of_opcode}
use Rattle.gq_model.specs.texts.Decode.{Decoded, decoded_then, number_at, checked, cut, operands_at, Body, one_more, one_deeper, body_at}
use Rattle.gq_code.specs.declared.decode.DecodeError.{DecodeError}
use Rattle.gq_code.specs.declared.decode.DecodeError.TheVariants.{Memory, Fault}

-- the answer has this fault, unless memory was refused
abbrev pub Fails : {Y : Type 0} → DecodeError → Decoded Y → Type 0
Fails (Memory error) answer = Unit {0}
Fails (Fault fault) answer = answer ≡ Err fault

-- What a function returned, seen by view, is the answer, unless memory was refused.
abbrev pub Reads : {X Y : Type 0} → (X → Y) → Result X DecodeError → Decoded Y → Type 0
Reads view (Ok x) answer = answer ≡ Ok (view x)
Reads view (Err error) answer = Fails error answer

-- all of these bytes
abbrev pub body_in : ℕ → ℕ → List ℕ → Decoded Body
body_in n k bytes = body_at (length bytes) n k bytes

-- one statement alone, how many there are with it and those in it, and what follows it
abbrev pub One : Type 0
One = Statements × (ℕ × List ℕ)

-- where n blocks are left and k statements stand before: how many are left in this block, and the number of this statement
abbrev pub opened_at : ℕ → ℕ → Decoded (ℕ × ℕ)
opened_at n k = one_deeper n (λ d. one_more k (λ m. Ok (d, m)))

-- the bytes of both arms, and what follows them
abbrev pub arms_at : List ℕ → Decoded (List ℕ × (List ℕ × List ℕ))
arms_at bytes =
    decoded_then (number_at 4 BadNesting bytes) (λ a. decoded_then (number_at 4 BadNesting a.1) (λ b.
    decoded_then (cut a.0 BadNesting b.1) (λ arm. decoded_then (cut b.0 BadNesting arm.1) (λ other. Ok (arm.0, (other.0, other.1))))))

-- a loop's count, its bytes, and what follows them
abbrev pub round_at : List ℕ → Decoded (ℕ × (List ℕ × List ℕ))
round_at bytes =
    decoded_then (number_at 2 BadNesting bytes) (λ c. decoded_then (checked (nat_lt 0 c.0) BadOperand c) (λ c.
    decoded_then (number_at 4 BadNesting c.1) (λ b. decoded_then (cut b.0 BadNesting b.1) (λ body. Ok (c.0, (body.0, body.1))))))

-- an instruction whose operands are of this shape, how many statements there are with it, and what follows it
abbrev pub plain_at : Option Shape → ℕ → List ℕ → Decoded (Instruction × (ℕ × List ℕ))
plain_at None k bytes = Err UnknownOpcode
plain_at (Some shape) k bytes = one_more k (λ m. decoded_then (operands_at shape bytes) (λ p. Ok (p.0, (m, p.1))))

-- an `if`, whose arms are read so
abbrev pub choice_with : (ℕ → ℕ → List ℕ → Decoded Body) → ℕ → ℕ → List ℕ → Decoded One
choice_with body n k bytes =
    decoded_then (opened_at n k) (λ o. decoded_then (arms_at bytes) (λ a.
    decoded_then (body o.0 o.1 a.0) (λ x. decoded_then (body o.0 x.1 a.1.0) (λ y. Ok (If x.0 y.0 Done, (y.1, a.1.1))))))

-- a loop, whose body is read so
abbrev pub round_with : (ℕ → ℕ → List ℕ → Decoded Body) → ℕ → ℕ → List ℕ → Decoded One
round_with body n k bytes =
    decoded_then (opened_at n k) (λ o. decoded_then (round_at bytes) (λ r.
    decoded_then (body o.0 o.1 r.1.0) (λ x. Ok (Loop r.0 x.0 Done, (x.1, r.1.1)))))

-- a statement of this number with no statement in it
abbrev pub instruction_at : ℕ → ℕ → List ℕ → Decoded One
instruction_at op k bytes = decoded_then (plain_at (shape_of_opcode op spellings) k bytes) (λ p. Ok (Do p.0 Done, p.1))

-- an instruction at the end of these statements, and what follows it
abbrev pub put_at : Statements → Decoded (Instruction × List ℕ) → Decoded (Statements × List ℕ)
put_at made read = decoded_then read (λ p. Ok (made then Do p.0 Done, p.1))

-- a statement at the end of these, how many there are with it and those in it, and what follows it
abbrev pub placed : Statements → Decoded One → Decoded One
placed made one = decoded_then one (λ p. Ok (made then p.0, p.1))

-- a statement of this number, the bodies in which are read so
abbrev pub statement_with : (ℕ → ℕ → List ℕ → Decoded Body) → ℕ → ℕ → ℕ → List ℕ → Decoded One
statement_with body op n k bytes =
    if op == 0x40 then choice_with body n k bytes else (if op == 0x41 then round_with body n k bytes else instruction_at op k bytes)

-- what follows these statements
abbrev pub continued : Statements → Decoded Body → Decoded Body
continued made rest = decoded_then rest (λ z. Ok (made then z.0, z.1))

-- a section's statements after their length, how many there are with those before, and what follows them
abbrev pub section_at : ℕ → List ℕ → Decoded One
section_at k bytes =
    decoded_then (number_at 4 Truncated bytes) (λ p. decoded_then (cut p.0 Truncated p.1) (λ body.
    decoded_then (body_in 4 k body.0) (λ x. Ok (x.0, (x.1, body.1)))))

-- the sections that follow these
abbrev pub after_sections : List (Section × Statements) → Decoded (List (Section × Statements)) → Decoded (List (Section × Statements))
after_sections made rest = decoded_then rest (λ sections. Ok (made ++ sections))
