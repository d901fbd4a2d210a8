-- How a statement is spelled in program text.
use Rattle.std.specs.Prelude.{ℕ, ◌==◌, if◌then◌else◌, Bool, true, false, ◌&&◌, List, [], ◌∷◌, Option, Some, None, Result, Ok, Err, codes}
use Rattle.gq_model.specs.machine.Program.{OperandSlot, Own, Shared, Object, Block, Slice, Space, Byte, Word, Add, Subtract, Multiply, And, Equal, Less}
use Rattle.gq_model.specs.machine.Program.{Bare, Drop, Dup, Combine, WithNumber, Push, Divide, Modulo, Get, Set, Index, Input, Plain, Numbered, Instruction}
use Rattle.gq_model.specs.machine.Program.{Say, Out}
use Rattle.gq_model.specs.machine.Program.{Operands, Make, MakePool, Load, Store, Free, Take, Give, Peek, Poke, Open, Upgrade, Call, Close, text_eq}
use Rattle.gq_model.specs.texts.Letters.{is_blank, is_name, is_said, is_short, number_in, unindented}
use Rattle.gq_model.specs.machine.Lists.{all_of}
use Rattle.gq_model.specs.texts.Operands.{greatest_number, greatest_size, bare_entry, number_entry}
pub use Rattle.gq_model.specs.declared.fault.TextFault.{TextFault}
pub use Rattle.gq_model.specs.declared.fault.TextFault.TheVariants.{UnknownWord, BadNumber, BadSlot, Unclosed, StrayEnd, BadText, SectionTwice, TooLong}

-- the operands that are still to come, and the instruction that they make; a number has a width in code and a range
pub data Shape : Type 0 where
  Made : (instruction : Instruction) → Shape
  Number : (width low high : ℕ) (go : ℕ → Shape) → Shape
  Slot : (object : Bool) (go : OperandSlot → Shape) → Shape
  Service Said : (go : List ℕ → Shape) → Shape

-- an instruction with one number
abbrev pub number : ℕ → ℕ → ℕ → (ℕ → Instruction) → Shape
number width low high f = Number width low high (λ n. Made (f n))

-- with one slot
abbrev pub slot : (OperandSlot → Instruction) → Shape
slot f = Slot false (λ s. Made (f s))

-- with a slot, or the object, whose bytes are meant
abbrev pub bytes : (OperandSlot → Instruction) → Shape
bytes f = Slot true (λ s. Made (f s))

-- with a slot and a number
abbrev pub slot_and : ℕ → ℕ → (OperandSlot → ℕ → Instruction) → Shape
slot_and low high f = Slot false (λ s. number 4 low high (f s))

-- a statement but `if` and `loop`: its word in text, its number in code, and its operands
pub record Spelling : Type 0 where
  pub word : List ℕ
  pub opcode : ℕ
  pub shape : Shape

abbrev pub spelling : ℕ → List ℕ → Shape → Spelling
spelling opcode word shape = record { word = word; opcode = opcode; shape = shape }

-- a statement on operands alone, by its entry
abbrev pub bare : Bare → Spelling
bare s = spelling (bare_entry s).opcode (bare_entry s).word (Made (Operands (Plain s)))

abbrev pub numbered : WithNumber → Spelling
numbered s =
    spelling (number_entry s).opcode (number_entry s).word
    (number (number_entry s).width (number_entry s).low (number_entry s).high (λ n. Operands (Numbered s n)))

abbrev pub spellings : List Spelling
spellings =
    spelling 0x01 (codes "say") (Said (λ text. Made (Say text)))
    ∷ spelling 0x02 (codes "out") (Made Out)
    ∷ numbered Push
    ∷ bare Drop
    ∷ bare Dup
    ∷ bare (Combine Add)
    ∷ bare (Combine Subtract)
    ∷ bare (Combine Multiply)
    ∷ numbered Divide
    ∷ numbered Modulo
    ∷ bare (Combine And)
    ∷ bare (Combine Equal)
    ∷ bare (Combine Less)
    ∷ numbered Get
    ∷ numbered Set
    ∷ numbered Index
    ∷ numbered Input
    ∷ spelling 0x20 (codes "space") (slot_and 1 greatest_size (Make Space))
    ∷ spelling 0x21 (codes "slice") (slot_and 1 greatest_size (Make Slice))
    ∷ spelling 0x22 (codes "block") (slot_and 1 greatest_size (Make Block))
    ∷ spelling 0x23 (codes "pool") (Slot false (λ s. Number 2 1 2048 (λ n. number 2 1 1024 (MakePool s n))))
    ∷ spelling 0x24 (codes "free") (slot Free)
    ∷ spelling 0x25 (codes "load") (bytes (Load Byte))
    ∷ spelling 0x26 (codes "store") (bytes (Store Byte))
    ∷ spelling 0x27 (codes "load4") (bytes (Load Word))
    ∷ spelling 0x28 (codes "store4") (bytes (Store Word))
    ∷ spelling 0x29 (codes "take") (slot Take)
    ∷ spelling 0x2a (codes "give") (slot Give)
    ∷ spelling 0x2b (codes "peek") (slot Peek)
    ∷ spelling 0x2c (codes "poke") (slot Poke)
    ∷ spelling 0x30 (codes "open") (Slot false (λ s. Service (λ v. number 4 0 greatest_number (Open s v))))
    ∷ spelling 0x31 (codes "upgrade") (slot_and 0 greatest_number Upgrade)
    ∷ spelling 0x32 (codes "call") (slot Call)
    ∷ spelling 0x33 (codes "close") (slot Close)
    ∷ []

-- the operands of the statement with that word
abbrev pub shape_of_word : List ℕ → List Spelling → Option Shape
shape_of_word word [] = None
shape_of_word word (p ∷ rest) = if text_eq word p.word then Some p.shape else shape_of_word word rest

-- the operands of the statement with that number
abbrev pub shape_of_opcode : ℕ → List Spelling → Option Shape
shape_of_opcode opcode [] = None
shape_of_opcode opcode (p ∷ rest) = if opcode == p.opcode then Some p.shape else shape_of_opcode opcode rest

-- the word of the statement with that number
abbrev pub word_of_opcode : ℕ → List Spelling → List ℕ
word_of_opcode opcode [] = []
word_of_opcode opcode (p ∷ rest) = if opcode == p.opcode then p.word else word_of_opcode opcode rest

-- SLOTS

-- a number of a slot has no leading zero
abbrev pub slot_number : ℕ → List ℕ → Option ℕ
slot_number high text = if is_short text then number_in 2 0 high text else None

abbrev pub named : (ℕ → OperandSlot) → Option ℕ → Option OperandSlot
named f None = None
named f (Some i) = Some (f i)

-- `o` and a number up to 63, or `s` and one up to 7
abbrev pub numbered_slot : List ℕ → Option OperandSlot
numbered_slot [] = None
numbered_slot (c ∷ rest) =
    if c == 111 then named Own (slot_number 63 rest) else (if c == 115 then named Shared (slot_number 7 rest) else None)

abbrev pub slot_in : Bool → List ℕ → Option OperandSlot
slot_in object word = if object && text_eq word (codes "obj") then Some Object else numbered_slot word

-- OPERANDS

abbrev pub Spelled : Type 0
Spelled = Result Instruction TextFault

-- goes on with what is there
abbrev pub found : {A B : Type 0} → Option A → TextFault → (A → Result B TextFault) → Result B TextFault
found None fault go = Err fault
found (Some a) fault go = go a

abbrev pub name_in : List ℕ → Option (List ℕ)
name_in word = if is_name word then Some word else None

-- TEXTS

-- a byte before what is there
abbrev pub before : ℕ → Option (List ℕ) → Option (List ℕ)
before c None = None
before c (Some text) = Some (c ∷ text)

-- the bytes up to a quotation mark, which only blanks follow
abbrev pub quoted : List ℕ → Option (List ℕ)
quoted [] = None
quoted (c ∷ rest) = if c == 34 then (if all_of is_blank rest then Some [] else None) else before c (quoted rest)

abbrev pub opened_quote : List ℕ → Option (List ℕ)
opened_quote [] = None
opened_quote (c ∷ rest) = if c == 34 then quoted rest else None

abbrev pub sayable : Option (List ℕ) → Option (List ℕ)
sayable None = None
sayable (Some text) = if is_said text then Some text else None

-- what stands after `say` on its line: blanks, and a text between quotation marks
abbrev pub said_in : List ℕ → Option (List ℕ)
said_in after = sayable (opened_quote (unindented after))

-- STATEMENTS

-- the instruction that the words after the first make, which stand so on their line, or the first fault from left to right
abbrev pub instruction_in : List ℕ → Shape → List (List ℕ) → Spelled
instruction_in after (Made i) [] = Ok i
instruction_in after (Made i) (word ∷ rest) = Err UnknownWord
instruction_in after (Number width low high go) [] = Err BadNumber
instruction_in after (Number width low high go) (word ∷ rest) = found (number_in 10 low high word) BadNumber (λ n. instruction_in after (go n) rest)
instruction_in after (Slot object go) [] = Err BadSlot
instruction_in after (Slot object go) (word ∷ rest) = found (slot_in object word) BadSlot (λ s. instruction_in after (go s) rest)
instruction_in after (Service go) [] = Err BadText
instruction_in after (Service go) (word ∷ rest) = found (name_in word) BadText (λ v. instruction_in after (go v) rest)
instruction_in after (Said go) rest = found (said_in after) BadText (λ text. instruction_in after (go text) [])
