-- The table of statements by the shapes of their operands, and what each entry is in the table of the model.
use Rattle.std.specs.Prelude.{ℕ, List, [], ◌∷◌, codes, false}
use Rattle.gq_model.specs.declared.program.OperandSlot.{OperandSlot}
use Rattle.gq_model.specs.declared.program.Form.TheVariants.{Block, Slice, Space}
use Rattle.gq_model.specs.declared.program.Width.TheVariants.{Byte, Word}
use Rattle.gq_model.specs.declared.program.OperandStatement.TheVariants as operands
use Rattle.gq_model.specs.declared.program.Instruction.{Instruction}
use Rattle.gq_model.specs.declared.program.Instruction.TheVariants as program
use Rattle.gq_model.specs.texts.Operands.{greatest_number, greatest_size, bare_entry, number_entry}
use Rattle.gq_model.specs.texts.Spelling as model
use Rattle.gq_program.specs.declared.shapes.WithSlot.{WithSlot}
use Rattle.gq_program.specs.declared.shapes.WithSlot.TheVariants.{Free, Take, Give, Peek, Poke, Call, Close}
use Rattle.gq_program.specs.declared.shapes.WithBytes.{WithBytes}
use Rattle.gq_program.specs.declared.shapes.WithBytes.TheVariants.{Load, Store}
use Rattle.gq_program.specs.declared.shapes.WithAmount.{WithAmount}
use Rattle.gq_program.specs.declared.shapes.WithAmount.TheVariants.{Make, Upgrade}
use Rattle.gq_program.specs.declared.shapes.Shape.{Shape}
use Rattle.gq_program.specs.declared.shapes.Shape.TheVariants.{Say, Out, Plain, Number, Slot, Bytes, Amount, Pool, Open}

-- WITH A SLOT

abbrev pub slot_instruction : WithSlot → OperandSlot → Instruction
slot_instruction Free s = program.Free s
slot_instruction Take s = program.Take s
slot_instruction Give s = program.Give s
slot_instruction Peek s = program.Peek s
slot_instruction Poke s = program.Poke s
slot_instruction Call s = program.Call s
slot_instruction Close s = program.Close s

abbrev pub slot_word : WithSlot → List ℕ
slot_word Free = codes "free"
slot_word Take = codes "take"
slot_word Give = codes "give"
slot_word Peek = codes "peek"
slot_word Poke = codes "poke"
slot_word Call = codes "call"
slot_word Close = codes "close"

abbrev pub slot_opcode : WithSlot → ℕ
slot_opcode Free = 0x24
slot_opcode Take = 0x29
slot_opcode Give = 0x2a
slot_opcode Peek = 0x2b
slot_opcode Poke = 0x2c
slot_opcode Call = 0x32
slot_opcode Close = 0x33

-- WITH A SLOT WHOSE BYTES ARE MEANT

abbrev pub bytes_instruction : WithBytes → OperandSlot → Instruction
bytes_instruction (Load width) s = program.Load width s
bytes_instruction (Store width) s = program.Store width s

abbrev pub bytes_word : WithBytes → List ℕ
bytes_word (Load Byte) = codes "load"
bytes_word (Store Byte) = codes "store"
bytes_word (Load Word) = codes "load4"
bytes_word (Store Word) = codes "store4"

abbrev pub bytes_opcode : WithBytes → ℕ
bytes_opcode (Load Byte) = 0x25
bytes_opcode (Store Byte) = 0x26
bytes_opcode (Load Word) = 0x27
bytes_opcode (Store Word) = 0x28

-- WITH A SLOT AND A NUMBER

abbrev pub amount_instruction : WithAmount → OperandSlot → ℕ → Instruction
amount_instruction (Make form) s n = program.Make form s n
amount_instruction Upgrade s n = program.Upgrade s n

abbrev pub amount_word : WithAmount → List ℕ
amount_word (Make Space) = codes "space"
amount_word (Make Slice) = codes "slice"
amount_word (Make Block) = codes "block"
amount_word Upgrade = codes "upgrade"

abbrev pub amount_opcode : WithAmount → ℕ
amount_opcode (Make Space) = 0x20
amount_opcode (Make Slice) = 0x21
amount_opcode (Make Block) = 0x22
amount_opcode Upgrade = 0x31

abbrev pub amount_low : WithAmount → ℕ
amount_low (Make form) = 1
amount_low Upgrade = 0

abbrev pub amount_high : WithAmount → ℕ
amount_high (Make form) = greatest_size
amount_high Upgrade = greatest_number

-- ALL

abbrev pub word_of : Shape → List ℕ
word_of Say = codes "say"
word_of Out = codes "out"
word_of (Plain k) = (bare_entry k).word
word_of (Number k) = (number_entry k).word
word_of (Slot k) = slot_word k
word_of (Bytes k) = bytes_word k
word_of (Amount k) = amount_word k
word_of Pool = codes "pool"
word_of Open = codes "open"

abbrev pub opcode_of : Shape → ℕ
opcode_of Say = 0x01
opcode_of Out = 0x02
opcode_of (Plain k) = (bare_entry k).opcode
opcode_of (Number k) = (number_entry k).opcode
opcode_of (Slot k) = slot_opcode k
opcode_of (Bytes k) = bytes_opcode k
opcode_of (Amount k) = amount_opcode k
opcode_of Pool = 0x23
opcode_of Open = 0x30

-- the operands that are to come, and the instruction that they make
abbrev pub shape_of : Shape → model.Shape
shape_of Say = model.Said (λ text. model.Made (program.Say text))
shape_of Out = model.Made program.Out
shape_of (Plain k) = model.Made (program.Operands (operands.Plain k))
shape_of (Number k) =
    model.number (number_entry k).width (number_entry k).low (number_entry k).high (λ n. program.Operands (operands.Numbered k n))
shape_of (Slot k) = model.slot (slot_instruction k)
shape_of (Bytes k) = model.bytes (bytes_instruction k)
shape_of (Amount k) = model.slot_and (amount_low k) (amount_high k) (amount_instruction k)
shape_of Pool = model.Slot false (λ s. model.Number 2 1 2048 (λ n. model.number 2 1 1024 (program.MakePool s n)))
shape_of Open = model.Slot false (λ s. model.Service (λ v. model.number 4 0 greatest_number (program.Open s v)))

abbrev pub spelling_of : Shape → model.Spelling
spelling_of shape = model.spelling (opcode_of shape) (word_of shape) (shape_of shape)

abbrev pub spellings_of : List Shape → List model.Spelling
spellings_of [] = []
spellings_of (shape ∷ rest) = spelling_of shape ∷ spellings_of rest
