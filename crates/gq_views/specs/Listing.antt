-- A program as text: the one spelling of it that is reported.
use Rattle.std.specs.Prelude.{ℕ, zero, suc, ◌==◌, if◌then◌else◌, List, [], ◌∷◌, ◌++◌, decimal, codes}
use Rattle.gq_model.specs.declared.program.Instruction.{Instruction}
use Rattle.gq_model.specs.declared.program.OperandSlot.{OperandSlot}
use Rattle.gq_model.specs.declared.program.OperandSlot.TheVariants.{Own, Shared, Object}
use Rattle.gq_model.specs.declared.section.Section.{Section}
use Rattle.gq_model.specs.machine.Program.{Statements, Done, Do, If, Loop, Program}
use Rattle.gq_model.specs.texts.Operands.{Operand, Number, Slot, Bytes, Text, Service, greatest_number, opcode, operands}
use Rattle.gq_model.specs.texts.Spelling.{spellings, word_of_opcode}
use Rattle.gq_model.specs.machine.Sections.{section_word}

-- STATEMENTS

abbrev pub place_text : OperandSlot → List ℕ
place_text (Own i) = codes "o" ++ decimal i
place_text (Shared i) = codes "s" ++ decimal i
place_text Object = codes "obj"

abbrev pub operand_text : Operand → List ℕ
operand_text (Number width low high n) = decimal n
operand_text (Slot place) = place_text place
operand_text (Bytes place) = place_text place
operand_text (Text text) = codes "\"" ++ text ++ codes "\""
operand_text (Service name) = name

-- each behind a blank
abbrev pub operands_text : List Operand → List ℕ
operands_text [] = []
operands_text (o ∷ rest) = codes " " ++ operand_text o ++ operands_text rest

abbrev pub instruction_text : Instruction → List ℕ
instruction_text i = word_of_opcode (opcode i) spellings ++ operands_text (operands i)

abbrev pub loop_text : ℕ → List ℕ
loop_text n = codes "loop " ++ decimal n

-- LINES

-- two blanks for a section and for each block around
abbrev pub indent : ℕ → List ℕ
indent zero = []
indent (suc n) = codes "  " ++ indent n

abbrev pub indented : ℕ → List ℕ → List ℕ
indented depth text = indent depth ++ text

-- each line ends in a line feed
abbrev pub joined : List (List ℕ) → List ℕ
joined [] = []
joined (line ∷ rest) = line ++ 10 ∷ joined rest

abbrev pub line : ℕ → List ℕ → List ℕ
line depth text = joined (indented depth text ∷ [])

-- the second arm is reported where it does something
abbrev pub other_lines : ℕ → Statements → List (List ℕ) → List (List ℕ)
other_lines depth Done lines = []
other_lines depth other lines = indented depth (codes "else") ∷ lines

abbrev pub statements_lines : ℕ → Statements → List (List ℕ)
statements_lines depth Done = []
statements_lines depth (Do i rest) = indented depth (instruction_text i) ∷ statements_lines depth rest
statements_lines depth (If arm other rest) =
    indented depth (codes "if") ∷ statements_lines (suc depth) arm ++ other_lines depth other (statements_lines (suc depth) other)
    ++ indented depth (codes "end") ∷ statements_lines depth rest
statements_lines depth (Loop n body rest) =
    indented depth (loop_text n) ∷ statements_lines (suc depth) body ++ indented depth (codes "end") ∷ statements_lines depth rest

-- the greatest value of each local for which it is not the greatest number
abbrev pub locals_lines : ℕ → List ℕ → List (List ℕ)
locals_lines i [] = []
locals_lines i (n ∷ rest) =
    (if n == greatest_number then [] else (codes "local " ++ decimal i ++ codes " " ++ decimal n) ∷ []) ++ locals_lines (suc i) rest

abbrev pub sections_lines : List (Section × Statements) → List (List ℕ)
sections_lines [] = []
sections_lines (p ∷ rest) = section_word p.0 ∷ statements_lines 1 p.1 ++ codes "end" ∷ sections_lines rest

abbrev pub listing_lines : Program → List (List ℕ)
listing_lines p = locals_lines 0 p.locals ++ sections_lines p.sections

abbrev pub listing : Program → List ℕ
listing p = joined (listing_lines p)
