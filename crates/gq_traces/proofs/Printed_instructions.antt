-- The text of a statement is printed, where its operands are in range.
use Rattle.std.proofs.Common.{◌≡◌, ℕ, true, List, [], ◌∷◌, ◌++◌, refl}
use Rattle.std.specs.Prelude.{codes, decimal, length, nat_le}
use Rattle.std.proofs.lemmas.Bool.{and_parts}
use Rattle.gq_model.specs.declared.program.Instruction.{Instruction}
use Rattle.gq_model.specs.declared.program.OperandSlot.{OperandSlot}
use Rattle.gq_model.specs.declared.program.OperandSlot.TheVariants.{Own, Shared, Object}
use Rattle.gq_model.specs.machine.Lists.{all_of, between}
use Rattle.gq_model.specs.texts.Letters.{is_name, is_name_byte, is_said, is_said_byte}
use Rattle.gq_model.specs.texts.Operands.{Operand, Number, Slot, Bytes, Text, Service, in_range, opcode, operands}
use Rattle.gq_model.specs.texts.Spelling.{spellings, word_of_opcode}
use Rattle.gq_views.specs.Listing.{instruction_text, operand_text, operands_text, place_text}
use Rattle.gq_model.proofs.Instruction_laws.{each_spelled}
use Rattle.gq_views.proofs.Table_words.{word_passes}
use Rattle.gq_views.proofs.Listed_lines.{is_printed, name_solid, said_printed, solid_printed}
use Rattle.gq_traces.proofs.Printed_numbers.{IsPrinted, both, number_printed}

pub name_printed : (name : List ℕ) → is_name name ≡ true → IsPrinted name
name_printed name h = solid_printed name (name_solid name (and_parts (between 1 16 (length name)) (all_of is_name_byte name) h).1)

pub text_printed : (text : List ℕ) → is_said text ≡ true → IsPrinted text
text_printed text h = said_printed text (and_parts (nat_le (length text) 64) (all_of is_said_byte text) h).1

place_printed : (place : OperandSlot) → IsPrinted (place_text place)
place_printed (Own n) = both (codes "o") (decimal n) refl (number_printed n)
place_printed (Shared n) = both (codes "s") (decimal n) refl (number_printed n)
place_printed Object = refl

operand_printed : (o : Operand) → in_range o ≡ true → IsPrinted (operand_text o)
operand_printed (Number width low high n) h = number_printed n
operand_printed (Slot place) h = place_printed place
operand_printed (Bytes place) h = place_printed place
operand_printed (Text text) h = both (codes "\"") (text ++ codes "\"") refl (both text (codes "\"") (text_printed text h) refl)
operand_printed (Service name) h = name_printed name h

operands_printed : (os : List Operand) → all_of in_range os ≡ true → IsPrinted (operands_text os)
operands_printed [] h = refl
operands_printed (o ∷ rest) h =
    let t = and_parts (in_range o) (all_of in_range rest) h in
    both (codes " ") (operand_text o ++ operands_text rest) refl
    (both (operand_text o) (operands_text rest) (operand_printed o t.0) (operands_printed rest t.1))

word_printed : (x : Instruction) → IsPrinted (word_of_opcode (opcode x) spellings)
word_printed x = word_passes (all_of is_printed) spellings (opcode x) (each_spelled x).0 (each_spelled x).1 refl

pub instruction_printed : (x : Instruction) → all_of in_range (operands x) ≡ true → IsPrinted (instruction_text x)
instruction_printed x h = both (word_of_opcode (opcode x) spellings) (operands_text (operands x)) (word_printed x) (operands_printed (operands x) h)
