-- Each entry of the table is found by its number in code and by its word.
use Rattle.std.proofs.Common.{◌≡◌, ℕ, List, Bool, true, Some, refl}
use Rattle.gq_model.specs.machine.Lists.{all_of}
use Rattle.gq_model.specs.declared.program.Form.TheVariants.{Block, Slice, Space}
use Rattle.gq_model.specs.declared.program.Width.TheVariants.{Byte, Word}
use Rattle.gq_model.specs.texts.Spelling.{shape_of_opcode, shape_of_word, word_of_opcode, spellings}
use Rattle.gq_model.proofs.Instruction_laws.{each_bare, each_numbered, word_tested}
use Rattle.gq_program.specs.Statement_table.{opcode_of, shape_of, word_of}
use Rattle.gq_program.specs.declared.shapes.WithSlot.TheVariants.{Free, Take, Give, Peek, Poke, Call, Close}
use Rattle.gq_program.specs.declared.shapes.WithBytes.TheVariants.{Load, Store}
use Rattle.gq_program.specs.declared.shapes.WithAmount.TheVariants.{Make, Upgrade}
use Rattle.gq_program.specs.declared.shapes.Shape.{Shape}
use Rattle.gq_program.specs.declared.shapes.Shape.TheVariants.{Say, Out, Plain, Number, Slot, Bytes, Amount, Pool, Open}

-- by its number
pub found_by : (s : Shape) → shape_of_opcode (opcode_of s) spellings ≡ Some (shape_of s)
found_by Say = refl
found_by Out = refl
found_by (Plain k) = (each_bare k).by_opcode
found_by (Number k) = (each_numbered k).0.by_opcode
found_by (Slot Free) = refl
found_by (Slot Take) = refl
found_by (Slot Give) = refl
found_by (Slot Peek) = refl
found_by (Slot Poke) = refl
found_by (Slot Call) = refl
found_by (Slot Close) = refl
found_by (Bytes (Load Byte)) = refl
found_by (Bytes (Load Word)) = refl
found_by (Bytes (Store Byte)) = refl
found_by (Bytes (Store Word)) = refl
found_by (Amount (Make Space)) = refl
found_by (Amount (Make Slice)) = refl
found_by (Amount (Make Block)) = refl
found_by (Amount Upgrade) = refl
found_by Pool = refl
found_by Open = refl

-- by its word
pub found_by_word : (s : Shape) → shape_of_word (word_of s) spellings ≡ Some (shape_of s)
found_by_word Say = refl
found_by_word Out = refl
found_by_word (Plain k) = (each_bare k).by_word
found_by_word (Number k) = (each_numbered k).0.by_word
found_by_word (Slot Free) = refl
found_by_word (Slot Take) = refl
found_by_word (Slot Give) = refl
found_by_word (Slot Peek) = refl
found_by_word (Slot Poke) = refl
found_by_word (Slot Call) = refl
found_by_word (Slot Close) = refl
found_by_word (Bytes (Load Byte)) = refl
found_by_word (Bytes (Load Word)) = refl
found_by_word (Bytes (Store Byte)) = refl
found_by_word (Bytes (Store Word)) = refl
found_by_word (Amount (Make Space)) = refl
found_by_word (Amount (Make Slice)) = refl
found_by_word (Amount (Make Block)) = refl
found_by_word (Amount Upgrade) = refl
found_by_word Pool = refl
found_by_word Open = refl

-- its word is the one that the number has
pub word_is : (s : Shape) → word_of_opcode (opcode_of s) spellings ≡ word_of s
word_is Say = refl
word_is Out = refl
word_is (Plain k) = (each_bare k).word_is
word_is (Number k) = (each_numbered k).0.word_is
word_is (Slot Free) = refl
word_is (Slot Take) = refl
word_is (Slot Give) = refl
word_is (Slot Peek) = refl
word_is (Slot Poke) = refl
word_is (Slot Call) = refl
word_is (Slot Close) = refl
word_is (Bytes (Load Byte)) = refl
word_is (Bytes (Load Word)) = refl
word_is (Bytes (Store Byte)) = refl
word_is (Bytes (Store Word)) = refl
word_is (Amount (Make Space)) = refl
word_is (Amount (Make Slice)) = refl
word_is (Amount (Make Block)) = refl
word_is (Amount Upgrade) = refl
word_is Pool = refl
word_is Open = refl

-- a test that each word of the table passes is passed by the word of each entry
pub each_word : (test : List ℕ → Bool) → all_of (λ p. test p.word) spellings ≡ true → (s : Shape) → test (word_of s) ≡ true
each_word test h s = word_tested test spellings (word_of s) (shape_of s) (found_by_word s) h
