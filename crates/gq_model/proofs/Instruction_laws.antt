-- The two tables of statements agree, so the code of an instruction is read back.
use Rattle.std.proofs.Common.{◌≡◌, ℕ, ◌≤◌, List, [], ◌∷◌, ◌++◌, Bool, true, false, Some, refl, ap, ◌∙◌, arith}
use Rattle.std.specs.Prelude.{Ok, if◌then◌else◌}
use Rattle.std.proofs.lemmas.Bool.{and_parts}
use Rattle.gq_model.specs.machine.Program.{Block, Slice, Space, Byte, Word, Add, Subtract, Multiply, And, Equal, Less, Bare, Drop, Dup, Combine, WithNumber}
use Rattle.gq_model.specs.machine.Program.{Push, Divide, Modulo, Get, Set, Index, Input, Plain, Numbered, Instruction, Say, Out, Operands, Make, MakePool, Load}
use Rattle.gq_model.specs.machine.Program.{Store, Free, Take, Give, Peek, Poke, Open, Upgrade, Call, Close, text_eq}
use Rattle.gq_model.specs.machine.Lists.{all_of}
use Rattle.gq_model.specs.texts.Operands.{bare_entry, number_entry, opcode, operands, in_range, operands_code}
use Rattle.gq_model.specs.texts.Spelling.{Shape, Spelling, Made, number, spellings, shape_of_opcode, shape_of_word, word_of_opcode}
use Rattle.gq_model.specs.texts.Decode.{operands_at}
use Rattle.gq_model.proofs.Small_facts.{none_some, text_is}
use Rattle.gq_model.proofs.Operand_laws.{IsWidth, Takes, operands_at-code}

-- WORDS

-- a test that each word of the table passes is passed by the word that has a shape there
pub word_tested : (test : List ℕ → Bool) (ps : List Spelling) (word : List ℕ) (shape : Shape) → shape_of_word word ps ≡ Some shape
    → all_of (λ p. test p.word) ps ≡ true → test word ≡ true
word_tested test [] word shape e h = absurd (none_some e)
word_tested test (p ∷ rest) word shape e h =
    let both = and_parts (test p.word) (all_of (λ p. test p.word) rest) h in
    by (text_eq word p.word) refl both.0 e (λ f. word_tested test rest word shape f both.1)
  where
    by : (b : Bool) → text_eq word p.word ≡ b → test p.word ≡ true → (if b then Some p.shape else shape_of_word word rest) ≡ Some shape
        → (shape_of_word word rest ≡ Some shape → test word ≡ true) → test word ≡ true
    by true same here f further = ap test (text_is word p.word same) ∙ here
    by false other here f further = further f

-- THE STATEMENTS ON OPERANDS ALONE

-- the shape of a statement with a number
abbrev pub shape_with : WithNumber → Shape
shape_with s = number (number_entry s).width (number_entry s).low (number_entry s).high (λ n. Operands (Numbered s n))

-- what holds of the entry of each: it is found by its number in code and by its word, and no `if` and no loop has that number
pub record IsEntry (opcode : ℕ) (word : List ℕ) (shape : Shape) : Type 0 where
  pub by_opcode : shape_of_opcode opcode spellings ≡ Some shape
  pub by_word : shape_of_word word spellings ≡ Some shape
  pub word_is : word_of_opcode opcode spellings ≡ word
  pub small : opcode ≤ 63

entry : (opcode : ℕ) (word : List ℕ) (shape : Shape) → shape_of_opcode opcode spellings ≡ Some shape → shape_of_word word spellings ≡ Some shape
    → word_of_opcode opcode spellings ≡ word → opcode ≤ 63 → IsEntry opcode word shape
entry opcode word shape a b c d = record { by_opcode = a; by_word = b; word_is = c; small = d }

abbrev pub IsBare : Bare → Type 0
IsBare s = IsEntry (bare_entry s).opcode (bare_entry s).word (Made (Operands (Plain s)))

pub each_bare : (s : Bare) → IsBare s
each_bare Drop = entry _ _ _ refl refl refl (omega arith)
each_bare Dup = entry _ _ _ refl refl refl (omega arith)
each_bare (Combine Add) = entry _ _ _ refl refl refl (omega arith)
each_bare (Combine Subtract) = entry _ _ _ refl refl refl (omega arith)
each_bare (Combine Multiply) = entry _ _ _ refl refl refl (omega arith)
each_bare (Combine And) = entry _ _ _ refl refl refl (omega arith)
each_bare (Combine Equal) = entry _ _ _ refl refl refl (omega arith)
each_bare (Combine Less) = entry _ _ _ refl refl refl (omega arith)

-- besides, its bytes of code have room for each number of its range
abbrev pub IsNumbered : WithNumber → Type 0
IsNumbered s = IsEntry (number_entry s).opcode (number_entry s).word (shape_with s) × IsWidth (number_entry s).width (number_entry s).high

pub each_numbered : (s : WithNumber) → IsNumbered s
each_numbered Push = (entry _ _ _ refl refl refl (omega arith), omega arith)
each_numbered Divide = (entry _ _ _ refl refl refl (omega arith), omega arith)
each_numbered Modulo = (entry _ _ _ refl refl refl (omega arith), omega arith)
each_numbered Get = (entry _ _ _ refl refl refl (omega arith), omega arith)
each_numbered Set = (entry _ _ _ refl refl refl (omega arith), omega arith)
each_numbered Index = (entry _ _ _ refl refl refl (omega arith), omega arith)
each_numbered Input = (entry _ _ _ refl refl refl (omega arith), omega arith)

-- ALL STATEMENTS

-- the shape that code has for an instruction takes just its operands
abbrev pub IsSpelled : Instruction → Type 0
IsSpelled i = (shape : Shape) × (shape_of_opcode (opcode i) spellings ≡ Some shape) × Takes shape (operands i) i

pub each_spelled : (i : Instruction) → IsSpelled i
each_spelled (Say text) = (_, refl, refl)
each_spelled Out = (_, refl, refl)
each_spelled (Operands (Plain s)) = (_, (each_bare s).by_opcode, refl)
each_spelled (Operands (Numbered s n)) = (_, (each_numbered s).0.by_opcode, (refl, refl, (each_numbered s).1, refl))
each_spelled (Make Block place n) = (_, refl, (refl, refl, omega arith, refl))
each_spelled (Make Slice place n) = (_, refl, (refl, refl, omega arith, refl))
each_spelled (Make Space place n) = (_, refl, (refl, refl, omega arith, refl))
each_spelled (MakePool place n m) = (_, refl, (refl, refl, omega arith, (refl, refl, omega arith, refl)))
each_spelled (Load Byte place) = (_, refl, refl)
each_spelled (Load Word place) = (_, refl, refl)
each_spelled (Store Byte place) = (_, refl, refl)
each_spelled (Store Word place) = (_, refl, refl)
each_spelled (Free place) = (_, refl, refl)
each_spelled (Take place) = (_, refl, refl)
each_spelled (Give place) = (_, refl, refl)
each_spelled (Peek place) = (_, refl, refl)
each_spelled (Poke place) = (_, refl, refl)
each_spelled (Open place service n) = (_, refl, (refl, refl, omega arith, refl))
each_spelled (Upgrade place n) = (_, refl, (refl, refl, omega arith, refl))
each_spelled (Call place) = (_, refl, refl)
each_spelled (Close place) = (_, refl, refl)

-- no `if` and no loop has the number of an instruction
pub opcode_small : (i : Instruction) → opcode i ≤ 63
opcode_small (Say text) = omega arith
opcode_small Out = omega arith
opcode_small (Operands (Plain s)) = (each_bare s).small
opcode_small (Operands (Numbered s n)) = (each_numbered s).0.small
opcode_small (Make Block place n) = omega arith
opcode_small (Make Slice place n) = omega arith
opcode_small (Make Space place n) = omega arith
opcode_small (MakePool place n m) = omega arith
opcode_small (Load Byte place) = omega arith
opcode_small (Load Word place) = omega arith
opcode_small (Store Byte place) = omega arith
opcode_small (Store Word place) = omega arith
opcode_small (Free place) = omega arith
opcode_small (Take place) = omega arith
opcode_small (Give place) = omega arith
opcode_small (Peek place) = omega arith
opcode_small (Poke place) = omega arith
opcode_small (Open place service n) = omega arith
opcode_small (Upgrade place n) = omega arith
opcode_small (Call place) = omega arith
opcode_small (Close place) = omega arith

-- an instruction's operands, if they are in range, give it back
pub instruction_back : (i : Instruction) (rest : List ℕ) → all_of in_range (operands i) ≡ true
    → operands_at (each_spelled i).0 (operands_code (operands i) ++ rest) ≡ Ok (i, rest)
instruction_back i rest e = operands_at-code (each_spelled i).0 (operands i) i rest (each_spelled i).2 e
