-- Statements on operands alone by their words, for worked examples.
use Rattle.std.specs.Prelude.{ℕ}
use Rattle.gq_model.specs.machine.Program.{Operator, Drop, Dup, Combine, Push, Divide, Modulo, Get, Set, Index, Input, Plain, Numbered, Instruction, Operands}

abbrev pub drop : Instruction
drop = Operands (Plain Drop)

abbrev pub dup : Instruction
dup = Operands (Plain Dup)

abbrev pub combine : Operator → Instruction
combine f = Operands (Plain (Combine f))

abbrev pub push : ℕ → Instruction
push n = Operands (Numbered Push n)

abbrev pub divide : ℕ → Instruction
divide n = Operands (Numbered Divide n)

abbrev pub modulo : ℕ → Instruction
modulo n = Operands (Numbered Modulo n)

abbrev pub get : ℕ → Instruction
get n = Operands (Numbered Get n)

abbrev pub set : ℕ → Instruction
set n = Operands (Numbered Set n)

abbrev pub index : ℕ → Instruction
index n = Operands (Numbered Index n)

abbrev pub input : ℕ → Instruction
input n = Operands (Numbered Input n)
