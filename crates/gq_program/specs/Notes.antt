-- Statements that ask for nothing, and statements that leave all slots as they are.
use Rattle.std.specs.Prelude.{Bool, true, false, ◌&&◌}
use Rattle.gq_model.specs.declared.program.Instruction.{Instruction}
use Rattle.gq_model.specs.declared.program.Instruction.TheVariants.{Make, MakePool, Free, Open, Upgrade, Call, Close}
use Rattle.gq_model.specs.machine.Program.{Statements, Done, Do, If, Loop}

-- an instruction asks for nothing
abbrev pub asks_nothing : Instruction → Bool
asks_nothing (Open place service n) = false
asks_nothing (Upgrade place n) = false
asks_nothing (Call place) = false
asks_nothing (Close place) = false
asks_nothing _ = true

-- no instruction of a list asks for anything
abbrev pub is_quiet : Statements → Bool
is_quiet Done = true
is_quiet (Do i rest) = asks_nothing i && is_quiet rest
is_quiet (If arm other rest) = is_quiet arm && is_quiet other && is_quiet rest
is_quiet (Loop count body rest) = is_quiet body && is_quiet rest

-- an instruction changes no slot
abbrev pub keeps_slots : Instruction → Bool
keeps_slots (Make form place n) = false
keeps_slots (MakePool place n m) = false
keeps_slots (Free place) = false
keeps_slots (Open place service n) = false
keeps_slots (Upgrade place n) = false
keeps_slots (Close place) = false
keeps_slots _ = true

-- no instruction of a list does
abbrev pub is_still : Statements → Bool
is_still Done = true
is_still (Do i rest) = keeps_slots i && is_still rest
is_still (If arm other rest) = is_still arm && is_still other && is_still rest
is_still (Loop count body rest) = is_still body && is_still rest
