-- What requests name.
use Rattle.std.specs.Prelude.{Option, Some, None}
use Rattle.gq_model.specs.declared.program.Instruction.{Instruction}
use Rattle.gq_model.specs.declared.program.Instruction.TheVariants as instruction
use Rattle.gq_model.specs.declared.program.OperandSlot.{OperandSlot}

-- the slot that a request names
abbrev pub slot_named : Instruction → Option OperandSlot
slot_named (instruction.Open place service n) = Some place
slot_named (instruction.Upgrade place n) = Some place
slot_named (instruction.Call place) = Some place
slot_named (instruction.Close place) = Some place
slot_named _ = None
