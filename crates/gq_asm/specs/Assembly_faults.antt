-- What an answer of the assembler says.
use Rattle.std.specs.Prelude.{◌≡◌, ℕ, alloc_error, Result, Ok, Err}
use Rattle.gq_model.specs.machine.Program.{Program}
use Rattle.gq_model.specs.declared.fault.TextFault.{TextFault}
use Rattle.gq_asm.specs.declared.asm_fault.AssembleError.{AssembleError}
use Rattle.gq_asm.specs.declared.asm_fault.AssembleError.TheVariants.{Memory, Fault}
use Rattle.gq_asm.specs.declared.asm_fault.LineError.{LineError}
use Rattle.gq_asm.specs.declared.asm_fault.LineError.TheVariants as line

-- the answer, unless memory was refused
abbrev pub Assembles : Result Program AssembleError → Result Program (TextFault × ℕ) → Type 0
Assembles (Ok program) answer = answer ≡ Ok program
Assembles (Err (Memory error)) answer = Unit {0}
Assembles (Err (Fault fault line)) answer = answer ≡ Err (fault, line)

abbrev pub on_line : ℕ → LineError → AssembleError
on_line k line.Memory = Memory alloc_error
on_line k (line.Fault fault) = Fault fault k
