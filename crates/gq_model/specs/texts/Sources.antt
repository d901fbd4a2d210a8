-- The program that a leaf is given, as text or as code.
use Rattle.std.specs.Prelude.{[], Result, Ok, Err}
use Rattle.gq_model.specs.machine.Program.{Program}
use Rattle.gq_model.specs.machine.Scenario.{Source, As_text, As_code}
use Rattle.gq_model.specs.texts.Text.{assembled}
use Rattle.gq_model.specs.texts.Decode.{decoded}

abbrev pub no_program : Program
no_program = record { sections = []; locals = [] }

-- the program that was read, none where there is a fault
abbrev pub program_or_none : {F : Type 0} → Result Program F → Program
program_or_none (Ok p) = p
program_or_none (Err fault) = no_program

abbrev pub program_from : Source → Program
program_from (As_text text) = program_or_none (assembled text)
program_from (As_code code) = program_or_none (decoded code)
