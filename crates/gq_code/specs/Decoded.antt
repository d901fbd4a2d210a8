-- What the decoder answers.
use Rattle.std.specs.Prelude.{◌≡◌, Result, Ok, Err}
use Rattle.gq_model.specs.machine.Program.{Program}
use Rattle.gq_model.specs.texts.Decode.{Decoded}
use Rattle.gq_code.specs.declared.decode.DecodeError.{DecodeError}
use Rattle.gq_code.specs.declared.decode.DecodeError.TheVariants.{Memory, Fault}

-- What the decoder returned is the answer, unless memory was refused.
abbrev pub IsDecoded : Result Program DecodeError → Decoded Program → Type 0
IsDecoded (Ok program) answer = answer ≡ Ok program
IsDecoded (Err (Fault fault)) answer = answer ≡ Err fault
IsDecoded (Err (Memory error)) answer = Unit {0}
