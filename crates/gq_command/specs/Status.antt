-- The exit status of each way to end.
use Rattle.std.specs.Prelude.{ℕ}
use Rattle.gq_command.specs.declared.status.Status.{Status}
use Rattle.gq_command.specs.declared.status.Status.TheVariants.{Done, Refused, BadCommandLine, HostMemory, FileFault}

abbrev pub code_of : Status → ℕ
code_of Done = 0
code_of Refused = 1
code_of BadCommandLine = 2
code_of HostMemory = 3
code_of FileFault = 4
