-- What the entries so far and those to come make of the command line is what all make of it.
use Rattle.std.proofs.Common.{◌≡◌, map, drop}
use Rattle.clap.specs.Words.{app_of}
use Rattle.gq_command.specs.CommandLine.{with_commands}
use Rattle.gq_command.specs.internal.Command_entries.{entered}
use Rattle.gq_command.proofs.entries.with_entries.Given as goal

abbrev pub invariant-loop-entry : goal.invariant-loop-entry
invariant-loop-entry l =
    with_commands (app_of l.line) (map entered (drop l.entry-index l.entries)) ≡ with_commands (app_of l.fn.line) (map entered l.entries)
