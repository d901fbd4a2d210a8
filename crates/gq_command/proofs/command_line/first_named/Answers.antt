use Rattle.std.proofs.Common.{◌∙◌}
use Rattle.clap.specs.Words.{found_of}
use Rattle.gq_command.proofs.Parser_value_rows.{first-row}
use Rattle.gq_command.proofs.command_line.first_named.Goals as goal

pub returns : goal.returns
returns c = c.get_str.ensures ∙ first-row c.args.name.now (found_of c.args.found.now).entries.items
