-- The table of commands, and the parser's commands that are made of it.
use Rattle.std.specs.Prelude.{◌≡◌, false, Option, Some, None}
use Rattle.clap.specs.Words.{App, Rule, Text, app_of, with_rule}
use Rattle.clap.specs.declared.builder.command.Command.{Command as Parser}
use Rattle.clap.specs.declared.builder.command.Command.TheViews.{out-Command}
use Rattle.clap.specs.declared.error.kind.ErrorKind.{ErrorKind}
use Rattle.clap.specs.declared.error.kind.ErrorKind.TheVariants.{DisplayHelp, DisplayVersion}
use Rattle.gq_command.specs.CommandLine.{of_scenario, of_leaf, of_turns, of_maybe_turns, of_code, number_rule, rounds_rule, switch_rule}
use Rattle.gq_command.specs.declared.command.Command.{Command}
use Rattle.gq_command.specs.declared.command.Command.TheVariants.{Version, Help}
use Rattle.gq_command.specs.declared.entries.CommandEntry.{CommandEntry}
use Rattle.gq_command.specs.declared.entries.Flag.{Flag}
use Rattle.gq_command.specs.declared.entries.FlagKind.{FlagKind}
use Rattle.gq_command.specs.declared.entries.FlagKind.TheVariants.{Switch, Number, Rounds}
use Rattle.gq_command.specs.declared.entries.Takes.{Takes}
use Rattle.gq_command.specs.declared.entries.Takes.TheVariants.{Scenario, Leaf, Turns, MaybeTurns, Code}

-- the command of this name that takes these words
abbrev pub taking : Takes → Text → App
taking Scenario name = of_scenario name
taking Leaf name = of_leaf name
taking Turns name = of_turns name
taking MaybeTurns name = of_maybe_turns name
taking Code name = of_code name

-- the rule of an option, by what stands behind it
abbrev pub rule_by : FlagKind → Text → Rule
rule_by Switch name = switch_rule name
rule_by Number name = number_rule name
rule_by Rounds name = rounds_rule name

abbrev pub option_rule_of : Flag → Rule
option_rule_of flag = rule_by flag.kind flag.name.now

-- with an option, where it has one
abbrev pub optional : Option Flag → App → App
optional (Some flag) command = with_rule command (option_rule_of flag)
optional None command = command

-- the command of an entry
abbrev pub entered : CommandEntry → App
entered entry = optional entry.also (optional entry.flag (taking entry.takes entry.name.now))

-- a command of the parser is this one, and it has no global argument
pub record IsParserOf (command : App) (parser : Parser) : Type 0 where
  pub app : app_of parser ≡ command
  pub local : (out-Command parser).has_globals ≡ false

-- what is shown by an answer of the parser that is no command
abbrev pub IsShown : ErrorKind → Command → Type 0
IsShown kind (Help text) = kind ≡ DisplayHelp
IsShown kind Version = kind ≡ DisplayVersion
IsShown kind _ = ⊥
