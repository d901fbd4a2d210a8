-- What the words of a command line are read as, before the command owns them.
use Rattle.std.specs.Prelude.{option_map}
use Rattle.gq_command.specs.CommandLine as line
use Rattle.gq_command.specs.declared.command_line.Wanted.{Wanted}
use Rattle.gq_command.specs.declared.command_line.Wanted.TheVariants.{OfScenario, OfLeaf, OfTurns, Fit, Faults, Rule}

-- what is wanted, by the texts of its words
abbrev pub meant : Wanted → line.Wanted
meant (OfScenario command scenario) = line.Scenario_wanted command scenario.now
meant (OfLeaf command scenario leaf) = line.Leaf_wanted command scenario.now leaf.now
meant (OfTurns command scenario turns) = line.Turns_wanted command scenario.now turns.now
meant (Fit fitting scenario) = line.Fit_wanted fitting scenario.now
meant (Faults scenario turns) = line.Faults_wanted scenario.now (option_map (λ t. t.now) turns)
meant (Rule code) = line.Rule_wanted (option_map (λ c. c.now) code)
