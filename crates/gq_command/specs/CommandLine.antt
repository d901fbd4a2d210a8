-- What the words of a command line ask for, by the parser's own reading of them.
use Rattle.std.specs.Prelude.{◌≡◌, ◌≢◌, true, false, Bool, List, [], ◌∷◌, codes, fold, Option, Some, None, option_map, option_and_then, if◌then◌else◌}
use Rattle.std.specs.Prelude.{ℕ, string_bytes}
use Rattle.std.specs.Str.Parse.{digits_value, without_leading_plus}
use Rattle.clap.specs.ValueTests.{is_unsigned_in}
use Rattle.clap.specs.declared.builder.value_parser.ValueParser.TheVariants.{Unsigned}
use Rattle.clap.specs.Words.{App, Row, Rule, Text, IsAmong, fault_of, first_of, new_app, new_rule, subcommand_of, with_rule, with_subcommand}
use Rattle.clap.specs.Walk.{is_empty}
use Rattle.clap.specs.Simple.{on_top}
use Rattle.std.specs.Str.{bytes_eq}
use Rattle.clap.specs.declared.builder.action.ArgAction.TheVariants.{SetTrue}
use Rattle.clap.specs.declared.error.kind.ErrorKind.TheVariants.{DisplayHelp, DisplayVersion}
use Rattle.gq_command.specs.declared.command.Command.{Command}
use Rattle.gq_command.specs.declared.command.Command.TheVariants.{OfScenario, OfLeaf, OfTurns, Fit, Faults, Rule as RuleOf, Version, Stored, Help}
use Rattle.gq_command.specs.declared.command.ScenarioCommand.{ScenarioCommand}
use Rattle.gq_command.specs.declared.command.ScenarioCommand.TheVariants.{Check, Tree, Graph, Turns, Races, Outcomes, Size}
use Rattle.gq_command.specs.declared.command.Fitting.{Fitting}
use Rattle.gq_command.specs.declared.command.Fitting.TheVariants.{Quantities, Donations}
use Rattle.gq_command.specs.declared.command.LeafCommand.{LeafCommand}
use Rattle.gq_command.specs.declared.command.LeafCommand.TheVariants as of_a_leaf
use Rattle.gq_command.specs.declared.command.TurnsCommand.{TurnsCommand}
use Rattle.gq_command.specs.declared.command.TurnsCommand.TheVariants.{Run, Trace, TraceAll, State, Peaks}
use Rattle.gq_command.specs.declared.command.CommandError.{CommandError}
use Rattle.gq_command.specs.declared.command.CommandError.TheVariants.{Memory, Usage}

-- COMMANDS

-- a word that must be there
abbrev pub word_rule : Text → Rule
word_rule name = record (new_rule name) { required = true }

-- an option alone, as `--dot`
abbrev pub switch_rule : Text → Rule
switch_rule name = record (new_rule name) { long = Some name; action = Some SetTrue }

-- an option with a number, as `--at 5`
abbrev pub number_rule : Text → Rule
number_rule name = record (new_rule name) { long = Some name; value_names = 1; parser = Some (Unsigned 0 4294967295) }

-- an option with a number of rounds, as `--signals 5`
abbrev pub rounds_rule : Text → Rule
rounds_rule name = record (new_rule name) { long = Some name; value_names = 1; parser = Some (Unsigned 1 100000) }

-- a command of this name with a word: `NAME SCENARIO`
abbrev pub of_scenario : Text → App
of_scenario name = with_rule (new_app name) (word_rule (codes "SCENARIO"))

-- `NAME SCENARIO LEAF`
abbrev pub of_leaf : Text → App
of_leaf name = with_rule (of_scenario name) (word_rule (codes "LEAF"))

-- `NAME SCENARIO TURNS`
abbrev pub of_turns : Text → App
of_turns name = with_rule (of_scenario name) (word_rule (codes "TURNS"))

-- `NAME SCENARIO [TURNS]`
abbrev pub of_maybe_turns : Text → App
of_maybe_turns name = with_rule (of_scenario name) (new_rule (codes "TURNS"))

-- `NAME [CODE]`
abbrev pub of_code : Text → App
of_code name = with_rule (new_app name) (new_rule (codes "CODE"))

-- the commands, as they stand in help
abbrev pub commands : List App
commands =
    of_scenario (codes "check")
    ∷ of_turns (codes "run")
    ∷ of_leaf (codes "asm")
    ∷ with_rule (of_leaf (codes "list")) (switch_rule (codes "numbers"))
    ∷ with_rule (of_scenario (codes "tree")) (switch_rule (codes "dot"))
    ∷ of_scenario (codes "size")
    ∷ with_rule (of_scenario (codes "fit")) (switch_rule (codes "donations"))
    ∷ of_leaf (codes "why")
    ∷ with_rule (with_rule (of_scenario (codes "turns")) (number_rule (codes "seed"))) (rounds_rule (codes "signals"))
    ∷ of_scenario (codes "races")
    ∷ with_rule (of_scenario (codes "outcomes")) (number_rule (codes "turns"))
    ∷ with_rule (of_turns (codes "trace")) (switch_rule (codes "all"))
    ∷ with_rule (of_turns (codes "state")) (number_rule (codes "at"))
    ∷ of_turns (codes "peaks")
    ∷ of_maybe_turns (codes "faults")
    ∷ of_code (codes "rule")
    ∷ []

-- a command line of these commands
abbrev pub with_commands : App → List App → App
with_commands line commands = fold (λ whole command. with_subcommand whole command.top) line commands

-- the program's command line, without the program's name: one of its commands, or `--version`
abbrev pub trade : App
trade =
    with_commands (on_top (λ s. record s { has_version = true; no_binary_name = true; subcommand_required = true }) (new_app (codes "trade"))) commands

-- WHAT THEY ASK FOR

-- what is wanted of the file of a scenario alone, of a leaf of it, or of it and the file of turns; it with this fitted; all that is wrong with it, and with
-- turns; or what a code means, or without one of all
pub data Wanted : Type 0 where
  Scenario_wanted : (command : ScenarioCommand) (scenario : Text) → Wanted
  Leaf_wanted : (command : LeafCommand) (scenario leaf : Text) → Wanted
  Turns_wanted : (command : TurnsCommand) (scenario turns : Text) → Wanted
  Fit_wanted : (fitting : Fitting) (scenario : Text) → Wanted
  Faults_wanted : (scenario : Text) (turns : Option Text) → Wanted
  Rule_wanted : (code : Option Text) → Wanted

-- the parser says `true` of an option that was given
abbrev pub is_true : Option Text → Bool
is_true (Some text) = bytes_eq text (codes "true")
is_true None = false

abbrev pub is_given : Text → List Row → Bool
is_given name rows = is_true (first_of name rows)

-- a number from 0 to 4294967295: digits, behind a plus sign or none
abbrev pub number_of : Text → Option ℕ
number_of text = if is_unsigned_in 0 4294967295 text then Some (digits_value 10 (without_leading_plus text)) else None

-- the number behind an option, where it was given
abbrev pub number_given : Option Text → Option (Option ℕ)
number_given None = Some None
number_given (Some text) = option_map Some (number_of text)

-- turns with a seed, if there is one, and with so many rounds of signals
abbrev pub turns_by : Option (Option ℕ) → Option (Option ℕ) → Option ScenarioCommand
turns_by (Some seed) rounds = option_map (Turns seed) rounds
turns_by None rounds = None

abbrev pub scenario_command : Text → List Row → Option ScenarioCommand
scenario_command name rows =
    if bytes_eq name (codes "check") then Some Check
    else if bytes_eq name (codes "tree") then Some (if is_given (codes "dot") rows then Graph else Tree)
    else if bytes_eq name (codes "turns") then turns_by (number_given (first_of (codes "seed") rows)) (number_given (first_of (codes "signals") rows))
    else if bytes_eq name (codes "races") then Some Races
    else if bytes_eq name (codes "outcomes") then option_map Outcomes (number_given (first_of (codes "turns") rows))
    else if bytes_eq name (codes "size") then Some Size
    else None

abbrev pub leaf_command : Text → List Row → Option LeafCommand
leaf_command name rows =
    if bytes_eq name (codes "asm") then Some of_a_leaf.Asm
    else if bytes_eq name (codes "list") then Some (if is_given (codes "numbers") rows then of_a_leaf.ListNumbers else of_a_leaf.List)
    else if bytes_eq name (codes "why") then Some of_a_leaf.Why
    else None

abbrev pub turns_command : Text → List Row → Option TurnsCommand
turns_command name rows =
    if bytes_eq name (codes "run") then Some Run
    else if bytes_eq name (codes "trace") then Some (if is_given (codes "all") rows then TraceAll else Trace)
    else if bytes_eq name (codes "state") then option_map State (number_given (first_of (codes "at") rows))
    else if bytes_eq name (codes "peaks") then Some Peaks
    else None

-- what is to be fitted
abbrev pub fitting : List Row → Fitting
fitting rows = if is_given (codes "donations") rows then Donations else Quantities

-- the command that this name has among those on a scenario alone, else among those on a leaf, else among those on turns
abbrev pub wanted_with : Text → List Row → Option ScenarioCommand → Option LeafCommand → Option TurnsCommand → Option Wanted
wanted_with scenario rows (Some command) of_leaf of_turns = Some (Scenario_wanted command scenario)
wanted_with scenario rows None (Some command) of_turns = option_map (Leaf_wanted command scenario) (first_of (codes "LEAF") rows)
wanted_with scenario rows None None (Some command) = option_map (Turns_wanted command scenario) (first_of (codes "TURNS") rows)
wanted_with scenario rows None None None = None

abbrev pub wanted_of : Text → List Row → Option Wanted
wanted_of name rows =
    if bytes_eq name (codes "rule") then Some (Rule_wanted (first_of (codes "CODE") rows))
    else option_and_then (λ scenario. if bytes_eq name (codes "faults") then Some (Faults_wanted scenario (first_of (codes "TURNS") rows))
    else if bytes_eq name (codes "fit") then Some (Fit_wanted (fitting rows) scenario)
    else wanted_with scenario rows (scenario_command name rows) (leaf_command name rows) (turns_command name rows)) (first_of (codes "SCENARIO") rows)

abbrev pub wanted_in : Option (Text × List Row) → Option Wanted
wanted_in = option_and_then (λ p. wanted_of p.0 p.1)

-- what is wanted, where the parser takes the words
abbrev pub wanted : List Text → Option Wanted
wanted words = if is_empty (fault_of trade words) then wanted_in (subcommand_of trade words) else None

-- a command is what is wanted
abbrev pub IsWanted : Option Wanted → Command → Type 0
IsWanted found (OfScenario command scenario) = found ≡ Some (Scenario_wanted command (string_bytes scenario))
IsWanted found (OfLeaf command scenario leaf) = found ≡ Some (Leaf_wanted command (string_bytes scenario) (string_bytes leaf))
IsWanted found (OfTurns command scenario turns) = found ≡ Some (Turns_wanted command (string_bytes scenario) (string_bytes turns))
IsWanted found (Fit fitting scenario) = found ≡ Some (Fit_wanted fitting (string_bytes scenario))
IsWanted found (Faults scenario turns) = found ≡ Some (Faults_wanted (string_bytes scenario) (option_map string_bytes turns))
IsWanted found (RuleOf code) = found ≡ Some (Rule_wanted (option_map string_bytes code))
IsWanted found _ = ⊥

-- words ask for this command: help and the version where the parser may answer with these
abbrev pub IsAsked : List Text → Command → Type 0
IsAsked words Stored = words ≡ []
IsAsked words (Help text) = (words ≢ []) × IsAmong DisplayHelp (fault_of trade words)
IsAsked words Version = (words ≢ []) × IsAmong DisplayVersion (fault_of trade words)
IsAsked words command = (words ≢ []) × IsWanted (wanted words) command

-- words name no command, whatever is said of them
abbrev pub IsUsage : CommandError → Type 0
IsUsage (Memory refused) = ⊥
IsUsage (Usage said) = Unit {0}

-- words are misused: they ask for nothing that is to be done, and not only for help or the version
abbrev pub IsMisused : List Text → CommandError → Type 0
IsMisused words (Memory refused) = words ≢ []
IsMisused words (Usage said) =
    (words ≢ []) × (wanted words ≡ None) × (fault_of trade words ≢ DisplayHelp ∷ []) × (fault_of trade words ≢ DisplayVersion ∷ [])
