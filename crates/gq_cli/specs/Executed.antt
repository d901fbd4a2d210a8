-- What a command does: what it reads, writes and reports.
use Rattle.std.specs.Prelude.{◌≡◌, ◌⊎◌, ℕ, ◌≤◌, Bool, true, false, List, [], ◌∷◌, ◌++◌, length, Option, Some, None, option_map, Result, Ok, Err, IsOkAnd}
use Rattle.std.specs.Prelude.{codes, string_bytes}
use Rattle.std.specs.Io.KnownBytes.{Appends, Consumes, IsAtEnd}
use Rattle.gq_output.specs.declared.counted.Counted.{Counted}
use Rattle.gq_output.specs.Writer_failures.{written_to, failures_of}
use Rattle.gq_output.specs.Writes.{IsPrefix, IsRaised}
use Rattle.gq_load.specs.Load.{LoadRefusal, fault_text, loaded}
use Rattle.gq_model.specs.machine.Scenario.{Scenario}
use Rattle.gq_model.specs.texts.Turns.{Turned, turned}
use Rattle.gq_reports.specs.Whole.{Written, refused_with, with_scenario, turn_fault_text, run_written, check_written, asm_written}
use Rattle.gq_world.specs.Headline.{WritesPromised}
use Rattle.gq_reports.specs.Command_outcomes.{IsCutShort, IsWhole}
use Rattle.gq_views.specs.declared.margin.Margin.TheVariants.{Plain, Numbered}
use Rattle.gq_views.specs.Views_written.{list_written, tree_written, graph_written}
use Rattle.gq_traces.specs.Rest_runs.{WritesToRest}
use Rattle.gq_traces.specs.Traces_written.{peaks_written, state_written, trace_written, turns_written}
use Rattle.gq_outcomes.specs.Laws.{WritesTurnsTo}
use Rattle.gq_outcomes.specs.Written.{outcomes_asked}
use Rattle.gq_races.specs.Races.{IsInputFree, IsOrderFree, IsRaceFree, IsSignalFree}
use Rattle.gq_races.specs.Races_written.{MeansWithout, WroteNothing, races_written}
use Rattle.gq_sizes.specs.Judged_scenario.{judged_without}
use Rattle.gq_sizes.specs.Size_written.{size_written}
use Rattle.gq_fit.specs.Fitted.{IsFitted, IsFittedWhole, IsReason, IsReasonWhole, WritesPart, WritesSome}
use Rattle.gq_fit.specs.Fit_words.{fit_fault_text}
use Rattle.gq_fit.specs.declared.fit_fault.FitFault.{FitFault}
use Rattle.gq_why.specs.Why_written.{why_written}
use Rattle.gq_faults.specs.First_stage_faults.{fault_lines}
use Rattle.gq_faults.specs.Reported_faults.{WritesFaults, WritesPrefix}
use Rattle.gq_faults.specs.Turn_faults.{lines_of_both, reported_of}
use Rattle.gq_rule_texts.specs.declared.rule_table.RuleText.{RuleText}
use Rattle.gq_rule_texts.specs.Rule_tables.{Table, lines_of_all, rule_of}
use Rattle.gq_command.specs.Stored_run.{parted}
use Rattle.gq_command.specs.declared.command.Command.{Command}
use Rattle.gq_command.specs.declared.command.Command.TheVariants.{OfScenario, OfLeaf, OfTurns, Fit, Faults, Rule, Version, Stored, Help}
use Rattle.gq_command.specs.declared.command.ScenarioCommand.{ScenarioCommand}
use Rattle.gq_command.specs.declared.command.ScenarioCommand.TheVariants.{Check, Tree, Graph, Turns, Races, Outcomes, Size}
use Rattle.gq_command.specs.declared.command.Fitting.{Fitting}
use Rattle.gq_command.specs.declared.command.Fitting.TheVariants.{Quantities, Donations}
use Rattle.gq_command.specs.declared.command.LeafCommand.{LeafCommand}
use Rattle.gq_command.specs.declared.command.LeafCommand.TheVariants as of_a_leaf
use Rattle.gq_command.specs.declared.command.TurnsCommand.{TurnsCommand}
use Rattle.gq_command.specs.declared.command.TurnsCommand.TheVariants.{Run, Trace, TraceAll, State, Peaks}
use Rattle.gq_command.specs.declared.status.Status.{Status}
use Rattle.gq_command.specs.declared.status.Status.TheVariants.{Done, Refused, BadCommandLine, HostMemory, FileFault}

-- READING

-- what a code means, the version and help are reported without reading
abbrev pub reads_scenario : Command → Bool
reads_scenario (Rule code) = false
reads_scenario Version = false
reads_scenario (Help text) = false
reads_scenario _ = true

-- the turns are read apart from the scenario only where they have a file of their own
abbrev pub reads_turns : Command → Bool
reads_turns (OfTurns command scenario turns) = true
reads_turns (Faults scenario (Some turns)) = true
reads_turns _ = false

-- what is wrong is written before the texts are refused
abbrev pub writes_refusals : Command → Bool
writes_refusals (Faults scenario turns) = true
writes_refusals _ = false

-- what is reported without reading is never refused, but for a code that no rule has
abbrev pub is_never_refused : Command → Bool
is_never_refused (Rule None) = true
is_never_refused Version = true
is_never_refused (Help text) = true
is_never_refused _ = false

-- a reader was read to its end, and the text is all that it had left: at most 18 MiB
pub record IsInput (old new : Option (List ℕ)) (text : List ℕ) : Type 0 where
  pub taken : Consumes old new text
  pub end : IsAtEnd new
  pub size : length text ≤ 18874368

-- such a text, of which this holds
pub record ReadsText (old new : Option (List ℕ)) (holds : List ℕ → Type 0) : Type 0 where
  pub text : List ℕ
  pub read : IsInput old new text
  pub so : holds text

-- WRITING

-- what is to be written of a scenario
abbrev pub scenario_written : ScenarioCommand → List ℕ → Written
scenario_written Check scenario = check_written scenario
scenario_written Tree scenario = tree_written scenario
scenario_written Graph scenario = graph_written scenario
scenario_written (Turns seed rounds) scenario = turns_written seed rounds scenario
scenario_written Races scenario = races_written scenario
scenario_written (Outcomes number) scenario = outcomes_asked number scenario
scenario_written Size scenario = size_written scenario

-- of a leaf of it
abbrev pub leaf_written : LeafCommand → List ℕ → List ℕ → Written
leaf_written of_a_leaf.Asm scenario leaf = asm_written scenario leaf
leaf_written of_a_leaf.List scenario leaf = list_written Plain scenario leaf
leaf_written of_a_leaf.ListNumbers scenario leaf = list_written Numbered scenario leaf
leaf_written of_a_leaf.Why scenario leaf = why_written scenario leaf

-- of it and turns
abbrev pub both_written : TurnsCommand → List ℕ → List ℕ → Written
both_written Run scenario turns = run_written scenario turns
both_written Trace scenario turns = trace_written false scenario turns
both_written TraceAll scenario turns = trace_written true scenario turns
both_written (State first) scenario turns = state_written first scenario turns
both_written Peaks scenario turns = peaks_written scenario turns

-- nothing is to be written of a scenario that is accepted, nor of turns that are taken; what is refused is refused as `check` and `run` refuse it
abbrev pub none_written : Turned → Written
none_written (Ok turns) = Ok []
none_written (Err fault) = Err (refused_with (turn_fault_text fault.0 fault.1))

abbrev pub faults_written : List ℕ → Option (List ℕ) → Written
faults_written scenario None = with_scenario (loaded scenario) (λ s. Ok [])
faults_written scenario (Some turns) = with_scenario (loaded scenario) (λ s. none_written (turned s turns))

-- the text of a rule, where there is one of that code
abbrev pub rule_text : List ℕ → Option RuleText → Written
rule_text code (Some rule) = Ok rule.text.now
rule_text code None = Err (refused_with (codes "no rule " ++ code))

-- of a code, or of all of a table
abbrev pub rules_written : Table → Option (List ℕ) → Written
rules_written table (Some code) = rule_text code (rule_of table code)
rules_written table None = Ok (lines_of_all table)

-- the program and its version
abbrev pub version_written : Written
version_written = Ok (codes "trade 2.0.0\n")

-- what fits the text of a scenario
abbrev pub fits : Fitting → List ℕ → List ℕ → Type 0
fits Quantities = IsFitted
fits Donations = IsFittedWhole

-- a scenario has no fit, and what follows this line says why
abbrev pub no_fit : List ℕ
no_fit = codes "trade: no fit\n"

-- why no text that fits was written
abbrev pub reasons : Fitting → FitFault → List ℕ → Type 0
reasons Quantities = IsReason
reasons Donations = IsReasonWhole

-- a scenario has no fit: the line is that of a fault which is a reason, and says so first
pub record HasNoFit (fitting : Fitting) (scenario line : List ℕ) : Type 0 where
  pub fault : FitFault
  pub reason : reasons fitting fault scenario
  pub text : line ≡ refused_with (fit_fault_text fault)
  pub why : List ℕ
  pub begins : line ≡ no_fit ++ why ++ 10 ∷ []

-- a scenario that breaks a rule which no quantity decides is refused by its line; any other one has no fit
abbrev pub IsUnfit : Fitting → List ℕ → Result Scenario LoadRefusal → List ℕ → Type 0
IsUnfit fitting scenario (Ok s) line = HasNoFit fitting scenario line
IsUnfit fitting scenario (Err fault) line = line ≡ refused_with (fault_text fault)

-- what a command is to write: of a scenario, of a leaf, of a scenario and turns, a text that fits a scenario, all that is wrong with the files at these paths,
-- or what no input decides
pub data Asked : Type 0 where
  Of_scenario : (command : ScenarioCommand) (scenario : List ℕ) → Asked
  Of_leaf : (command : LeafCommand) (scenario leaf : List ℕ) → Asked
  Of_both : (command : TurnsCommand) (scenario turns : List ℕ) → Asked
  Of_fit : (fitting : Fitting) (scenario : List ℕ) → Asked
  Of_faults : (path scenario : List ℕ) (turns : Option (List ℕ × List ℕ)) → Asked
  Of_nothing : (written : Written) → Asked

-- the text of the definition was written whole; or one that fits
abbrev pub WritesWhole : Asked → (before after : Option (List ℕ)) → Type 0
WritesWhole (Of_scenario command scenario) before after = IsWhole (scenario_written command scenario) before after
WritesWhole (Of_leaf command scenario leaf) before after = IsWhole (leaf_written command scenario leaf) before after
WritesWhole (Of_both command scenario turns) before after = IsWhole (both_written command scenario turns) before after
WritesWhole (Of_fit fitting scenario) before after = WritesSome (fits fitting scenario) before after
WritesWhole (Of_faults path scenario turns) before after = IsWhole (faults_written scenario (option_map (λ t. t.1) turns)) before after
WritesWhole (Of_nothing written) before after = IsWhole written before after

-- a prefix of such a text was written
abbrev pub WritesCut : Asked → (before after : Option (List ℕ)) → Type 0
WritesCut (Of_scenario command scenario) before after = IsCutShort (scenario_written command scenario) before after
WritesCut (Of_leaf command scenario leaf) before after = IsCutShort (leaf_written command scenario leaf) before after
WritesCut (Of_both command scenario turns) before after = IsCutShort (both_written command scenario turns) before after
WritesCut (Of_fit fitting scenario) before after = WritesPart (fits fitting scenario) before after
WritesCut (Of_faults path scenario turns) before after = IsCutShort (faults_written scenario (option_map (λ t. t.1) turns)) before after
WritesCut (Of_nothing written) before after = IsCutShort written before after

-- the line that refuses it is the definition's; a scenario is refused, or it is judged and has no fit
abbrev pub IsRefusedBy : Asked → List ℕ → Type 0
IsRefusedBy (Of_scenario command scenario) line = scenario_written command scenario ≡ Err line
IsRefusedBy (Of_leaf command scenario leaf) line = leaf_written command scenario leaf ≡ Err line
IsRefusedBy (Of_both command scenario turns) line = both_written command scenario turns ≡ Err line
IsRefusedBy (Of_fit fitting scenario) line = IsUnfit fitting scenario (judged_without scenario) line
IsRefusedBy (Of_faults path scenario turns) line = faults_written scenario (option_map (λ t. t.1) turns) ≡ Err line
IsRefusedBy (Of_nothing written) line = written ≡ Err line

-- What a command promises beside its text. A run upholds every promise. Turns lead to rest, unless they were cut. Where `races` wrote no line `race`, there is
-- no race; where it wrote no line `input`, `signal` or `order`, there is no input, signal or order. Within the limits of a list, the turns of an outcome lead
-- to it.
abbrev pub IsUpheldBy : Asked → (before after : Option (List ℕ)) → Type 0
IsUpheldBy (Of_both Run scenario turns) before after = WritesPromised scenario turns before after
IsUpheldBy (Of_scenario (Turns seed rounds) scenario) before after = WritesToRest seed rounds scenario before after
IsUpheldBy (Of_scenario Races scenario) before after =
    MeansWithout (codes "race ") IsRaceFree scenario before after × MeansWithout (codes "input ") IsInputFree scenario before after
    × MeansWithout (codes "signal ") IsSignalFree scenario before after × MeansWithout (codes "order ") IsOrderFree scenario before after
    × (WroteNothing before after → IsOkAnd (loaded scenario) IsRaceFree) × (WroteNothing before after → IsOkAnd (loaded scenario) IsInputFree)
    × (WroteNothing before after → IsOkAnd (loaded scenario) IsSignalFree) × (WroteNothing before after → IsOkAnd (loaded scenario) IsOrderFree)
IsUpheldBy (Of_scenario (Outcomes (Some n)) scenario) before after = WritesTurnsTo n scenario before after
IsUpheldBy _ before after = Unit {0}

-- all that is wrong was reported: with the scenario, or else with the turns
abbrev pub ReportsAll : Asked → (before after : Option (List ℕ)) → Type 0
ReportsAll (Of_faults path scenario None) before after = WritesFaults path (fault_lines scenario) before after
ReportsAll (Of_faults path scenario (Some turns)) before after =
    WritesFaults (reported_of (loaded scenario) path turns.0) (lines_of_both scenario turns.1) before after
ReportsAll _ before after = Unit {0}

-- a prefix of such a text was written
abbrev pub ReportsPrefix : Asked → (before after : Option (List ℕ)) → Type 0
ReportsPrefix (Of_faults path scenario None) before after = WritesPrefix path (fault_lines scenario) before after
ReportsPrefix (Of_faults path scenario (Some turns)) before after =
    WritesPrefix (reported_of (loaded scenario) path turns.0) (lines_of_both scenario turns.1) before after
ReportsPrefix _ before after = Unit {0}

-- it was not written to its end: a write failed, which was counted, and a prefix was written; or all of it was written, and did not leave the writer
abbrev pub ReportsPart : Asked → (before after : Option (List ℕ)) → ℕ → ℕ → Type 0
ReportsPart asked before after m n = (ReportsPrefix asked before after × IsRaised m n) ⊎ ReportsAll asked before after

-- a scenario was read, and this holds of what is asked of it
pub record ReadsScenario (scenario scenario_left : Option (List ℕ)) (asked : List ℕ → Asked) (holds : Asked → Type 0) : Type 0 where
  pub text : List ℕ
  pub read : IsInput scenario scenario_left text
  pub so : holds (asked text)

-- a scenario and turns were read, each from a reader of its own, and this holds of what is asked of both
pub record ReadsBoth (scenario scenario_left turns turns_left : Option (List ℕ)) (asked : List ℕ → List ℕ → Asked) (holds : Asked → Type 0) : Type 0 where
  pub scenario_text : List ℕ
  pub turns_text : List ℕ
  pub scenario_read : IsInput scenario scenario_left scenario_text
  pub turns_read : IsInput turns turns_left turns_text
  pub so : holds (asked scenario_text turns_text)

-- a scenario and turns were read in the stored form, and this holds of their run
pub record RunsStored (stored stored_left : Option (List ℕ)) (holds : Asked → Type 0) : Type 0 where
  pub text : List ℕ
  pub read : IsInput stored stored_left text
  pub so : holds (Of_both Run (parted text).0 (parted text).1)

-- a command has read what it reads, and this holds of what it is then to write, where the rules are those of this table
abbrev pub Executes : Table → Command → (scenario scenario_left turns turns_left : Option (List ℕ)) → (Asked → Type 0) → Type 0
Executes table (OfScenario command a) scenario scenario_left turns turns_left holds = ReadsScenario scenario scenario_left (Of_scenario command) holds
Executes table (OfLeaf command a leaf) scenario scenario_left turns turns_left holds =
    ReadsScenario scenario scenario_left (λ text. Of_leaf command text (string_bytes leaf)) holds
Executes table (OfTurns command a b) scenario scenario_left turns turns_left holds =
    ReadsBoth scenario scenario_left turns turns_left (Of_both command) holds
Executes table (Fit fitting a) scenario scenario_left turns turns_left holds = ReadsScenario scenario scenario_left (Of_fit fitting) holds
Executes table (Faults a None) scenario scenario_left turns turns_left holds =
    ReadsScenario scenario scenario_left (λ text. Of_faults (string_bytes a) text None) holds
Executes table (Faults a (Some b)) scenario scenario_left turns turns_left holds =
    ReadsBoth scenario scenario_left turns turns_left (λ text other. Of_faults (string_bytes a) text (Some (string_bytes b, other))) holds
Executes table Stored scenario scenario_left turns turns_left holds = RunsStored scenario scenario_left holds
Executes table (Rule code) scenario scenario_left turns turns_left holds = holds (Of_nothing (rules_written table (option_map string_bytes code)))
Executes table Version scenario scenario_left turns turns_left holds = holds (Of_nothing version_written)
Executes table (Help text) scenario scenario_left turns turns_left holds = holds (Of_nothing (Ok (string_bytes text)))

-- TELLING

-- the line of a status; that of a refused scenario or of refused turns is reported by their fault
abbrev pub status_line : Status → List ℕ
status_line Done = []
status_line Refused = []
status_line BadCommandLine = refused_with (codes "bad command line")
status_line HostMemory = refused_with (codes "host memory refused")
status_line FileFault = refused_with (codes "file fault")

-- a line was written whole, without a failure; or a write failed, and a prefix of it was written
abbrev pub IsReported : {E : Type 0} → (E → Option (List ℕ)) → (old new : Counted E) → List ℕ → Type 0
IsReported contents old new line =
    (Appends (written_to contents old) (written_to contents new) line × (failures_of new ≡ failures_of old))
    ⊎ (IsPrefix (written_to contents old) (written_to contents new) line × IsRaised (failures_of old) (failures_of new))

-- the texts are refused, and the line that says why was reported
pub record IsRefusal {E : Type 0} (contents : E → Option (List ℕ)) (asked : Asked) (old new : Counted E) : Type 0 where
  pub line : List ℕ
  pub refused : IsRefusedBy asked line
  pub reported : IsReported contents old new line
