-- What a refusal to load says.
use Rattle.std.specs.Prelude.{◌≡◌, ℕ, List, ◌++◌, Option, Some, None, Result, Ok, Err, codes, decimal}
use Rattle.gq_model.specs.machine.Scenario.{Scenario}
use Rattle.gq_model.specs.texts.Fault_texts.{text_fault_word, code_fault_word, program_text, unresolved_text}
use Rattle.gq_scenario.specs.Fault_words.{scenario_fault_text}
use Rattle.gq_resolve.specs.Resolve_faults.{fault_of}
use Rattle.gq_resolve.specs.declared.resolve_fault.ResolveError.{ResolveError}
use Rattle.gq_resolve.specs.declared.resolve_fault.ResolveError.TheVariants as resolve
use Rattle.gq_load.specs.declared.load_fault.LoadFault.{LoadFault}
use Rattle.gq_load.specs.declared.load_fault.LoadFault.TheVariants as load
use Rattle.gq_load.specs.declared.load_fault.LoadError.{LoadError}
use Rattle.gq_load.specs.declared.load_fault.LoadError.TheVariants as error
use Rattle.gq_load.specs.Load.{LoadRefusal, fault_text}

-- the line that a refusal prints
abbrev pub load_fault_text : LoadFault → List ℕ
load_fault_text (load.Scenario fault) = scenario_fault_text fault
load_fault_text (load.Text leaf fault line) = leaf ++ codes ": " ++ text_fault_word fault ++ codes " line " ++ decimal line
load_fault_text (load.Code leaf fault) = leaf ++ codes ": " ++ code_fault_word fault
load_fault_text (load.Rule leaf rule section place) = leaf ++ codes ": " ++ program_text (record { rule = rule; section = section; place = place })
load_fault_text (load.Resolve fault) = unresolved_text (fault_of fault)
load_fault_text (load.OverQuantum leaf own quantum) = leaf ++ codes ": B1 OverQuantum own " ++ decimal own ++ codes " quantum " ++ decimal quantum
load_fault_text (load.OverSteps leaf) = leaf ++ codes ": B2 OverSteps"
load_fault_text (load.OverCaps leaf own caps) = leaf ++ codes ": B3 OverCaps own " ++ decimal own ++ codes " caps " ++ decimal caps

-- the refusal prints the line of this fault
abbrev pub Prints : LoadFault → Option LoadRefusal → Type 0
Prints f None = ⊥
Prints f (Some fault) = load_fault_text f ≡ fault_text fault

-- so it is, unless the host refused memory
abbrev pub PrintsFault : LoadError → Option LoadRefusal → Type 0
PrintsFault error.Memory fault = Unit {0}
PrintsFault (error.Fault f) fault = Prints f fault

-- a fault of routes, quanta and the like is one of the text
abbrev pub load_error_of : ResolveError → LoadError
load_error_of (resolve.Memory why) = error.Memory
load_error_of (resolve.Fault why) = error.Fault (load.Resolve why)

-- the text is refused with this error
abbrev pub Refuses : LoadError → Result Scenario LoadRefusal → Type 0
Refuses error.Memory loaded = Unit {0}
Refuses (error.Fault f) (Ok s) = ⊥
Refuses (error.Fault f) (Err fault) = load_fault_text f ≡ fault_text fault
