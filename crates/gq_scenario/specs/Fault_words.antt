-- The words of keys, and the lines that a scenario's faults print.
use Rattle.std.specs.Prelude.{◌≡◌, ℕ, List, ◌++◌, Option, Some, None, option_map, Result, Ok, Err, MatchResult, codes}
use Rattle.std.specs.Prelude.{String}
use Rattle.std.specs.BTreeMap.{BTreeMap}
use Rattle.std.specs.declared.alloc.Global.{Global}
use Rattle.toml.specs.Data.{Members}
use Rattle.toml.specs.View.{table_view}
use Rattle.toml.specs.declared.value.Value.{Value}
use Rattle.gq_model.specs.machine.Scenario.{Scenario}
use Rattle.gq_scenario.specs.Table_keys.{DocumentFault}
use Rattle.gq_scenario.specs.Top_table.{ReadFault, read_text, document_text}
use Rattle.gq_scenario.specs.declared.scenario_fault.ScenarioFault.{ScenarioFault}
use Rattle.gq_scenario.specs.declared.scenario_fault.ScenarioFault.TheVariants.{NotToml, MissingKey, BadValue, UnknownKey, NameTwice, TooMany, TooDeep}
use Rattle.gq_scenario.specs.declared.scenario_fault.ScenarioError.{ScenarioError}
use Rattle.gq_scenario.specs.declared.scenario_fault.ScenarioError.TheVariants.{Memory, Fault}
use Rattle.gq_scenario.specs.declared.key.Key.{Key}
use Rattle.gq_scenario.specs.declared.key.Key.TheVariants.{Version, Ram, Caps, DefaultRoute, Interface, Start, Arg, Reply, Need, NeedCaps, Object, Upgrades}
use Rattle.gq_scenario.specs.declared.key.Key.TheVariants.{UpgradeCaps, Buffer, Name, Quantum, Route, Provides, After, Inputs, Signals, Offers, Program, Code}
use Rattle.gq_scenario.specs.declared.key.Key.TheVariants.{Service, AnyService, Child, AnyChild, Parent}

abbrev pub key_text : Key → List ℕ
key_text Version = codes "version"
key_text Ram = codes "ram"
key_text Caps = codes "caps"
key_text DefaultRoute = codes "default-route"
key_text Interface = codes "interface"
key_text Start = codes "start"
key_text Arg = codes "arg"
key_text Reply = codes "reply"
key_text Need = codes "need"
key_text NeedCaps = codes "need-caps"
key_text Object = codes "object"
key_text Upgrades = codes "upgrades"
key_text UpgradeCaps = codes "upgrade-caps"
key_text Buffer = codes "buffer"
key_text Name = codes "name"
key_text Quantum = codes "quantum"
key_text Route = codes "route"
key_text Provides = codes "provides"
key_text After = codes "after"
key_text Inputs = codes "inputs"
key_text Signals = codes "signals"
key_text Offers = codes "offers"
key_text Program = codes "program"
key_text Code = codes "code"
key_text Service = codes "service"
key_text AnyService = codes "any-service"
key_text Child = codes "child"
key_text AnyChild = codes "any-child"
key_text Parent = codes "parent"

-- a word that is printed, or `?`
abbrev pub printed : Option (List ℕ) → List ℕ
printed None = codes "?"
printed (Some word) = word

abbrev pub printed_key : Option Key → List ℕ
printed_key None = codes "?"
printed_key (Some key) = key_text key

-- the line that a fault prints
abbrev pub scenario_fault_text : ScenarioFault → List ℕ
scenario_fault_text NotToml = codes "S1 NotToml"
scenario_fault_text (MissingKey key) = codes "S2 MissingKey " ++ key_text key
scenario_fault_text (BadValue key) = codes "S3 BadValue " ++ key_text key
scenario_fault_text (UnknownKey key) = codes "S4 UnknownKey " ++ printed_key key
scenario_fault_text (NameTwice name) = codes "S5 NameTwice " ++ name
scenario_fault_text TooMany = codes "S6 TooMany"
scenario_fault_text (TooDeep name) = codes "S7 TooDeep " ++ printed name

-- the same line as the definition's fault, or neither
abbrev pub SameFault : Option ScenarioFault → Option DocumentFault → Type 0
SameFault found fault = option_map scenario_fault_text found ≡ option_map document_text fault

-- the top table, or a fault of the same line, unless memory ran out
abbrev pub IsDocument : Result (BTreeMap (String Global) Value) ScenarioError → Result Members ReadFault → Type 0
IsDocument (Ok table) answer = answer ≡ Ok (table_view table)
IsDocument (Err (Memory why)) answer = Unit {0}
IsDocument (Err (Fault fault)) answer = MatchResult answer (λ top. ⊥) (λ why. scenario_fault_text fault ≡ read_text why)

-- the scenario, or a fault of the same line, unless memory ran out
abbrev pub IsRead : Result Scenario ScenarioError → Result Scenario ReadFault → Type 0
IsRead (Ok s) answer = answer ≡ Ok s
IsRead (Err (Memory why)) answer = Unit {0}
IsRead (Err (Fault fault)) answer = MatchResult answer (λ s. ⊥) (λ why. scenario_fault_text fault ≡ read_text why)
