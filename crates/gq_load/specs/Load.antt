-- The scenario of a text, or the first reason to refuse it.
use Rattle.std.specs.Prelude.{ℕ, List, [], ◌∷◌, ◌++◌, Option, Some, None, Result, Ok, Err, codes, decimal}
use Rattle.gq_model.specs.machine.Program.{Program}
use Rattle.gq_model.specs.machine.Lists.{or_first}
use Rattle.gq_model.specs.declared.fault.TextFault.{TextFault}
use Rattle.gq_model.specs.declared.fault.CodeFault.{CodeFault}
use Rattle.gq_model.specs.machine.Scenario.{Source, As_text, As_code, Component, Scenario, components}
use Rattle.gq_model.specs.texts.Text.{assembled}
use Rattle.gq_model.specs.texts.Decode.{decoded}
use Rattle.gq_model.specs.rules.Accept.{Refusal, refusal}
use Rattle.gq_model.specs.texts.Fault_texts.{text_fault_word, code_fault_word, refusal_text}
use Rattle.gq_scenario.specs.Top_table.{ReadFault, read_text, scenario_in}

-- why a text is refused: it is no scenario, a leaf's text or a leaf's code is no program, or the scenario is refused
pub data LoadRefusal : Type 0 where
  Unread : (fault : ReadFault) → LoadRefusal
  Bad_text_of : (leaf : List ℕ) (fault : TextFault) (line : ℕ) → LoadRefusal
  Bad_code_of : (leaf : List ℕ) (fault : CodeFault) → LoadRefusal
  Refused_for : (why : Refusal) → LoadRefusal

-- PROGRAMS

abbrev pub text_fault : List ℕ → Result Program (TextFault × ℕ) → Option LoadRefusal
text_fault leaf (Ok p) = None
text_fault leaf (Err fault) = Some (Bad_text_of leaf fault.0 fault.1)

abbrev pub code_fault : List ℕ → Result Program CodeFault → Option LoadRefusal
code_fault leaf (Ok p) = None
code_fault leaf (Err fault) = Some (Bad_code_of leaf fault)

-- what is wrong with a leaf's program as it is given
abbrev pub source_fault : List ℕ → Source → Option LoadRefusal
source_fault leaf (As_text text) = text_fault leaf (assembled text)
source_fault leaf (As_code code) = code_fault leaf (decoded code)

-- the first leaf whose text or code is no program
abbrev pub sources_fault : List Component → Option LoadRefusal
sources_fault [] = None
sources_fault (c ∷ rest) = or_first (source_fault c.node.name c.node.source) (sources_fault rest)

-- LOADING

abbrev pub refused : Option Refusal → Option LoadRefusal
refused None = None
refused (Some why) = Some (Refused_for why)

-- the first fault of a scenario that was read: texts and codes, then what the verifier says
abbrev pub scenario_fault : Scenario → Option LoadRefusal
scenario_fault s = or_first (sources_fault (components s)) (refused (refusal s))

abbrev pub loaded_or : Scenario → Option LoadRefusal → Result Scenario LoadRefusal
loaded_or s None = Ok s
loaded_or s (Some fault) = Err fault

abbrev pub loaded_from : Result Scenario ReadFault → Result Scenario LoadRefusal
loaded_from (Ok s) = loaded_or s (scenario_fault s)
loaded_from (Err fault) = Err (Unread fault)

-- the accepted scenario of a text, or the first fault
abbrev pub loaded : List ℕ → Result Scenario LoadRefusal
loaded text = loaded_from (scenario_in text)

-- TEXTS

abbrev pub fault_text : LoadRefusal → List ℕ
fault_text (Unread fault) = read_text fault
fault_text (Bad_text_of leaf fault line) = leaf ++ codes ": " ++ text_fault_word fault ++ codes " line " ++ decimal line
fault_text (Bad_code_of leaf fault) = leaf ++ codes ": " ++ code_fault_word fault
fault_text (Refused_for why) = refusal_text why
