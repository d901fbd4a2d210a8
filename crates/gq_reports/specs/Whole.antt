-- What is written for a scenario's text.
use Rattle.std.specs.Prelude.{ℕ, List, [], ◌∷◌, ◌++◌, Option, Some, None, Result, Ok, Err, codes, decimal}
use Rattle.gq_model.specs.machine.Program.{Program}
use Rattle.gq_model.specs.machine.Scenario.{LeafNode, Scenario, components}
use Rattle.gq_model.specs.machine.Accounts.{whole}
use Rattle.gq_model.specs.rules.Accept.{budgets, step_budgets, budget_lines}
use Rattle.gq_model.specs.declared.fault.TurnFault.{TurnFault}
use Rattle.gq_model.specs.texts.Code.{code_of, hex_of}
use Rattle.gq_model.specs.texts.Fault_texts.{turn_fault_word}
use Rattle.gq_model.specs.texts.Turns.{Turned, turned}
use Rattle.gq_scenario.specs.Top_table.{ReadFault, read_text, scenario_in}
use Rattle.gq_load.specs.Named.{leaf_named}
use Rattle.gq_load.specs.Load.{LoadRefusal, source_fault, fault_text, loaded}
use Rattle.gq_model.specs.machine.Run.{Acts}

-- what is written, or the line that says why nothing is
abbrev pub Written : Type 0
Written = Result (List ℕ) (List ℕ)

abbrev pub refused_with : List ℕ → List ℕ
refused_with text = codes "trade: " ++ text ++ 10 ∷ []

-- goes on with a scenario that was loaded
abbrev pub with_scenario : Result Scenario LoadRefusal → (Scenario → Written) → Written
with_scenario (Ok s) go = go s
with_scenario (Err fault) go = Err (refused_with (fault_text fault))

-- RUNS

abbrev pub turn_fault_text : TurnFault → ℕ → List ℕ
turn_fault_text fault line = turn_fault_word fault ++ codes " line " ++ decimal line

-- the text of a run by these turns, with the step budgets of the scenario
unfoldable pub whole_of : Scenario → Acts → List ℕ
whole_of s turns = whole s (step_budgets (budgets s)) turns

abbrev pub written_turns : Scenario → Turned → Written
written_turns s (Ok turns) = Ok (whole_of s turns)
written_turns s (Err fault) = Err (refused_with (turn_fault_text fault.0 fault.1))

-- a run by the turns of a second text: the lines and the accounts, or the first fault
abbrev pub run_written : List ℕ → List ℕ → Written
run_written scenario turns = with_scenario (loaded scenario) (λ s. written_turns s (turned s turns))

-- BUDGETS

-- the budgets of an accepted scenario
abbrev pub check_written : List ℕ → Written
check_written scenario = with_scenario (loaded scenario) (λ s. Ok (budget_lines s))

-- CODE

-- a program's code in hexadecimal, if there is no fault
abbrev pub code_line : Program → Option LoadRefusal → Written
code_line p None = Ok (hex_of (code_of p) ++ 10 ∷ [])
code_line p (Some fault) = Err (refused_with (fault_text fault))

abbrev pub code_of_leaf : List ℕ → Option LeafNode → Written
code_of_leaf name None = Err (refused_with (codes "no component " ++ name))
code_of_leaf name (Some node) = code_line node.program (source_fault node.name node.source)

abbrev pub asm_from : Result Scenario ReadFault → List ℕ → Written
asm_from (Ok s) name = code_of_leaf name (leaf_named name (components s))
asm_from (Err fault) name = Err (refused_with (read_text fault))

-- the code of the leaf of that name; no other leaf's program is read
abbrev pub asm_written : List ℕ → List ℕ → Written
asm_written scenario name = asm_from (scenario_in scenario) name
