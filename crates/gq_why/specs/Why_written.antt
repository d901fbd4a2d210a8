-- What is written for a scenario's text and the name of a leaf.
use Rattle.std.specs.Prelude.{ℕ, suc, if◌then◌else◌, List, [], ◌∷◌, ◌++◌, Option, Some, None, Result, Ok, Err, codes}
use Rattle.gq_model.specs.machine.Program.{text_eq}
use Rattle.gq_model.specs.machine.Scenario.{Component, Scenario, components}
use Rattle.gq_scenario.specs.Top_table.{ReadFault, read_text, scenario_in}
use Rattle.gq_scenario.specs.Without_quantities.{unsized}
use Rattle.gq_load.specs.Load.{LoadRefusal, fault_text}
use Rattle.gq_load.specs.Unsized_judgement.{unsized_fault}
use Rattle.gq_reports.specs.Whole.{Written, refused_with}
use Rattle.gq_why.specs.Why.{why_text}

-- the number of the first leaf of that name, among those from the x-th on
abbrev pub leaf_number : List ℕ → ℕ → List Component → Option ℕ
leaf_number name x [] = None
leaf_number name x (c ∷ rest) = if text_eq name c.node.name then Some x else leaf_number name (suc x) rest

-- a text, if there is no fault
abbrev pub text_or_fault : Option LoadRefusal → List ℕ → Written
text_or_fault None text = Ok text
text_or_fault (Some fault) text = Err (refused_with (fault_text fault))

-- a leaf is looked for before programs are read
abbrev pub why_of : Scenario → List ℕ → Option ℕ → Written
why_of s name None = Err (refused_with (codes "no component " ++ name))
why_of s name (Some x) = text_or_fault (unsized_fault (unsized s)) (why_text s x)

abbrev pub why_from : Result Scenario ReadFault → List ℕ → Written
why_from (Ok s) name = why_of s name (leaf_number name 0 (components s))
why_from (Err fault) name = Err (refused_with (read_text fault))

-- what the numbers of the leaf of that name are made of
abbrev pub why_written : List ℕ → List ℕ → Written
why_written scenario name = why_from (scenario_in scenario) name
