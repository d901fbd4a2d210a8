-- What the commands of this crate write for a scenario's text.
use Rattle.std.specs.Prelude.{ℕ, List, ◌++◌, Option, Some, None, Result, Ok, Err, codes}
use Rattle.gq_model.specs.machine.Program.{Program}
use Rattle.gq_model.specs.machine.Scenario.{LeafNode, Scenario, components}
use Rattle.gq_scenario.specs.Top_table.{ReadFault, read_text, scenario_in}
use Rattle.gq_load.specs.Named.{leaf_named}
use Rattle.gq_load.specs.Load.{LoadRefusal, source_fault, fault_text, loaded}
use Rattle.gq_reports.specs.Whole.{Written, refused_with, with_scenario}
use Rattle.gq_views.specs.declared.margin.Margin.{Margin}
use Rattle.gq_views.specs.declared.margin.Margin.TheVariants.{Plain, Numbered}
use Rattle.gq_views.specs.Listing.{listing}
use Rattle.gq_views.specs.Numbered.{numbered_listing}
use Rattle.gq_views.specs.Tree.{tree_text, graph_text}

-- PROGRAMS

-- a program as text, without the numbers of its statements or with them
abbrev pub shown : Margin → Program → List ℕ
shown Plain p = listing p
shown Numbered p = numbered_listing p

-- if there is no fault
abbrev pub program_text : Margin → Program → Option LoadRefusal → Written
program_text m p None = Ok (shown m p)
program_text m p (Some fault) = Err (refused_with (fault_text fault))

abbrev pub text_of_leaf : Margin → List ℕ → Option LeafNode → Written
text_of_leaf m name None = Err (refused_with (codes "no component " ++ name))
text_of_leaf m name (Some node) = program_text m node.program (source_fault node.name node.source)

abbrev pub list_from : Margin → Result Scenario ReadFault → List ℕ → Written
list_from m (Ok s) name = text_of_leaf m name (leaf_named name (components s))
list_from m (Err fault) name = Err (refused_with (read_text fault))

-- the program of the leaf of that name; no other leaf's program is read
abbrev pub list_written : Margin → List ℕ → List ℕ → Written
list_written m scenario name = list_from m (scenario_in scenario) name

-- SCENARIOS

-- the tree of an accepted scenario
abbrev pub tree_written : List ℕ → Written
tree_written scenario = with_scenario (loaded scenario) (λ s. Ok (tree_text s))

-- the same as a graph
abbrev pub graph_written : List ℕ → Written
graph_written scenario = with_scenario (loaded scenario) (λ s. Ok (graph_text s))
