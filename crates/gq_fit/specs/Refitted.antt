-- Scenarios that differ in quantities and in what their statements give alone.
use Rattle.std.specs.Prelude.{◌≡◌, ℕ, List, [], map}
use Rattle.gq_model.specs.declared.program.Instruction.{Instruction}
use Rattle.gq_model.specs.declared.program.Instruction.TheVariants.{Open, Upgrade}
use Rattle.gq_model.specs.declared.section.Section.{Section}
use Rattle.gq_model.specs.machine.Amounts.{Amount, amount}
use Rattle.gq_model.specs.machine.Program.{Program, Statements, Done, Do, If, Loop}
use Rattle.gq_model.specs.machine.Scenario.{Component, InitNode, Interface, LeafNode, Nodes, End, Leaf_node, Init_node, Scenario, As_text}
use Rattle.gq_model.specs.machine.Scenario.{components}
use Rattle.gq_scenario.specs.Without_quantities.{unsized}

-- PROGRAMS

-- a statement that gives nothing for a session
abbrev pub giving_nothing : Instruction → Instruction
giving_nothing (Open place service n) = Open place service 0
giving_nothing (Upgrade place n) = Upgrade place 0
giving_nothing i = i

abbrev pub statements_giving_nothing : Statements → Statements
statements_giving_nothing Done = Done
statements_giving_nothing (Do i rest) = Do (giving_nothing i) (statements_giving_nothing rest)
statements_giving_nothing (If arm other rest) =
    If (statements_giving_nothing arm) (statements_giving_nothing other) (statements_giving_nothing rest)
statements_giving_nothing (Loop n body rest) = Loop n (statements_giving_nothing body) (statements_giving_nothing rest)

abbrev pub section_giving_nothing : Section × Statements → Section × Statements
section_giving_nothing p = (p.0, statements_giving_nothing p.1)

abbrev pub program_giving_nothing : Program → Program
program_giving_nothing p = record p { sections = map section_giving_nothing p.sections }

abbrev pub giving_of : Component → Program
giving_of c = program_giving_nothing c.node.program

-- the programs of the leaves in preorder, of which no statement gives anything
abbrev pub programs_giving_nothing : Scenario → List Program
programs_giving_nothing s = map giving_of (components (unsized s))

-- SCENARIOS WITHOUT QUANTITIES AND PROGRAMS

abbrev pub no_program : Program
no_program = record { sections = []; locals = [] }

abbrev pub bare_leaf : LeafNode → LeafNode
bare_leaf node = record node { quantum = amount 0 0; source = As_text []; program = no_program }

abbrev pub bare_init : InitNode → InitNode
bare_init node = record node { quantum = amount 0 0 }

abbrev pub bare_nodes : Nodes → Nodes
bare_nodes End = End
bare_nodes (Leaf_node node rest) = Leaf_node (bare_leaf node) (bare_nodes rest)
bare_nodes (Init_node node children rest) = Init_node (bare_init node) (bare_nodes children) (bare_nodes rest)

abbrev pub bare_interface : Interface → Interface
bare_interface i = record i { need = amount 0 0; upgrades = map (λ (a : Amount). amount 0 0) i.upgrades }

abbrev pub bare_entry : List ℕ × Interface → List ℕ × Interface
bare_entry e = (e.0, bare_interface e.1)

abbrev pub bare : Scenario → Scenario
bare s = record s { total = amount 0 0; interfaces = map bare_entry s.interfaces; nodes = bare_nodes s.nodes }

-- SCENARIOS THAT DIFFER IN THESE ALONE

-- the second scenario is the first one with other quantities, and its programs give other amounts with `open` and `upgrade`
pub record IsRefitted (old new : Scenario) : Type 0 where
  pub shape : bare new ≡ bare old
  pub programs : programs_giving_nothing new ≡ programs_giving_nothing old
