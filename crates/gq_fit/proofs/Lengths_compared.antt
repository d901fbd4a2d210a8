-- Lists of statements and of nodes that are the same, but for what does not count, have the same lengths.
use Rattle.std.proofs.Common.{◌≡◌, ◌∙◌, ℕ, suc, List, [], ◌∷◌, length, ap, refl, sym}
use Rattle.gq_model.specs.machine.Program.{Statements, Done, Do, If, Loop}
use Rattle.gq_model.specs.machine.Scenario.{Nodes, End, Leaf_node, Init_node}
use Rattle.gq_program.specs.Statement_trees.{tree_of}
use Rattle.gq_program.specs.declared.program_tree.Statement.{Statement}
use Rattle.gq_program.specs.declared.program_tree.Statement.TheVariants as statements
use Rattle.gq_scenario.specs.Component_trees.{nodes_of}
use Rattle.gq_scenario.specs.declared.scenario.Node.{Node}
use Rattle.gq_scenario.specs.declared.scenario.Node.TheVariants as nodes
use Rattle.gq_fit.specs.Refitted.{bare_nodes, statements_giving_nothing}

-- STATEMENTS

-- how many statements a list has, without those in them
abbrev count : Statements → ℕ
count Done = 0
count (Do i rest) = suc (count rest)
count (If arm other rest) = suc (count rest)
count (Loop n body rest) = suc (count rest)

count_giving : (b : Statements) → count (statements_giving_nothing b) ≡ count b
count_giving Done = refl
count_giving (Do i rest) = ap suc (count_giving rest)
count_giving (If arm other rest) = ap suc (count_giving rest)
count_giving (Loop n body rest) = ap suc (count_giving rest)

count_listed : (l : List Statement) → count (tree_of l) ≡ length l
count_listed [] = refl
count_listed (statements.Plain i ∷ rest) = ap suc (count_listed rest)
count_listed (statements.If arm other ∷ rest) = ap suc (count_listed rest)
count_listed (statements.Loop n body ∷ rest) = ap suc (count_listed rest)

counted : (l : List Statement) → count (statements_giving_nothing (tree_of l)) ≡ length l
counted l = count_giving (tree_of l) ∙ count_listed l

pub as_many_statements : (k l : List Statement) → statements_giving_nothing (tree_of k) ≡ statements_giving_nothing (tree_of l) → length k ≡ length l
as_many_statements k l e = sym (counted k) ∙ (ap count e ∙ counted l)

-- NODES

-- how many nodes a list has, without those in them
abbrev width : Nodes → ℕ
width End = 0
width (Leaf_node node rest) = suc (width rest)
width (Init_node node children rest) = suc (width rest)

width_bare : (n : Nodes) → width (bare_nodes n) ≡ width n
width_bare End = refl
width_bare (Leaf_node node rest) = ap suc (width_bare rest)
width_bare (Init_node node children rest) = ap suc (width_bare rest)

width_listed : (l : List Node) → width (nodes_of l) ≡ length l
width_listed [] = refl
width_listed (nodes.Leaf node ∷ rest) = ap suc (width_listed rest)
width_listed (nodes.Init node children ∷ rest) = ap suc (width_listed rest)

measured : (l : List Node) → width (bare_nodes (nodes_of l)) ≡ length l
measured l = width_bare (nodes_of l) ∙ width_listed l

pub as_many_nodes : (k l : List Node) → bare_nodes (nodes_of k) ≡ bare_nodes (nodes_of l) → length k ≡ length l
as_many_nodes k l e = sym (measured k) ∙ (ap width e ∙ measured l)
