-- An accepted scenario as a tree, and as a graph for Graphviz.
use Rattle.std.specs.Prelude.{ℕ, suc, ◌+◌, ◌-◌, ◌==◌, if◌then◌else◌, List, [], ◌∷◌, ◌++◌, Option, Some, None, decimal, codes, slice_get}
use Rattle.std.specs.Prelude.{slice_index}
use Rattle.gq_model.specs.machine.Amounts.{Resource, Ram, Caps, Amount, part}
use Rattle.gq_model.specs.machine.Accounts.{entry, leaf_count, reported}
use Rattle.gq_model.specs.machine.Lists.{any_of}
use Rattle.gq_model.specs.machine.Program.{text_eq}
use Rattle.gq_model.specs.machine.Routes.{numbered, server_of}
use Rattle.gq_model.specs.machine.Run.{label_at}
use Rattle.gq_model.specs.machine.Scenario.{Scenario, LeafNode, InitNode, Offers, Nodes, End, Leaf_node, Init_node, System, system, Component}
use Rattle.gq_model.specs.rules.Accept.{Budget, budgets}
use Rattle.gq_model.specs.rules.Resolve.{handed_out}
use Rattle.gq_model.specs.rules.Use.{services}
use Rattle.gq_scenario.specs.Sizes.{leaf_places, node_count}
use Rattle.gq_views.specs.Listing.{line}

-- a quantum and what is left of it
abbrev pub left_entries : List ℕ → Resource → Amount → Nodes → List ℕ
left_entries word r quantum children = entry word (part r quantum) ++ entry (codes "left") (part r quantum - handed_out r children)

abbrev pub init_text : ℕ → List ℕ → Amount → Nodes → List ℕ
init_text version name quantum children =
    name ++ left_entries (codes "quantum") Ram quantum children ++ reported version (left_entries (codes "caps") Caps quantum children)

-- what an init offers, each service with the child that serves it
abbrev pub offers_lines : ℕ → Offers → List ℕ
offers_lines depth [] = []
offers_lines depth (o ∷ rest) = line depth (codes "offers " ++ o.0 ++ codes " from " ++ o.1) ++ offers_lines depth rest

-- the line of an init, and below it what the init offers
abbrev pub init_lines : ℕ → ℕ → InitNode → Nodes → List ℕ
init_lines version depth node children =
    line depth (init_text version node.name node.quantum children) ++ offers_lines (suc depth) node.offers

-- a word and a name, where there is one
abbrev pub named_entry : List ℕ → Option (List ℕ) → List ℕ
named_entry word None = []
named_entry word (Some name) = codes " " ++ word ++ codes " " ++ name

-- these numbers, each behind a blank
abbrev pub amounts : List ℕ → List ℕ
amounts [] = []
amounts (n ∷ rest) = (codes " " ++ decimal n) ++ amounts rest

-- the greatest values of inputs, where there are any
abbrev pub inputs_entry : List ℕ → List ℕ
inputs_entry [] = []
inputs_entry (n ∷ rest) = codes " inputs" ++ amounts (n ∷ rest)

-- the number of signals, where there are any
abbrev pub signals_entry : ℕ → List ℕ
signals_entry n = if n == 0 then [] else entry (codes "signals") n

abbrev pub budget_entries : ℕ → Option Budget → List ℕ
budget_entries version None = []
budget_entries version (Some b) =
    entry (codes "own") b.own.ram ++ reported version (entry (codes "caps") b.own.caps) ++ entry (codes "steps") b.steps.from_start

-- what the scenario says of a leaf
abbrev pub leaf_words : ℕ → LeafNode → List ℕ
leaf_words version node =
    node.name ++ entry (codes "quantum") node.quantum.ram ++ reported version (entry (codes "caps") node.quantum.caps)
    ++ named_entry (codes "provides") node.provides ++ named_entry (codes "after") node.after ++ inputs_entry node.inputs ++ signals_entry node.signals

-- and what it uses at most
abbrev pub leaf_text : ℕ → LeafNode → Option Budget → List ℕ
leaf_text version node b = leaf_words version node ++ budget_entries version b

-- SERVICES

-- each once, where it comes first
abbrev pub first_of_each : List (List ℕ) → List (List ℕ) → List (List ℕ)
first_of_each before [] = []
first_of_each before (service ∷ rest) =
    (if any_of (text_eq service) before then [] else service ∷ []) ++ first_of_each (service ∷ before) rest

abbrev pub server_label : System → Option ℕ → List ℕ
server_label system None = []
server_label system (Some y) = label_at (slice_get system.components y)

abbrev pub opens_lines : ℕ → System → Component → List (List ℕ) → List ℕ
opens_lines depth system c [] = []
opens_lines depth system c (service ∷ rest) =
    line depth (codes "opens " ++ service ++ codes " of " ++ server_label system (server_of system c service)) ++ opens_lines depth system c rest

-- the services that a leaf opens, each with its server
abbrev pub leaf_opens : ℕ → System → Option Component → List ℕ
leaf_opens depth system None = []
leaf_opens depth system (Some c) = opens_lines depth system c (first_of_each [] (services c))

-- LINES

-- the lines of these nodes, of which the first leaf is the x-th, below so many inits
abbrev pub nodes_text : ℕ → System → List Budget → ℕ → ℕ → Nodes → List ℕ
nodes_text version system budgets depth x End = []
nodes_text version system budgets depth x (Leaf_node node rest) =
    line depth (leaf_text version node (slice_get budgets x)) ++ leaf_opens (suc depth) system (slice_get system.components x)
    ++ nodes_text version system budgets depth (suc x) rest
nodes_text version system budgets depth x (Init_node node children rest) =
    init_lines version depth node children ++ nodes_text version system budgets (suc depth) x children
    ++ nodes_text version system budgets depth (x + leaf_count children) rest

abbrev pub tree_text : Scenario → List ℕ
tree_text s = line 0 (init_text s.version (codes "init") s.total s.nodes) ++ nodes_text s.version (system s) (budgets s) 1 0 s.nodes

-- A GRAPH

-- the parts of a label, which Graphviz writes on lines of their own
abbrev pub next_part : List ℕ → List ℕ
next_part text = codes "\\n" ++ text

abbrev pub init_label : ℕ → List ℕ → Amount → Nodes → List ℕ
init_label version name quantum children =
    name ++ next_part (codes "quantum " ++ decimal quantum.ram ++ entry (codes "left") (quantum.ram - handed_out Ram children))
    ++ reported version (next_part (codes "caps " ++ decimal quantum.caps ++ entry (codes "left") (quantum.caps - handed_out Caps children)))

abbrev pub provides_part : Option (List ℕ) → List ℕ
provides_part None = []
provides_part (Some service) = next_part (codes "provides " ++ service)

abbrev pub inputs_part : List ℕ → List ℕ
inputs_part [] = []
inputs_part (n ∷ rest) = next_part (codes "inputs" ++ amounts (n ∷ rest))

abbrev pub signals_part : ℕ → List ℕ
signals_part n = if n == 0 then [] else next_part (codes "signals " ++ decimal n)

abbrev pub budget_part : ℕ → Option Budget → List ℕ
budget_part version None = []
budget_part version (Some b) =
    next_part (codes "own " ++ decimal b.own.ram ++ reported version (entry (codes "caps") b.own.caps) ++ entry (codes "steps") b.steps.from_start)

abbrev pub leaf_parts : ℕ → LeafNode → List ℕ
leaf_parts version node =
    node.name ++ next_part (codes "quantum " ++ decimal node.quantum.ram ++ reported version (entry (codes "caps") node.quantum.caps))
    ++ provides_part node.provides ++ inputs_part node.inputs ++ signals_part node.signals

abbrev pub leaf_label : ℕ → LeafNode → Option Budget → List ℕ
leaf_label version node b = leaf_parts version node ++ budget_part version b

abbrev pub in_quotes : List ℕ → List ℕ
in_quotes text = codes "\"" ++ text ++ codes "\""

-- a node is named by its place in preorder
abbrev pub node_name : ℕ → List ℕ
node_name k = codes "n" ++ decimal k

-- an init without children has a point that is not seen
abbrev pub point_line : ℕ → ℕ → Nodes → List ℕ
point_line depth k End = line depth (node_name k ++ codes " [shape = point, style = invis];")
point_line depth k children = []

-- an init is a box around its children
abbrev pub cluster : ℕ → ℕ → List ℕ → List ℕ → List ℕ → List ℕ
cluster depth k label point inside =
    line depth (codes "subgraph cluster_" ++ decimal k ++ codes " {") ++ line (suc depth) (codes "label = " ++ in_quotes label ++ codes ";")
    ++ point ++ inside ++ line depth (codes "}")

-- these nodes, of which the first is the k-th and the first leaf the x-th
abbrev pub node_boxes : ℕ → List Budget → ℕ → ℕ → ℕ → Nodes → List ℕ
node_boxes version budgets depth k x End = []
node_boxes version budgets depth k x (Leaf_node node rest) =
    line depth (node_name k ++ codes " [label = " ++ in_quotes (leaf_label version node (slice_get budgets x)) ++ codes "];")
    ++ node_boxes version budgets depth (suc k) (suc x) rest
node_boxes version budgets depth k x (Init_node node children rest) =
    cluster depth k (init_label version node.name node.quantum children) (point_line (suc depth) k children)
    (node_boxes version budgets (suc depth) (suc k) x children)
    ++ node_boxes version budgets depth (suc k + node_count children) (x + leaf_count children) rest

abbrev pub arrow : ℕ → ℕ → List ℕ → List ℕ
arrow from to attributes = line 1 (node_name from ++ codes " -> " ++ node_name to ++ codes " [label = " ++ attributes ++ codes "];")

abbrev pub arrow_to : List ℕ → ℕ → Option ℕ → List ℕ → List ℕ
arrow_to places from None attributes = []
arrow_to places from (Some y) attributes = arrow from (slice_index places y) attributes

abbrev pub service_arrows : System → List ℕ → ℕ → Component → List (List ℕ) → List ℕ
service_arrows system places from c [] = []
service_arrows system places from c (service ∷ rest) =
    arrow_to places from (server_of system c service) (in_quotes service) ++ service_arrows system places from c rest

-- the services that leaves open, from the x-th leaf on
abbrev pub all_services : System → List ℕ → ℕ → List Component → List ℕ
all_services system places x [] = []
all_services system places x (c ∷ rest) =
    service_arrows system places (slice_index places x) c (first_of_each [] (services c)) ++ all_services system places (suc x) rest

abbrev pub arrow_from : List ℕ → Option ℕ → ℕ → List ℕ
arrow_from places None to = []
arrow_from places (Some y) to = arrow (slice_index places y) to (codes "\"then\", style = dashed")

abbrev pub after_arrow : System → List ℕ → ℕ → Option (List ℕ) → List ℕ
after_arrow system places to None = []
after_arrow system places to (Some name) = arrow_from places (numbered 0 name system.components) to

abbrev pub all_afters : System → List ℕ → ℕ → List Component → List ℕ
all_afters system places x [] = []
all_afters system places x (c ∷ rest) = after_arrow system places (slice_index places x) c.node.after ++ all_afters system places (suc x) rest

abbrev pub graph_text : Scenario → List ℕ
graph_text s =
    let all = system s in
    let places = leaf_places 1 s.nodes in
    line 0 (codes "digraph scenario {") ++ line 1 (codes "node [shape = box];")
    ++ cluster 1 0 (init_label s.version (codes "init") s.total s.nodes) (point_line 2 0 s.nodes) (node_boxes s.version (budgets s) 2 1 0 s.nodes)
    ++ all_services all places 0 all.components ++ all_afters all places 0 all.components ++ line 0 (codes "}")
