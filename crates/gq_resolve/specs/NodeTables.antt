-- The nodes of a scenario in preorder, and its leaves, with numbers in the place of names.
use Rattle.std.specs.Prelude.{◌≡◌, ℕ, suc, ◌+◌, if◌then◌else◌, List, [], ◌∷◌, ◌++◌, Option, Some, None, codes, map, slice_get}
use Rattle.gq_model.specs.machine.Accounts.{leaf_count}
use Rattle.gq_model.specs.machine.Amounts.{Amount}
use Rattle.gq_model.specs.machine.Lists.{any_of}
use Rattle.gq_model.specs.machine.Program.{text_eq}
use Rattle.gq_model.specs.machine.Scenario.{Interfaces, Nodes, End, Leaf_node, Init_node, Scenario, Component, System, below, components, system}
use Rattle.gq_model.specs.machine.Routes.{numbered, server_of}
use Rattle.gq_model.specs.rules.Use.{services}
use Rattle.gq_scenario.specs.Sizes.{node_count, leaf_places}

-- a node: its label, the node above it, what it is given, and which leaf it is
pub record NodeRow : Type 0 where
  pub label : List ℕ
  pub parent : Option ℕ
  pub quantum : Amount
  pub leaf : Option ℕ

abbrev pub leaf_node : List ℕ → ℕ → ℕ → Amount → NodeRow
leaf_node label parent x quantum = record { label = label; parent = Some parent; quantum = quantum; leaf = Some x }

abbrev pub init_node : List ℕ → Option ℕ → Amount → NodeRow
init_node label parent quantum = record { label = label; parent = parent; quantum = quantum; leaf = None }

-- these nodes and those below them in preorder, under the node `parent` of this label: the first is the n-th of all, and their leaves are from the x-th on
abbrev pub rows_of : List ℕ → ℕ → ℕ → ℕ → Nodes → List NodeRow
rows_of label parent n x End = []
rows_of label parent n x (Leaf_node node rest) =
    leaf_node (below label node.name) parent x node.quantum ∷ rows_of label parent (n + 1) (x + 1) rest
rows_of label parent n x (Init_node node children rest) =
    init_node (below label node.name) (Some parent) node.quantum
    ∷ rows_of (below label node.name) n (n + 1) x children ++ rows_of label parent (n + 1 + node_count children) (x + leaf_count children) rest

-- all nodes, the root first
abbrev pub node_rows : Scenario → List NodeRow
node_rows s = init_node (codes "init") None s.total ∷ rows_of (codes "init") 0 1 0 s.nodes

-- the n-th of these is the node of this leaf
abbrev pub IsNodeOf : List NodeRow → ℕ → Component → Type 0
IsNodeOf rows n c = (r : NodeRow) × (slice_get rows n ≡ Some r) × (r.label ≡ c.label) × (r.quantum ≡ c.node.quantum)

-- a leaf: its name, its place among the nodes, the interface of the service that it provides, the leaf that it starts after, the greatest values of its inputs,
-- the number of its signals, and for each interface the leaf that serves it, where a statement of its program opens that service
pub record LeafRow : Type 0 where
  pub name : List ℕ
  pub node : ℕ
  pub service : Option ℕ
  pub after : Option ℕ
  pub inputs : List ℕ
  pub signals : ℕ
  pub servers : List (Option ℕ)

-- the number of a service's interface, counted from n
abbrev pub interface_number : ℕ → List ℕ → Interfaces → Option ℕ
interface_number n service [] = None
interface_number n service (e ∷ rest) = if text_eq service e.0 then Some n else interface_number (suc n) service rest

-- the number of a name that is there
abbrev pub number_named : Option (List ℕ) → (List ℕ → Option ℕ) → Option ℕ
number_named None number = None
number_named (Some name) number = number name

-- the server of a service that a leaf opens
abbrev pub opened_server : System → Component → List ℕ → Option ℕ
opened_server system c service = if any_of (text_eq service) (services c) then server_of system c service else None

abbrev pub leaf_row : Scenario → ℕ → Component → LeafRow
leaf_row s place c =
    record {
      name = c.node.name;
      node = place;
      service = number_named c.node.provides (λ name. interface_number 0 name s.interfaces);
      after = number_named c.node.after (λ name. numbered 0 name (components s));
      inputs = c.node.inputs;
      signals = c.node.signals;
      servers = map (λ e. opened_server (system s) c e.0) s.interfaces;
    }

abbrev pub leaf_rows_of : Scenario → List ℕ → List Component → List LeafRow
leaf_rows_of s [] cs = []
leaf_rows_of s (p ∷ places) [] = []
leaf_rows_of s (p ∷ places) (c ∷ rest) = leaf_row s p c ∷ leaf_rows_of s places rest

-- all leaves, in preorder
abbrev pub leaf_rows : Scenario → List LeafRow
leaf_rows s = leaf_rows_of s (leaf_places 1 s.nodes) (components s)

-- nodes and leaves together
pub record Rows : Type 0 where
  pub nodes : List NodeRow
  pub leaves : List LeafRow

abbrev pub all_rows : Scenario → Rows
all_rows s = record { nodes = node_rows s; leaves = leaf_rows s }
