-- The tree of components, and its leaves as a list.
use Rattle.std.specs.Prelude.{ℕ, if◌then◌else◌, List, [], ◌∷◌, ◌++◌, Option, Some, None, codes, slice_index_or}
use Rattle.gq_model.specs.machine.Amounts.{Resource, Amount, amount, counted_in}
use Rattle.gq_model.specs.machine.Program.{Program, text_eq}

-- what a service asks of its clients and gives them; no buffer is a buffer of 0 bytes
pub record Interface : Type 0 where
  pub arg : ℕ
  pub reply : ℕ
  pub need : Amount
  pub object : ℕ
  pub upgrades : List Amount
  pub buffer : ℕ
  pub counted : List Resource

-- interfaces by the names of their services
abbrev pub Interfaces : Type 0
Interfaces = List (List ℕ × Interface)

pub data Target : Type 0 where
  Child : (name : List ℕ) → Target
  Any_child Parent : Target

-- a service, or any, and where it leads
pub record Route : Type 0 where
  pub service : Option (List ℕ)
  pub target : Target

-- how a leaf's program is given: as text, or as code
pub data Source : Type 0 where
  As_text As_code : (bytes : List ℕ) → Source

-- a component with a program, the greatest values of its inputs and the number of its signals: perhaps it provides a service, perhaps it starts after
-- another leaf
pub record LeafNode : Type 0 where
  pub name : List ℕ
  pub quantum : Amount
  pub source : Source
  pub program : Program
  pub provides : Option (List ℕ)
  pub after : Option (List ℕ)
  pub inputs : List ℕ
  pub signals : ℕ
  pub routes : Option (List Route)

-- services, each with the name of the child that serves it
abbrev pub Offers : Type 0
Offers = List (List ℕ × List ℕ)

pub record InitNode : Type 0 where
  pub name : List ℕ
  pub quantum : Amount
  pub routes : Option (List Route)
  pub default_routes : Option (List Route)
  pub offers : Offers

-- the start nodes of an init
pub data Nodes : Type 0 where
  End : Nodes
  Leaf_node : (node : LeafNode) (rest : Nodes) → Nodes
  Init_node : (node : InitNode) (children rest : Nodes) → Nodes

-- the root is the init of name `init`, whose quantum is `total`
pub record Scenario : Type 0 where
  pub version : ℕ
  pub total : Amount
  pub default_routes : Option (List Route)
  pub interfaces : Interfaces
  pub nodes : Nodes

-- the routes of a child, and its siblings, at one of the inits above a component
pub record Level : Type 0 where
  pub routes : List Route
  pub siblings : Nodes

-- a leaf with all that bears on its steps
pub record Component : Type 0 where
  pub label : List ℕ
  pub node : LeafNode
  pub levels : List Level

-- a child's own routes, else the default of its init
abbrev pub first_there : Option (List Route) → Option (List Route) → List Route
first_there (Some routes) default_routes = routes
first_there None (Some routes) = routes
first_there None None = []

-- names from the root down are joined by arrows
abbrev pub below : List ℕ → List ℕ → List ℕ
below label name = label ++ codes " -> " ++ name

abbrev pub level : Option (List Route) → Option (List Route) → Nodes → Level
level routes default_routes siblings = record { routes = first_there routes default_routes; siblings = siblings }

-- the leaves in preorder: those of `nodes`, which are among `siblings`, the start nodes of an init
abbrev pub components_of : List ℕ → Option (List Route) → Nodes → List Level → Nodes → List Component
components_of label default_routes siblings above End = []
components_of label default_routes siblings above (Leaf_node node rest) =
    record { label = below label node.name; node = node; levels = level node.routes default_routes siblings ∷ above }
    ∷ components_of label default_routes siblings above rest
components_of label default_routes siblings above (Init_node node children rest) =
    components_of (below label node.name) node.default_routes children (level node.routes default_routes siblings ∷ above) children
    ++ components_of label default_routes siblings above rest

abbrev pub components : Scenario → List Component
components s = components_of (codes "init") s.default_routes s.nodes [] s.nodes

-- all that is fixed in a run: the leaves, the interfaces and the resources that are counted
pub record System : Type 0 where
  pub components : List Component
  pub interfaces : Interfaces
  pub counted : List Resource

abbrev pub system : Scenario → System
system s = record { components = components s; interfaces = s.interfaces; counted = counted_in s.version }

abbrev pub interface_in : List ℕ → Interfaces → Option Interface
interface_in service [] = None
interface_in service (e ∷ rest) = if text_eq service e.0 then Some e.1 else interface_in service rest

abbrev pub service_in : Option (List ℕ) → Interfaces → Option Interface
service_in None interfaces = None
service_in (Some service) interfaces = interface_in service interfaces

-- a number of an interface, 0 where there is none
abbrev pub number_of : Option Interface → (Interface → ℕ) → ℕ
number_of None f = 0
number_of (Some i) f = f i

-- the capabilities given with a request to open
abbrev pub open_caps : Option Interface → ℕ
open_caps i = number_of i (λ i. i.need.caps)

-- the capabilities given with an upgrade of a session of this level, 0 past the last upgrade
abbrev pub upgrade_caps : Option Interface → ℕ → ℕ
upgrade_caps i level = number_of i (λ i. (slice_index_or i.upgrades level (amount 0 0)).caps)
