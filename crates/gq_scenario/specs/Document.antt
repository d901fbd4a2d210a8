-- The scenario that a document describes, and the document's first fault.
use Rattle.std.specs.Prelude.{ℕ, zero, suc, ◌+◌, nat_lt, if◌then◌else◌, Bool, false, ◌||◌, List, [], ◌∷◌, ◌++◌, length, Option, Some, None, codes}
use Rattle.toml.specs.Data.{Data, Items, Members, no_members, member, get_member}
use Rattle.gq_model.specs.machine.Amounts.{Amount, amount, counted_in}
use Rattle.gq_model.specs.machine.Program.{text_eq}
use Rattle.gq_model.specs.machine.Lists.{any_of, or_first}
use Rattle.gq_model.specs.machine.Scenario.{Interface, Interfaces, Target, Child, Any_child, Parent, Route, Source, As_text, As_code, LeafNode, InitNode, Nodes}
use Rattle.gq_model.specs.machine.Scenario.{Offers, End, Leaf_node, Init_node, Scenario}
use Rattle.gq_model.specs.machine.Accounts.{leaf_count}
use Rattle.gq_model.specs.texts.Sources.{program_from}
use Rattle.gq_scenario.specs.Table_keys.{DocumentFault, NameTwice, TooDeep, TooMany, number_of, quantity, text_of, members_of, listed, unhex_of, has}
use Rattle.gq_scenario.specs.Table_keys.{table_fault}
use Rattle.gq_scenario.specs.Document_tables.{version_of, items_at, top_keys, interface_keys, init_keys, leaf_keys, route_keys}

-- VALUES AT KEYS

abbrev pub value_of : {A : Type 0} → (Data → Option A) → Option Data → Option A
value_of f None = None
value_of f (Some d) = f d

abbrev pub value_at : {A : Type 0} → (Data → Option A) → List ℕ → Members → Option A
value_at f key entries = value_of f (get_member key entries)

-- a number that is not there is 0
abbrev pub or_zero : Option ℕ → ℕ
or_zero None = 0
or_zero (Some n) = n

abbrev pub number_at : List ℕ → Members → ℕ
number_at key entries = or_zero (value_at number_of key entries)

abbrev pub quantity_at : List ℕ → Members → ℕ
quantity_at key entries = or_zero (value_at quantity key entries)

abbrev pub text_at : List ℕ → Members → Option (List ℕ)
text_at = value_at text_of

abbrev pub or_empty : Option (List ℕ) → List ℕ
or_empty None = []
or_empty (Some text) = text

abbrev pub name_at : Members → List ℕ
name_at entries = or_empty (text_at (codes "name") entries)

abbrev pub list_of : Option Items → List Data
list_of None = []
list_of (Some items) = listed items

abbrev pub list_at : List ℕ → Members → List Data
list_at key entries = list_of (items_at key entries)

abbrev pub amount_at : List ℕ → List ℕ → Members → Amount
amount_at ram caps entries = amount (quantity_at ram entries) (number_at caps entries)

-- WHAT A DOCUMENT DESCRIBES

abbrev pub target_in : Members → Target
target_in entries =
    if has entries (codes "parent") then Parent else (if has entries (codes "any-child") then Any_child else Child (or_empty (text_at (codes "child") entries)))

abbrev pub routes_of : List Data → List Route
routes_of [] = []
routes_of (d ∷ rest) =
    let entries = members_of d in record { service = text_at (codes "service") entries; target = target_in entries } ∷ routes_of rest

abbrev pub routes_in : Option Items → Option (List Route)
routes_in None = None
routes_in (Some items) = Some (routes_of (listed items))

abbrev pub routes_at : List ℕ → Members → Option (List Route)
routes_at key entries = routes_in (items_at key entries)

-- bytes of each upgrade, and its capabilities, 0 where none are reported
abbrev pub upgrades_of : List Data → List Data → List Amount
upgrades_of [] caps = []
upgrades_of (d ∷ rest) [] = amount (or_zero (quantity d)) 0 ∷ upgrades_of rest []
upgrades_of (d ∷ rest) (c ∷ caps) = amount (or_zero (quantity d)) (or_zero (number_of c)) ∷ upgrades_of rest caps

abbrev pub interface_of : ℕ → Members → Interface
interface_of version entries =
    record {
      arg = number_at (codes "arg") entries;
      reply = number_at (codes "reply") entries;
      need = amount_at (codes "need") (codes "need-caps") entries;
      object = quantity_at (codes "object") entries;
      upgrades = upgrades_of (list_at (codes "upgrades") entries) (list_at (codes "upgrade-caps") entries);
      buffer = quantity_at (codes "buffer") entries;
      counted = counted_in version;
    }

abbrev pub interfaces_of : ℕ → Members → Interfaces
interfaces_of version no_members = []
interfaces_of version (member key d rest) = (key, interface_of version (members_of d)) ∷ interfaces_of version rest

-- the table at a key, empty where there is none
abbrev pub table_of : Option Data → Members
table_of None = no_members
table_of (Some d) = members_of d

-- the numbers of these values
abbrev pub numbers_of : List Data → List ℕ
numbers_of [] = []
numbers_of (d ∷ rest) = or_zero (number_of d) ∷ numbers_of rest

-- each key with the text of its value
abbrev pub offers_of : Members → Offers
offers_of no_members = []
offers_of (member key d rest) = (key, or_empty (text_of d)) ∷ offers_of rest

-- a leaf's program is reported as text or as code
abbrev pub source_from : Option (List ℕ) → Option (List ℕ) → Source
source_from (Some text) code = As_text text
source_from None (Some code) = As_code code
source_from None None = As_text []

abbrev pub code_in : Members → Option (List ℕ)
code_in entries = unhex_of (text_at (codes "code") entries)

abbrev pub source_in : Members → Source
source_in entries = source_from (text_at (codes "program") entries) (code_in entries)

abbrev pub leaf_of : Members → LeafNode
leaf_of entries =
    record {
      name = name_at entries;
      quantum = amount_at (codes "quantum") (codes "caps") entries;
      source = source_in entries;
      program = program_from (source_in entries);
      provides = text_at (codes "provides") entries;
      after = text_at (codes "after") entries;
      inputs = numbers_of (list_at (codes "inputs") entries);
      signals = number_at (codes "signals") entries;
      routes = routes_at (codes "route") entries;
    }

abbrev pub init_of : Members → InitNode
init_of entries =
    record {
      name = name_at entries;
      quantum = amount_at (codes "quantum") (codes "caps") entries;
      routes = routes_at (codes "route") entries;
      default_routes = routes_at (codes "default-route") entries;
      offers = offers_of (table_of (get_member (codes "offers") entries));
    }

abbrev pub is_init : Members → Bool
is_init entries = has entries (codes "start")

-- each of these by f before the rest
abbrev pub nodes_by : (Members → Nodes → Nodes) → List Data → Nodes
nodes_by f [] = End
nodes_by f (d ∷ rest) = f (members_of d) (nodes_by f rest)

-- a node and what is below it, down to n levels
abbrev pub node_onto : ℕ → Members → Nodes → Nodes
node_onto zero entries rest = rest
node_onto (suc n) entries rest =
    if is_init entries then Init_node (init_of entries) (nodes_by (node_onto n) (list_at (codes "start") entries)) rest else Leaf_node (leaf_of entries) rest

-- the scenario that a top table describes; nodes are at depth 1 to 4
abbrev pub described : Members → Scenario
described top =
    let version = version_of top in
    record {
      version = version;
      total = amount_at (codes "ram") (codes "caps") top;
      default_routes = routes_at (codes "default-route") top;
      interfaces = interfaces_of version (table_of (get_member (codes "interface") top));
      nodes = nodes_by (node_onto 4) (list_at (codes "start") top);
    }

-- THE WALK

-- the first fault of these
abbrev pub first_of : {F : Type 0} → (Members → Option F) → List Data → Option F
first_of f [] = None
first_of f (d ∷ rest) = or_first (f (members_of d)) (first_of f rest)

abbrev pub routes_fault : List ℕ → Members → Option DocumentFault
routes_fault key entries = first_of (table_fault route_keys) (list_at key entries)

abbrev pub interfaces_fault : ℕ → Members → Option DocumentFault
interfaces_fault version no_members = None
interfaces_fault version (member key d rest) =
    let entries = members_of d in or_first (table_fault (interface_keys version entries) entries) (interfaces_fault version rest)

abbrev pub keys_of : Members → List (List ℕ)
keys_of no_members = []
keys_of (member key d rest) = key ∷ keys_of rest

-- a node, its routes and what is below it, down to n levels
abbrev pub node_fault : ℕ → ℕ → List (List ℕ) → Members → Option DocumentFault
node_fault zero version services entries = Some (TooDeep (name_at entries))
node_fault (suc n) version services entries =
    let keys = if is_init entries then init_keys version else leaf_keys version services in
    or_first (table_fault keys entries)
    (or_first (routes_fault (codes "route") entries)
    (or_first (routes_fault (codes "default-route") entries)
    (first_of (node_fault n version services) (list_at (codes "start") entries))))

-- the top table, the interfaces, the root's routes, the nodes
abbrev pub walk_fault : Members → Option DocumentFault
walk_fault top =
    let version = version_of top in
    let interfaces = table_of (get_member (codes "interface") top) in
    or_first (table_fault (top_keys version) top)
    (or_first (interfaces_fault version interfaces)
    (or_first (routes_fault (codes "default-route") top)
    (first_of (node_fault 4 version (keys_of interfaces)) (list_at (codes "start") top))))

-- COUNTS AND NAMES

abbrev pub init_count : Nodes → ℕ
init_count End = 0
init_count (Leaf_node node rest) = init_count rest
init_count (Init_node node children rest) = suc (init_count children + init_count rest)

abbrev pub is_long : Option (List Route) → Bool
is_long None = false
is_long (Some routes) = nat_lt 64 (length routes)

abbrev pub has_long_routes : Nodes → Bool
has_long_routes End = false
has_long_routes (Leaf_node node rest) = is_long node.routes || has_long_routes rest
has_long_routes (Init_node node children rest) = is_long node.routes || is_long node.default_routes || has_long_routes children || has_long_routes rest

-- at most 64 leaves, inits under the root, interfaces, and routes in a list
abbrev pub has_too_many : Scenario → Bool
has_too_many s =
    nat_lt 64 (leaf_count s.nodes) || nat_lt 64 (init_count s.nodes) || nat_lt 64 (length s.interfaces) || is_long s.default_routes || has_long_routes s.nodes

-- the names of these nodes in preorder
abbrev pub names_of : Nodes → List (List ℕ)
names_of End = []
names_of (Leaf_node node rest) = node.name ∷ names_of rest
names_of (Init_node node children rest) = node.name ∷ names_of children ++ names_of rest

-- the first name that was seen before
abbrev pub name_twice : List (List ℕ) → List (List ℕ) → Option DocumentFault
name_twice seen [] = None
name_twice seen (name ∷ rest) = if any_of (text_eq name) seen then Some (NameTwice name) else name_twice (name ∷ seen) rest

abbrev pub counts_fault : Scenario → Option DocumentFault
counts_fault s = if has_too_many s then Some TooMany else None

-- the first fault of a top table: of the walk, then of counts, then of names, of which `init` is the root's
abbrev pub document_fault : Members → Option DocumentFault
document_fault top =
    let s = described top in or_first (walk_fault top) (or_first (counts_fault s) (name_twice (codes "init" ∷ []) (names_of s.nodes)))
