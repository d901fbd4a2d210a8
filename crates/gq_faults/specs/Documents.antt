-- All faults of a document: of its tables, of its counts and of its names.
use Rattle.std.specs.Prelude.{ℕ, zero, suc, nat_lt, if◌then◌else◌, Bool, true, false, not, ◌&&◌, List, [], ◌∷◌, ◌++◌, length, filter, codes}
use Rattle.toml.specs.Data.{Data, Members, no_members, member, table, get_member}
use Rattle.gq_model.specs.machine.Lists.{any_of}
use Rattle.gq_model.specs.machine.Program.{text_eq}
use Rattle.gq_model.specs.texts.Letters.{is_name}
use Rattle.gq_scenario.specs.Document.{name_at, list_at, table_of, keys_of, is_init, is_long, routes_at}
use Rattle.gq_scenario.specs.Table_keys.{DocumentFault, MissingKey, BadValue, UnknownKey, NameTwice, TooDeep, TooMany, KeyRule, has, is_bad}
use Rattle.gq_scenario.specs.Document_tables.{version_of, top_keys, interface_keys, init_keys, leaf_keys, route_keys}
use Rattle.gq_faults.specs.Found_lists.{when, all_found}

-- TABLES

-- all unknown keys, in byte order
abbrev pub unknown_keys : List KeyRule → Members → List DocumentFault
unknown_keys rules no_members = []
unknown_keys rules (member key d rest) = when (not (any_of (λ r. text_eq key r.key) rules)) (UnknownKey key) ++ unknown_keys rules rest

-- a required key that is missing, and each that can stand in its place too
abbrev pub missing_of : Members → KeyRule → List DocumentFault
missing_of entries r = when (r.required && not (any_of (has entries) (r.key ∷ r.instead))) (MissingKey r.key)

-- a key with a bad value, or beside another with which it can not stand
abbrev pub bad_of : Members → KeyRule → List DocumentFault
bad_of entries r = when (is_bad r entries (get_member r.key entries)) (BadValue r.key)

-- of a table all unknown keys, all that are missing, all bad values
abbrev pub table_faults : List KeyRule → Members → List DocumentFault
table_faults rules entries = unknown_keys rules entries ++ all_found (missing_of entries) rules ++ all_found (bad_of entries) rules

-- what is found of a value that is a table
abbrev pub in_table : {B : Type 0} → (Members → List B) → Data → List B
in_table f (table entries) = f entries
in_table f _ = []

-- the same of each of these values
abbrev pub in_tables : {B : Type 0} → (Members → List B) → List Data → List B
in_tables f = all_found (in_table f)

abbrev pub interfaces_faults : ℕ → Members → List DocumentFault
interfaces_faults version no_members = []
interfaces_faults version (member key d rest) =
    in_table (λ entries. table_faults (interface_keys version entries) entries) d ++ interfaces_faults version rest

abbrev pub routes_faults : List ℕ → Members → List DocumentFault
routes_faults key entries = in_tables (table_faults route_keys) (list_at key entries)

-- NODES

-- a node's table, and whether it is too deep
pub record DocumentNode : Type 0 where
  pub deep : Bool
  pub entries : Members

-- a node and those below it in preorder, down to n levels and one more, at which they are too deep
abbrev pub nodes_below : ℕ → Members → List DocumentNode
nodes_below zero entries = record { deep = true; entries = entries } ∷ []
nodes_below (suc n) entries = record { deep = false; entries = entries } ∷ in_tables (nodes_below n) (list_at (codes "start") entries)

-- the nodes of a top table; those at depth 1 to 4 are not too deep
abbrev pub nodes_in : Members → List DocumentNode
nodes_in top = in_tables (nodes_below 4) (list_at (codes "start") top)

-- the rules of a node's table: one with `start` is an init
abbrev pub keys_of_node : ℕ → List (List ℕ) → Members → List KeyRule
keys_of_node version services entries = if is_init entries then init_keys version else leaf_keys version services

-- a node's table and its routes
abbrev pub own_faults : ℕ → List (List ℕ) → Members → List DocumentFault
own_faults version services entries =
    table_faults (keys_of_node version services entries) entries
    ++ routes_faults (codes "route") entries ++ routes_faults (codes "default-route") entries

abbrev pub node_faults : ℕ → List (List ℕ) → DocumentNode → List DocumentFault
node_faults version services node = if node.deep then TooDeep (name_at node.entries) ∷ [] else own_faults version services node.entries

-- the top table, the interfaces, the root's routes, the nodes
abbrev pub walk_faults : Members → List DocumentFault
walk_faults top =
    let version = version_of top in
    let interfaces = table_of (get_member (codes "interface") top) in
    table_faults (top_keys version) top ++ interfaces_faults version interfaces ++ routes_faults (codes "default-route") top
    ++ all_found (node_faults version (keys_of interfaces)) (nodes_in top)

-- COUNTS AND NAMES

-- of what may be there 64 times
abbrev pub too_many : ℕ → List DocumentFault
too_many count = when (nat_lt 64 count) TooMany

abbrev pub is_inner : DocumentNode → Bool
is_inner node = not node.deep && is_init node.entries

abbrev pub is_leaf : DocumentNode → Bool
is_leaf node = not node.deep && not (is_init node.entries)

-- each list of routes that is too long; only inits have default routes
abbrev pub long_lists : DocumentNode → List DocumentFault
long_lists node =
    if node.deep then []
    else when (is_long (routes_at (codes "route") node.entries)) TooMany
    ++ when (is_init node.entries && is_long (routes_at (codes "default-route") node.entries)) TooMany

-- one for each count that is passed: leaves, inits below the root, interfaces, and each list of routes
abbrev pub counts_faults : Members → List DocumentFault
counts_faults top =
    let nodes = nodes_in top in
    too_many (length (filter is_leaf nodes)) ++ too_many (length (filter is_inner nodes))
    ++ too_many (length (keys_of (table_of (get_member (codes "interface") top))))
    ++ when (is_long (routes_at (codes "default-route") top)) TooMany ++ all_found long_lists nodes

-- the name of a node that is not too deep, where it is one
abbrev pub named : DocumentNode → List (List ℕ)
named node = when (not node.deep && is_name (name_at node.entries)) (name_at node.entries)

-- each name that was seen before
abbrev pub names_twice : List (List ℕ) → List (List ℕ) → List DocumentFault
names_twice seen [] = []
names_twice seen (name ∷ rest) = when (any_of (text_eq name) seen) (NameTwice name) ++ names_twice (name ∷ seen) rest

-- `init` is the root's
abbrev pub names_faults : Members → List DocumentFault
names_faults top = names_twice (codes "init" ∷ []) (all_found named (nodes_in top))

abbrev pub document_faults : Members → List DocumentFault
document_faults top = walk_faults top ++ counts_faults top ++ names_faults top
