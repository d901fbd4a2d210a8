-- Tables that the walk has passed.
use Rattle.std.specs.Prelude.{◌≡◌, ℕ, Bool, true, ◌||◌, List, Option, Some, None, is_some, codes}
use Rattle.toml.specs.Data.{Data, Members, get_member}
use Rattle.gq_model.specs.machine.Lists.{all_of}
use Rattle.gq_model.specs.texts.Letters.{is_name}
use Rattle.gq_model.specs.machine.Scenario.{Route}
use Rattle.gq_scenario.specs.Table_keys.{table_fault}
use Rattle.gq_scenario.specs.Document_tables.{init_keys, leaf_keys}
use Rattle.gq_scenario.specs.Document.{text_at, target_in, code_in, table_of, first_of, routes_fault, node_fault}

-- a name, or nothing
abbrev pub is_name_or_none : Option (List ℕ) → Bool
is_name_or_none None = true
is_name_or_none (Some text) = is_name text

-- a route's table
abbrev pub route_of : Members → Route
route_of entries = record { service = text_at (codes "service") entries; target = target_in entries }

-- a program is given
abbrev pub has_source : Members → Bool
has_source entries = is_some (text_at (codes "program") entries) || is_some (code_in entries)

-- the table of what an init offers
abbrev pub offers_at : Members → Members
offers_at entries = table_of (get_member (codes "offers") entries)

-- a leaf's table without faults, among services with names
pub record IsLeafTable (entries : Members) : Type 0 where
  pub version : ℕ
  pub services : List (List ℕ)
  pub names : all_of is_name services ≡ true
  pub keys : table_fault (leaf_keys version services) entries ≡ None
  pub routes : routes_fault (codes "route") entries ≡ None

-- an init's
pub record IsInitTable (entries : Members) : Type 0 where
  pub version : ℕ
  pub keys : table_fault (init_keys version) entries ≡ None
  pub routes : routes_fault (codes "route") entries ≡ None
  pub default_routes : routes_fault (codes "default-route") entries ≡ None

-- a node without faults, with what is below it, down to so many levels
pub record IsNode (levels : ℕ) (entries : Members) : Type 0 where
  pub version : ℕ
  pub services : List (List ℕ)
  pub names : all_of is_name services ≡ true
  pub sound : node_fault levels version services entries ≡ None

-- nodes without faults
pub record AreNodes (levels : ℕ) (nodes : List Data) : Type 0 where
  pub version : ℕ
  pub services : List (List ℕ)
  pub names : all_of is_name services ≡ true
  pub sound : first_of (node_fault levels version services) nodes ≡ None
