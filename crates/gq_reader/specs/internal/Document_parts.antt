-- What is looked at after a document's tables.
use Rattle.std.specs.Prelude.{nat_lt, if◌then◌else◌, Bool, ◌||◌, List, [], ◌∷◌, Option, Some, codes}
use Rattle.toml.specs.Data.{Members, get_member}
use Rattle.gq_model.specs.machine.Accounts.{leaf_count}
use Rattle.gq_model.specs.machine.Scenario.{Route, Nodes}
use Rattle.gq_scenario.specs.Table_keys.{DocumentFault, TooMany}
use Rattle.gq_scenario.specs.Document.{table_of, init_count, is_long, has_long_routes, names_of, name_twice}

-- the tables of the interfaces
abbrev pub interfaces_at : Members → Members
interfaces_at top = table_of (get_member (codes "interface") top)

-- too many leaves, inits, or routes in a list
abbrev pub are_too_many : Option (List Route) → Nodes → Bool
are_too_many default_routes nodes = nat_lt 64 (leaf_count nodes) || nat_lt 64 (init_count nodes) || is_long default_routes || has_long_routes nodes

-- the first fault of these
abbrev pub parts_fault : Option (List Route) → Nodes → Option DocumentFault
parts_fault default_routes nodes = if are_too_many default_routes nodes then Some TooMany else name_twice (codes "init" ∷ []) (names_of nodes)
