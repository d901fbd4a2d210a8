-- The faults of a node's own table and of its routes, without those below it.
use Rattle.std.specs.Prelude.{ℕ, List, Option, if◌then◌else◌, codes}
use Rattle.toml.specs.Data.{Members}
use Rattle.gq_model.specs.machine.Lists.{or_first}
use Rattle.gq_scenario.specs.Table_keys.{DocumentFault, table_fault}
use Rattle.gq_scenario.specs.Document_tables.{init_keys, leaf_keys}
use Rattle.gq_scenario.specs.Document.{is_init, routes_fault}

-- the table of an init, or of a leaf
abbrev pub keys_fault : ℕ → List (List ℕ) → Members → Option DocumentFault
keys_fault version services entries = table_fault (if is_init entries then init_keys version else leaf_keys version services) entries

abbrev pub own_fault : ℕ → List (List ℕ) → Members → Option DocumentFault
own_fault version services entries =
    or_first (keys_fault version services entries) (or_first (routes_fault (codes "route") entries) (routes_fault (codes "default-route") entries))
