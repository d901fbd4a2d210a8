-- The tables of a scenario's document.
use Rattle.std.specs.Prelude.{ℕ, ◌%◌, ◌==◌, nat_le, if◌then◌else◌, Bool, true, false, ◌&&◌, ◌||◌, List, [], ◌∷◌, ◌++◌, Option, Some, None, codes}
use Rattle.toml.specs.Data.{Data, table, Items, Members, no_members, member, get_member}
use Rattle.gq_model.specs.machine.Program.{text_eq}
use Rattle.gq_model.specs.machine.Lists.{any_of, between}
use Rattle.gq_model.specs.texts.Letters.{is_name}
use Rattle.gq_model.specs.texts.Operands.{greatest_number}
use Rattle.gq_scenario.specs.Table_keys.{KeyRule, required, optional, either, other, number_of, quantity, items_of, passes, is_number, is_quantity, is_text}
use Rattle.gq_scenario.specs.Table_keys.{is_name_text}
use Rattle.gq_scenario.specs.Table_keys.{is_true, is_table, is_list, list_length, is_hex, text_of}

abbrev pub version_by : Option ℕ → ℕ
version_by None = 1
version_by (Some n) = if n == 2 || n == 3 || n == 4 then n else 1

abbrev pub version_at : Option Data → ℕ
version_at None = 1
version_at (Some d) = version_by (number_of d)

-- what is not version 2, 3 or 4 has the tables of version 1
abbrev pub version_of : Members → ℕ
version_of top = version_at (get_member (codes "version") top)

-- a key that versions from this one on have
abbrev pub since : ℕ → ℕ → KeyRule → List KeyRule
since first version rule = if nat_le first version then rule ∷ [] else []

abbrev pub greatest_caps : ℕ
greatest_caps = 65536

-- whole pages
abbrev pub is_total : Data → Bool
is_total d = passes (λ n. between 4096 67108864 n && n % 4096 == 0) (quantity d)

-- each of these has a name for its key and a table for its value
abbrev pub are_named_tables : Members → Bool
are_named_tables no_members = true
are_named_tables (member key d rest) = is_name key && is_table d && are_named_tables rest

abbrev pub is_named_tables : Data → Bool
is_named_tables (table entries) = are_named_tables entries
is_named_tables _ = false

abbrev pub top_keys : ℕ → List KeyRule
top_keys version =
    required (codes "version") (is_number 1 4) ∷ required (codes "ram") is_total
    ∷ since 2 version (required (codes "caps") (is_number 1 greatest_caps))
    ++ optional (codes "default-route") (is_list is_table) ∷ optional (codes "interface") is_named_tables ∷ required (codes "start") (is_list is_table) ∷ []

abbrev pub items_at : List ℕ → Members → Option Items
items_at key entries = at (get_member key entries)
  where
    at : Option Data → Option Items
    at None = None
    at (Some d) = items_of d

-- as many as there are upgrades
abbrev pub is_upgrade_caps : Members → Data → Bool
is_upgrade_caps entries d =
    is_list (is_number 0 greatest_caps) d && list_length (items_of d) == list_length (items_at (codes "upgrades") entries)

abbrev pub is_upgrades : Data → Bool
is_upgrades d = is_list (is_quantity 0 greatest_number) d && between 0 3 (list_length (items_of d))

abbrev pub interface_keys : ℕ → Members → List KeyRule
interface_keys version entries =
    required (codes "arg") (is_number 0 greatest_number) ∷ required (codes "reply") (is_number 0 greatest_number)
    ∷ required (codes "need") (is_quantity 0 greatest_number)
    ∷ since 2 version (required (codes "need-caps") (is_number 0 greatest_caps))
    ++ optional (codes "object") (is_quantity 0 65536) ∷ optional (codes "upgrades") is_upgrades
    ∷ since 2 version (optional (codes "upgrade-caps") (is_upgrade_caps entries))
    ++ optional (codes "buffer") (is_quantity 0 1048576) ∷ []

-- the name of a declared interface
abbrev pub is_declared : List (List ℕ) → Data → Bool
is_declared services d = passes (λ name. any_of (text_eq name) services) (text_of d)

-- what every node has
abbrev pub node_keys : ℕ → List KeyRule
node_keys version =
    required (codes "name") is_name_text ∷ required (codes "quantum") (is_quantity 0 1099511627776)
    ∷ since 2 version (required (codes "caps") (is_number 0 greatest_caps)) ++ optional (codes "route") (is_list is_table) ∷ []

-- each of these has a name for its key and a name for its value
abbrev pub are_named_names : Members → Bool
are_named_names no_members = true
are_named_names (member key d rest) = is_name key && is_name_text d && are_named_names rest

-- services, each with the name of a child
abbrev pub is_named_names : Data → Bool
is_named_names (table entries) = are_named_names entries
is_named_names _ = false

abbrev pub init_keys : ℕ → List KeyRule
init_keys version =
    node_keys version
    ++ required (codes "start") (is_list is_table) ∷ optional (codes "default-route") (is_list is_table)
    ∷ since 3 version (optional (codes "offers") is_named_names)

-- the greatest values of at most 8 inputs
abbrev pub is_inputs : Data → Bool
is_inputs d = is_list (is_number 0 greatest_number) d && between 0 8 (list_length (items_of d))

-- a leaf handles at most 3 signals
abbrev pub greatest_signals : ℕ
greatest_signals = 3

abbrev pub leaf_keys : ℕ → List (List ℕ) → List KeyRule
leaf_keys version services =
    node_keys version
    ++ optional (codes "provides") (is_declared services) ∷ optional (codes "after") is_name_text
    ∷ since 3 version (optional (codes "inputs") is_inputs)
    ++ since 4 version (optional (codes "signals") (is_number 0 greatest_signals))
    ++ either (codes "program") (codes "code" ∷ []) is_text ∷ other (codes "code") (codes "program" ∷ []) is_hex ∷ []

abbrev pub route_keys : List KeyRule
route_keys =
    either (codes "service") (codes "any-service" ∷ []) is_name_text ∷ other (codes "any-service") (codes "service" ∷ []) is_true
    ∷ either (codes "child") (codes "any-child" ∷ codes "parent" ∷ []) is_name_text ∷ other (codes "any-child") (codes "child" ∷ []) is_true
    ∷ other (codes "parent") (codes "child" ∷ codes "any-child" ∷ []) is_true ∷ []
