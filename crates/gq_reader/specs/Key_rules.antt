-- The rules of a table's keys, as code has them.
use Rattle.std.specs.Prelude.{ℕ, ◌==◌, Bool, ◌&&◌, Option, Some, None, option_map, map}
use Rattle.toml.specs.Data.{Data, Members, no_members}
use Rattle.toml.specs.View.{table_view}
use Rattle.gq_scenario.specs.Table_keys as keys
use Rattle.gq_scenario.specs.Table_keys.{is_number, is_quantity, is_text, is_hex, is_name_text, is_true, is_table, is_list, list_length, items_of}
use Rattle.gq_scenario.specs.Document_tables.{is_total, is_named_tables, is_named_names, is_upgrades, is_inputs, is_declared, greatest_caps}
use Rattle.gq_scenario.specs.Document.{keys_of}
use Rattle.gq_scenario.specs.Fault_words.{key_text}
use Rattle.gq_reader.specs.declared.rules.ValueRule.{ValueRule}
use Rattle.gq_reader.specs.declared.rules.ValueRule.TheVariants.{Number, Quantity, Total, Text, Hex, NameText, True, Tables, NamedTables, NamedNames}
use Rattle.gq_reader.specs.declared.rules.ValueRule.TheVariants.{Upgrades, Counts, Inputs, Declared}
use Rattle.gq_reader.specs.declared.rules.KeyRule.{KeyRule}

-- the entries of a table that may be missing
abbrev pub entries_or_none : Option Members → Members
entries_or_none None = no_members
entries_or_none (Some entries) = entries

-- so many numbers of capabilities
abbrev pub are_counts : ℕ → Data → Bool
are_counts count d = is_list (is_number 0 greatest_caps) d && list_length (items_of d) == count

-- the test of a value
abbrev pub fits_of : ValueRule → Data → Bool
fits_of (Number low high) = is_number low high
fits_of (Quantity low high) = is_quantity low high
fits_of Total = is_total
fits_of Text = is_text
fits_of Hex = is_hex
fits_of NameText = is_name_text
fits_of True = is_true
fits_of Tables = is_list is_table
fits_of NamedTables = is_named_tables
fits_of NamedNames = is_named_names
fits_of Upgrades = is_upgrades
fits_of (Counts count) = are_counts count
fits_of Inputs = is_inputs
fits_of (Declared services) = is_declared (keys_of (entries_or_none (option_map (λ t. table_view t.now) services)))

abbrev pub rule_of : KeyRule → keys.KeyRule
rule_of r =
    record {
      key = key_text r.key;
      required = r.required;
      instead = map key_text r.instead.now;
      beside = map key_text r.beside.now;
      fits = fits_of r.value;
    }
