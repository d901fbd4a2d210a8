use Rattle.std.proofs.Common.{◌≡◌, [], ◌∷◌, ap, map, refl, sym, ◌∙◌}
use Rattle.toml.specs.View.{table_view}
use Rattle.gq_reader.specs.Key_rules.{rule_of}
use Rattle.gq_scenario.specs.Document_tables.{interface_keys}
use Rattle.gq_reader.proofs.Interface_tables.{counted_keys}
use Rattle.gq_reader.proofs.table_keys.interface_rules.Goals as goal

pub returns-in-Two : goal.returns-in-Two
returns-in-Two c =
    let entries = table_view c.args.table.now in
    let same : map rule_of (c.required-arg.result ∷ c.required-reply.result ∷ c.required-need.result ∷ c.required-need_caps.result ∷ c.optional-object.result
    ∷ c.optional-upgrades.result ∷ c.optional-upgrade_caps.result ∷ c.optional-buffer.result ∷ []) ≡ interface_keys 2 entries =
    rw (
      c.required-arg.ensures,
      c.required-reply.ensures,
      c.required-need.ensures,
      c.required-need_caps.ensures,
      c.optional-object.ensures,
      c.optional-upgrades.ensures,
      c.optional-upgrade_caps.ensures,
      c.count_at-count.ensures,
      c.optional-buffer.ensures,
    ) refl in
    ap (map rule_of) c.listed-in-Two.ensures ∙ (same ∙ sym (counted_keys c.args.version entries c.in-Two.is))
