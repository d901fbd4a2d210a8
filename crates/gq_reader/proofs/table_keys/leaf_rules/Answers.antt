-- The keys of a leaf.
use Rattle.std.proofs.Common.{◌≡◌, ◌∷◌, List, [], ap, map, option_map, sym, ◌∙◌}
use Rattle.toml.specs.View.{table_view}
use Rattle.gq_scenario.specs.declared.scenario.Version.{Version}
use Rattle.gq_scenario.specs.Table_keys as keys
use Rattle.gq_scenario.specs.Component_trees.{version_number}
use Rattle.gq_scenario.specs.Document.{keys_of}
use Rattle.gq_scenario.specs.Document_tables.{leaf_keys}
use Rattle.gq_reader.specs.Key_rules.{entries_or_none, rule_of}
use Rattle.gq_reader.proofs.table_keys.leaf_rules.Goals as goal

pub returns-in-One : goal.returns-in-One
returns-in-One c =
    let names = keys_of (entries_or_none (option_map (λ t. table_view t.now) c.args.interfaces)) in
    let rules : List keys.KeyRule = map rule_of (c.required-name.result ∷ c.required-quantum.result ∷ c.optional-routes.result
    ∷ c.optional-provides.result ∷ c.optional-after.result ∷ c.either-program.result ∷ c.other-code.result ∷ []) in
    let same : rules ≡ leaf_keys 1 names = λ i. c.required-name.ensures i ∷ c.required-quantum.ensures i ∷ c.optional-routes.ensures i
    ∷ c.optional-provides.ensures i ∷ c.optional-after.ensures i ∷ c.either-program.ensures i ∷ c.other-code.ensures i ∷ [] in
    ap (map rule_of) c.listed.ensures ∙ (same ∙ ap (λ (v : Version). leaf_keys (version_number v) names) (sym c.in-One.is))

pub returns-in-Two : goal.returns-in-Two
returns-in-Two c =
    let names = keys_of (entries_or_none (option_map (λ t. table_view t.now) c.args.interfaces)) in
    let rules : List keys.KeyRule = map rule_of (c.required-name.result ∷ c.required-quantum.result ∷ c.required-caps.result
    ∷ c.optional-routes.result ∷ c.optional-provides.result ∷ c.optional-after.result ∷ c.either-program.result ∷ c.other-code.result ∷ []) in
    let same : rules ≡ leaf_keys 2 names = λ i. c.required-name.ensures i ∷ c.required-quantum.ensures i ∷ c.required-caps.ensures i
    ∷ c.optional-routes.ensures i ∷ c.optional-provides.ensures i ∷ c.optional-after.ensures i ∷ c.either-program.ensures i
    ∷ c.other-code.ensures i ∷ [] in
    ap (map rule_of) c.listed-in-Two.ensures ∙ (same ∙ ap (λ (v : Version). leaf_keys (version_number v) names) (sym c.in-Two.is))
