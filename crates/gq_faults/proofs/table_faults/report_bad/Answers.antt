use Rattle.std.proofs.Common.{◌≡◌, [], ◌∷◌, ap, map, sym, true, ◌∙◌}
use Rattle.toml.specs.Data.{get_member}
use Rattle.toml.specs.View.{table_view}
use Rattle.gq_reader.specs.Key_rules.{rule_of}
use Rattle.gq_scenario.specs.Table_keys.{BadValue, is_bad}
use Rattle.gq_scenario.specs.Top_table.{document_text}
use Rattle.gq_faults.specs.Documents.{bad_of}
use Rattle.gq_faults.specs.Found_lists.{when}
use Rattle.gq_faults.proofs.Known_keys.{bad_value_text}
use Rattle.gq_faults.proofs.Reported_fault_prefixes.{memory_ends, reported_as}
use Rattle.gq_faults.proofs.table_faults.report_bad.Goals as goal

pub returns-in_err-way : goal.returns-in_err-way
returns-in_err-way g c =
    memory_ends c.args.reporter.now.path.now (map document_text (bad_of (table_view c.args.table.now) (rule_of c.args.rule.now))) _ _ c.from_residual.result
    c.from_residual.ensures.1

pub returns : goal.returns
returns g c =
    let entries = table_view c.args.table.now in
    let rule = rule_of c.args.rule.now in
    let bad : is_bad rule entries (get_member rule.key entries) ≡ true = sym c.is_bad.ensures ∙ c.if-not-is_bad.false in
    reported_as c.args.reporter.now.path.now _ (map document_text (bad_of entries rule)) _ _ _ _ c.report_fault.result
    (ap (λ l. l ∷ []) (bad_value_text c.args.rule.now.key) ∙ ap (λ b. map document_text (when b (BadValue rule.key))) (sym bad)) c.report_fault.ensures
