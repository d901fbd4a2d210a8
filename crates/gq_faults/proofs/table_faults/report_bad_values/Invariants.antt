use Rattle.std.proofs.Common.{ℕ, List, Option, Result, map, drop}
use Rattle.toml.specs.View.{table_view}
use Rattle.gq_reader.specs.Key_rules.{rule_of}
use Rattle.gq_scenario.specs.Top_table.{document_text}
use Rattle.gq_faults.specs.Found_lists.{all_found}
use Rattle.gq_faults.specs.Documents.{bad_of}
use Rattle.gq_faults.specs.Reported_faults.{Reporting}
use Rattle.gq_faults.specs.declared.report_error.ReportError.{ReportError}
use Rattle.gq_faults.proofs.table_faults.report_bad_values.Given as goal

-- who reports those that are left reports all
abbrev pub invariant-loop-rule : goal.invariant-loop-rule
invariant-loop-rule g l = (after : Option (List ℕ)) (n : ℕ) (r : Result (Unit {0}) ReportError)
    → Reporting l.reporter.path.now (map document_text (all_found (bad_of (table_view l.table)) (map rule_of (drop l.rule-index l.rules))))
    (g.W.Write.contents l.out.writer) after l.out.failures n r
    → Reporting l.reporter.path.now (map document_text (all_found (bad_of (table_view l.table)) (map rule_of l.rules)))
    (g.W.Write.contents l.fn.out.writer) after l.fn.out.failures n r
