use Rattle.std.proofs.Common.{ℕ, List, Option, Result, map}
use Rattle.toml.specs.View.{table_view, members_view}
use Rattle.gq_reader.specs.Key_rules.{rule_of}
use Rattle.gq_scenario.specs.Top_table.{document_text}
use Rattle.gq_faults.specs.Documents.{unknown_keys}
use Rattle.gq_faults.specs.Reported_faults.{Reporting}
use Rattle.gq_faults.specs.declared.report_error.ReportError.{ReportError}
use Rattle.gq_faults.proofs.table_faults.report_unknown_keys.Given as goal

-- who reports those that are left reports all
abbrev pub invariant-loop-key : goal.invariant-loop-key
invariant-loop-key g l = (goal.iterator-loop-key g).can_next l.key-iterator × (goal.iterator-loop-key g).is_finite l.key-iterator
    × ((after : Option (List ℕ)) (n : ℕ) (r : Result (Unit {0}) ReportError)
    → Reporting l.reporter.path.now (map document_text (unknown_keys (map rule_of l.rules) (members_view l.key-iterator)))
    (g.W.Write.contents l.out.writer) after l.out.failures n r
    → Reporting l.reporter.path.now (map document_text (unknown_keys (map rule_of l.rules) (table_view l.table)))
    (g.W.Write.contents l.fn.out.writer) after l.fn.out.failures n r)
