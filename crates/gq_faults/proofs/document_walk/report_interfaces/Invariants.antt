use Rattle.std.proofs.Common.{ℕ, List, Option, Result, map}
use Rattle.toml.specs.View.{table_view, members_view}
use Rattle.gq_scenario.specs.Top_table.{document_text}
use Rattle.gq_scenario.specs.Component_trees.{version_number}
use Rattle.gq_faults.specs.Documents.{interfaces_faults}
use Rattle.gq_faults.specs.Reported_faults.{Reporting}
use Rattle.gq_faults.specs.declared.report_error.ReportError.{ReportError}
use Rattle.gq_faults.proofs.document_walk.report_interfaces.Given as goal

-- who reports those that are left reports all
abbrev pub invariant-loop-name : goal.invariant-loop-name
invariant-loop-name g l = (goal.iterator-loop-name g).can_next l.name-iterator × (goal.iterator-loop-name g).is_finite l.name-iterator
    × ((after : Option (List ℕ)) (n : ℕ) (r : Result (Unit {0}) ReportError)
    → Reporting l.reporter.path.now (map document_text (interfaces_faults (version_number l.version) (members_view l.name-iterator)))
    (g.W.Write.contents l.out.writer) after l.out.failures n r
    → Reporting l.reporter.path.now (map document_text (interfaces_faults (version_number l.version) (table_view l.interfaces)))
    (g.W.Write.contents l.fn.out.writer) after l.fn.out.failures n r)
